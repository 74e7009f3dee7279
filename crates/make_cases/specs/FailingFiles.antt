-- Files of which one call fails.
use Rattle.std.specs.Prelude.{None}
use Rattle.mk_paths.specs.FilesView.{FilesView}
use Rattle.mk_paths.specs.declared.files.FilesFault.{FilesFault}
use Rattle.make_cases.specs.declared.failing_files.FailingFiles.{FailingFiles}

-- the view of files that they are: those in memory, with their own count of failures
abbrev pub view_of : FailingFiles → FilesView
view_of failing = record { files = failing.files.now.files; log = None; failures = failing.failures }

-- they may fail with any fault
abbrev pub IsAnyFault : FilesFault → Type 0
IsAnyFault fault = Unit {0}
