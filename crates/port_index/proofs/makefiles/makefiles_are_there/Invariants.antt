-- The makefiles among the names up to here are there, and the files are as they were.
use Rattle.std.proofs.Common.{◌≡◌, ℕ, List, None, true, false, map, string_bytes}
use Rattle.std.specs.BTreeSet.{keys}
use Rattle.std.specs.FinMap.{contains_key}
use Rattle.port_index.specs.FilledRows.{is_one_of}
use Rattle.port_index.specs.KeptFiles.{KeepsFiles}
use Rattle.port_index.specs.Makefiles.{is_makefile}
use Rattle.port_index.proofs.makefiles.makefiles_are_there.Given as goal

abbrev pub invariant-loop-name : goal.invariant-loop-name
invariant-loop-name g l =
    (goal.iterator-loop-name g).can_next l.name-iterator ×
    (goal.iterator-loop-name g).is_finite l.name-iterator ×
    KeepsFiles None (g.F.Names.view l.initial.files) (g.F.Names.view l.files) ×
    ((name : List ℕ) → is_one_of name (map string_bytes (keys l.names)) ≡ true → is_one_of name (map string_bytes l.name-iterator) ≡ false
    → is_makefile name ≡ true → contains_key (g.F.Names.view l.initial.files).files name ≡ true)
