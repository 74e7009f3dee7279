-- The text so far is the parts up to here, each after a slash.
use Rattle.std.proofs.Common.{◌≡◌, take}
use Rattle.std.specs.String.{string_bytes}
use Rattle.text_parts.specs.Cuts.{now_all}
use Rattle.mk_paths.specs.FileName.{with_slashes}
use Rattle.mk_paths.proofs.file_name.join.Given as goal

abbrev pub invariant-loop-part : goal.invariant-loop-part
invariant-loop-part l = string_bytes l.text ≡ with_slashes (now_all (take l.part-index l.parts))
