-- What the parts from here on leave, after those kept, is what all parts leave.
use Rattle.std.proofs.Common.{◌≡◌, [], drop}
use Rattle.text_parts.specs.Cuts.{now_all}
use Rattle.mk_paths.specs.FileName.{kept_parts}
use Rattle.mk_paths.proofs.file_name.kept_of.Given as goal

abbrev pub invariant-loop-part : goal.invariant-loop-part
invariant-loop-part l = kept_parts (now_all l.kept.items) (now_all (drop l.part-index l.parts)) ≡ kept_parts [] (now_all l.parts)
