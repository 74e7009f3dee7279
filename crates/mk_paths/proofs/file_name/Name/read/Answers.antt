-- What was read is resolved.
use Rattle.std.proofs.Common.{◌≡◌, Ok, rules, arith}
use Rattle.std.proofs.lemmas.Grind.{common_steps}
use Rattle.std.specs.String.{string_bytes}
use Rattle.mk_paths.specs.FileName.{resolved}
use Rattle.mk_paths.proofs.Resolving.{resolved-IsResolved}
use Rattle.mk_paths.proofs.file_name.Name.read.Goals as goal

pub invariant_of-result : goal.invariant_of-result
invariant_of-result c =
    let named : resolved c.args.text.now ≡ Ok (string_bytes c.in_ok-text.text) = first_of (search rules, grind (arith, common_steps)) in
    resolved-IsResolved c.args.text.now _ named
