-- What was written so far are the names up to here, each after a comma.
use Rattle.std.proofs.Common.{take, map}
use Rattle.std.specs.Fmt.{HasWritten, IsPlainFormatter}
use Rattle.std.specs.String.{string_bytes}
use Rattle.pkg_path.specs.Paths.{choices_text}
use Rattle.pkg_path.proofs.flavors.write_names.Given as goal

abbrev pub invariant-loop-name : goal.invariant-loop-name
invariant-loop-name g l =
    IsPlainFormatter l.initial.f → HasWritten g.W.Write.write_str_gives l.initial.f
    (choices_text (map string_bytes (take l.name-index l.names))) l.f
