-- What is written so far: the stem, the version and the flavors up to here.
use Rattle.std.proofs.Common.{map, take}
use Rattle.std.specs.Fmt.{HasWritten, IsPlainFormatter}
use Rattle.std.specs.String.{string_bytes}
use Rattle.pkg_name.specs.Name.{name_text}
use Rattle.pkg_name.proofs.name.PkgNameDisplay.fmt.Given as goal

abbrev pub invariant-loop-flavor : goal.invariant-loop-flavor
invariant-loop-flavor g l =
    IsPlainFormatter l.fn.f
    → HasWritten g.W.Write.write_str_gives l.fn.f
    (name_text (record { stem = l.self.stem; version = l.self.version; flavors = map string_bytes (take l.flavor-index l.flavor-items) }))
    l.f
