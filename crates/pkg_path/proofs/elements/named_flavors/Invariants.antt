-- The flavors so far are those that the choices up to here name.
use Rattle.std.proofs.Common.{◌≡◌, map, take}
use Rattle.std.specs.List.{filter}
use Rattle.std.specs.String.{string_bytes}
use Rattle.pkg_path.specs.Paths.{is_flavor}
use Rattle.text_parts.specs.Cuts.{now_all}
use Rattle.pkg_path.proofs.elements.named_flavors.Given as goal

abbrev pub invariant-loop-choice : goal.invariant-loop-choice
invariant-loop-choice l = map string_bytes l.flavors.items ≡ filter is_flavor (now_all (take l.choice-index l.choices))
