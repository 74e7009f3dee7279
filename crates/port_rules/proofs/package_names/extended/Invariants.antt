-- The words up to here follow what was there, each after a dash.
use Rattle.std.proofs.Common.{◌≡◌, ◌∷◌, ◌++◌, map, take, string_bytes}
use Rattle.std.specs.List.{flat_map}
use Rattle.text_parts.specs.Cuts.{now_all}
use Rattle.general_facts.specs.Ascii.{dash}
use Rattle.port_rules.proofs.package_names.extended.Given as goal

abbrev pub invariant-loop-flavor : goal.invariant-loop-flavor
invariant-loop-flavor l =
    string_bytes l.text ≡ string_bytes l.initial.text ++ flat_map (λ word. dash ∷ word)
    (map string_bytes (take l.flavor-index l.flavor-items))

abbrev pub invariant-loop-mark : goal.invariant-loop-mark
invariant-loop-mark l =
    string_bytes l.text ≡ string_bytes l.initial.text ++ flat_map (λ word. dash ∷ word) (now_all (take l.mark-index l.marks))
