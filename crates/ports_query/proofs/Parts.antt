-- A part that is somewhere in a text.
use Rattle.std.proofs.Common.{◌≡◌, ◌∙◌, sym, ap, refl, ℕ, Bool, true, ◌↔◌, List, [], ◌∷◌, ◌++◌, length, take, drop, nat_eq}
use Rattle.std.proofs.lemmas.Bool.{or_left, or_right}
use Rattle.std.proofs.lemmas.List.{take-append-drop, take_at}
use Rattle.std.proofs.lemmas.Slice.Eq.{bytes_eq-Decides}
use Rattle.std.specs.List.{starts_with}
use Rattle.std.specs.Str.Iter.{HasSubslice}
use Rattle.std.specs.Cmp.{both_ways}
use Rattle.general_facts.specs.Bools.{or_elim}
use Rattle.ports_query.specs.Candidate.{has_part}

at_front : (text part : List ℕ) → starts_with nat_eq text part ≡ true → HasSubslice text part
at_front text part begins =
    let same : part ≡ take (length part) text = (bytes_eq-Decides part (take (length part) text)).0 begins in
    ([], drop (length part) text, sym (ap (λ front. front ++ drop (length part) text) same ∙ take-append-drop (length part) text))

-- it is there where it is found
pub part_stands : (text part : List ℕ) → has_part part text ≡ true → HasSubslice text part
unfolding has_part
part_stands [] part is = at_front [] part is
part_stands (byte ∷ rest) part is =
    or_elim (starts_with nat_eq (byte ∷ rest) part) (has_part part rest) is (at_front (byte ∷ rest) part)
    (λ further. let stands = part_stands rest part further in (byte ∷ stands.0, stands.1, ap (λ t. byte ∷ t) stands.2))

begins_with : (part behind : List ℕ) → starts_with nat_eq (part ++ behind) part ≡ true
begins_with part behind = (bytes_eq-Decides part (take (length part) (part ++ behind))).1 (sym (take_at part behind (length part) refl))

from_front : (text part : List ℕ) → starts_with nat_eq text part ≡ true → has_part part text ≡ true
unfolding has_part
from_front [] part begins = begins
from_front (byte ∷ rest) part begins = or_left (starts_with nat_eq (byte ∷ rest) part) (has_part part rest) begins

found_after : (before part behind : List ℕ) → has_part part (before ++ (part ++ behind)) ≡ true
unfolding has_part
found_after [] part behind = from_front (part ++ behind) part (begins_with part behind)
found_after (byte ∷ before) part behind =
    or_right (starts_with nat_eq (byte ∷ (before ++ (part ++ behind))) part) (has_part part (before ++ (part ++ behind)))
    (found_after before part behind)

-- it is found where it is
pub part_found : (text part : List ℕ) → HasSubslice text part → has_part part text ≡ true
part_found text part (before, behind, is) = ap (has_part part) is ∙ found_after before part behind

-- an answer that is right both ways
pub part_answer : (answer : Bool) (text part : List ℕ) → (answer ≡ true) ↔ HasSubslice text part → answer ≡ has_part part text
part_answer answer text part says = both_ways answer (has_part part text) (λ is. part_found text part (says.0 is))
    (λ is. says.1 (part_stands text part is))
