-- Ways that are made longer, at their ends and at their fronts, and are gone the other way round.
use Rattle.std.proofs.Common.{◌≡◌, sym, refl, subst, ℕ, List, [], ◌∷◌}
use Rattle.std.proofs.lemmas.List.Elements.{All-cons, All-nil, All-from_recursion, recursion_from_All}
use Rattle.std.specs.List.{Contains, All}
use Rattle.text_graph.specs.Arrows.{ArrowValue, Lead, Way}
use Rattle.text_graph.specs.TextSearch.{turned}

-- one stays
pub stay : (arrows : List ArrowValue) (from to : List ℕ) → from ≡ to → Way arrows from to
unfolding Lead
stay arrows from to is = record { way = []; are_arrows = All-nil (Contains arrows); lead = is }

-- what holds of all elements holds of the first, and of those after it
pub first_of : {X : Type 0} (P : X → Type 0) (x : X) (xs : List X) → All P (x ∷ xs) → P x
first_of P x xs all = (recursion_from_All P (x ∷ xs) all).0

pub behind_first : {X : Type 0} (P : X → Type 0) (x : X) (xs : List X) → All P (x ∷ xs) → All P xs
behind_first P x xs all = All-from_recursion P xs (recursion_from_All P (x ∷ xs) all).1

-- an arrow before a way
pub in_front : (arrows : List ArrowValue) (arrow : ArrowValue) (to : List ℕ) → Contains arrows arrow → Way arrows arrow.to to
    → Way arrows arrow.from to
unfolding Lead
in_front arrows arrow to stands further = record {
  way = arrow ∷ further.way;
  are_arrows = All-cons (Contains arrows) arrow further.way stands further.are_arrows;
  lead = (refl, further.lead);
}

-- an arrow after a way
pub at_end : (arrows : List ArrowValue) (way : List ArrowValue) (from : List ℕ) (arrow : ArrowValue)
    → All (Contains arrows) way → Contains arrows arrow
    → Lead way from arrow.from → Way arrows from arrow.to
unfolding Lead
at_end arrows [] from arrow all stands lead = subst (λ text. Way arrows text arrow.to) (sym lead)
    (in_front arrows arrow arrow.to stands (stay arrows arrow.to arrow.to refl))
at_end arrows (step ∷ way) from arrow all stands lead =
    subst (λ text. Way arrows text arrow.to) lead.0
    (in_front arrows step arrow.to (first_of (Contains arrows) step way all)
    (at_end arrows way step.to arrow (behind_first (Contains arrows) step way all) stands lead.1))

pub farther : (arrows : List ArrowValue) (from to : List ℕ) (arrow : ArrowValue) → Way arrows from to → Contains arrows arrow
    → arrow.from ≡ to → Way arrows from arrow.to
farther arrows from to arrow so_far stands begins =
    at_end arrows so_far.way from arrow so_far.are_arrows stands (subst (λ text. Lead so_far.way from text) (sym begins) so_far.lead)

-- a way over the same arrows, turned
back_over : (arrows back : List ArrowValue) → ((arrow : ArrowValue) → Contains arrows arrow → Contains back (turned arrow))
    → (way : List ArrowValue) (from to : List ℕ)
    → All (Contains arrows) way → Lead way from to → Way back to from
unfolding Lead
back_over arrows back turns [] from to all lead = stay back to from (sym lead)
back_over arrows back turns (step ∷ way) from to all lead =
    subst (λ text. Way back to text) lead.0
    (farther back to step.to (turned step) (back_over arrows back turns way step.to to (behind_first (Contains arrows) step way all) lead.1)
    (turns step (first_of (Contains arrows) step way all)) refl)

pub turned_back : (arrows back : List ArrowValue) → ((arrow : ArrowValue) → Contains arrows arrow → Contains back (turned arrow))
    → (from to : List ℕ)
    → Way arrows from to → Way back to from
turned_back arrows back turns from to so_far = back_over arrows back turns so_far.way from to so_far.are_arrows so_far.lead

-- a way over one or more arrows, by its first arrow
pub record Begun (arrows : List ArrowValue) (from to : List ℕ) : Type 0 where
  pub first : ArrowValue
  pub is_arrow : Contains arrows first
  pub begins : first.from ≡ from
  pub further : Way arrows first.to to

-- by its last arrow
pub record Ended (arrows : List ArrowValue) (from to : List ℕ) : Type 0 where
  pub last : ArrowValue
  pub is_arrow : Contains arrows last
  pub ends : last.to ≡ to
  pub before : Way arrows from last.from

begun_over : (arrows : List ArrowValue) (last : ArrowValue) → Contains arrows last → (way : List ArrowValue) (from : List ℕ)
    → All (Contains arrows) way → Lead way from last.from
    → Begun arrows from last.to
unfolding Lead
begun_over arrows last stands [] from all lead = record {
  first = last;
  is_arrow = stands;
  begins = sym lead;
  further =
      stay arrows last.to last.to refl;
}
begun_over arrows last stands (step ∷ way) from all lead = record {
  first = step;
  is_arrow = first_of (Contains arrows) step way all;
  begins = lead.0;
  further = at_end arrows way step.to last (behind_first (Contains arrows) step way all) stands lead.1;
}

pub begun : (arrows : List ArrowValue) (from to : List ℕ) → Ended arrows from to → Begun arrows from to
begun arrows from to ended =
    subst (λ text. Begun arrows from text) ended.ends
    (begun_over arrows ended.last ended.is_arrow ended.before.way from ended.before.are_arrows ended.before.lead)

ended_over : (arrows : List ArrowValue) (way : List ArrowValue) (first : ArrowValue) (to : List ℕ) → Contains arrows first
    → All (Contains arrows) way → Lead way first.to to
    → Ended arrows first.from to
unfolding Lead
ended_over arrows [] first to stands all lead = record {
  last = first;
  is_arrow = stands;
  ends = lead;
  before =
      stay arrows first.from first.from refl;
}
ended_over arrows (step ∷ way) first to stands all lead =
    let further = ended_over arrows way step to (first_of (Contains arrows) step way all)
    (behind_first (Contains arrows) step way all) lead.1 in
    record {
      last = further.last;
      is_arrow = further.is_arrow;
      ends = further.ends;
      before = in_front arrows first further.last.from stands (subst (λ text. Way arrows text further.last.from) lead.0 further.before);
    }

pub ended : (arrows : List ArrowValue) (from to : List ℕ) → Begun arrows from to → Ended arrows from to
ended arrows from to begun =
    subst (λ text. Ended arrows text to) begun.begins
    (ended_over arrows begun.further.way begun.first to begun.is_arrow begun.further.are_arrows begun.further.lead)
