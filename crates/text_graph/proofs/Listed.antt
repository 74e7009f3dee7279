-- The lists of the texts that are reached have just these, in order; and no other list has.
use Rattle.std.proofs.Common.{◌≡◌, ◌∙◌, sym, ap, refl, subst, ℕ, zero, suc, ◌≤◌, ◌↔◌, Bool, ◌||◌, List, [], ◌∷◌, map, length, arith, inl}
use Rattle.std.proofs.Common.{inr, le_refl}
use Rattle.std.proofs.lemmas.List.Elements.{Contains-append_left, Contains-append_right, Contains-append_cases}
use Rattle.std.proofs.lemmas.Map.Text.{is_eq-slice_cmp}
use Rattle.std.specs.Bool.{one_answer}
use Rattle.std.specs.List.{Contains, All, filter}
use Rattle.std.specs.Cmp.Lexicographic.{slice_cmp}
use Rattle.std.specs.Ordering.{nat_cmp, eq_by_cmp}
use Rattle.std.specs.Str.{bytes_eq}
use Rattle.text_parts.specs.Order.{in_order}
use Rattle.text_parts.specs.Ordered.{among, in_order-sorted, among-in_order, same_in_order}
use Rattle.text_graph.specs.Arrows.{ArrowValue, Lead, Way}
use Rattle.text_graph.specs.Reach.{IsReached, Reaches, ListsJust}
use Rattle.text_graph.specs.TextSearch.{is_among, IsFrom}
use Rattle.text_graph.specs.Listed.{next_to, within, reached_list, reaching_list}
use Rattle.text_graph.proofs.Members.{here, nothing_in, head_or_tail, in_map, from_map, in_filter, from_filter, among_from, among_by_equal}
use Rattle.text_graph.proofs.Short.{short}
use Rattle.text_graph.proofs.Ways.{stay, first_of, behind_first, in_front}

-- what is found within so many arrows is reached

reached_next : (arrows : List ArrowValue) (texts : List (List ℕ)) (text : List ℕ) → IsFrom (next_to arrows texts) arrows text
    → IsFrom texts arrows text
reached_next arrows texts text later =
    let begun = from_map (λ (arrow : ArrowValue). arrow.to) (filter (λ (arrow : ArrowValue). is_among arrow.from texts) arrows)
    later.start later.is_start in
    let stands = from_filter (λ (arrow : ArrowValue). is_among arrow.from texts) arrows begun.element begun.stands in
    record {
      start = begun.element.from;
      is_start = among_by_equal begun.element.from texts stands.1;
      way = in_front arrows begun.element text stands.0 (subst (λ from. Way arrows from text) (sym begun.gives) later.way);
    }

from_within : (count : ℕ) (arrows : List ArrowValue) (texts : List (List ℕ)) (text : List ℕ) → Contains (within count arrows texts) text
    → IsFrom texts arrows text
unfolding within
from_within zero arrows texts text stands = record { start = text; is_start = stands; way = stay arrows text text refl }
from_within (suc count) arrows texts text stands =
    elim (Contains-append_cases texts (within count arrows (next_to arrows texts)) text stands) [
      | inl first ↦ record { start = text; is_start = first; way = stay arrows text text refl }
      | inr later ↦ reached_next arrows texts text (from_within count arrows (next_to arrows texts) text later)
    ]

-- what is reached over so many arrows is found within them
in_within : (count : ℕ) (arrows : List ArrowValue) (texts : List (List ℕ)) (way : List ArrowValue) (from to : List ℕ) → length way ≤ count
    → All (Contains arrows) way
    → Contains texts from → Lead way from to → Contains (within count arrows texts) to
unfolding within Lead
in_within zero arrows texts [] from to fits all stands lead = subst (Contains texts) lead stands
in_within (suc count) arrows texts [] from to fits all stands lead = Contains-append_left texts (within count arrows (next_to arrows texts))
    to (subst (Contains texts) lead stands)
in_within zero arrows texts (a ∷ way) from to fits all stands lead = absurd (omega (arith, fits))
in_within (suc count) arrows texts (a ∷ way) from to fits all stands lead =
    let begins = among_from a.from texts (subst (Contains texts) (sym lead.0) stands) in
    let next = in_map (λ (arrow : ArrowValue). arrow.to) _ a (in_filter (λ (arrow : ArrowValue). is_among arrow.from texts) arrows a
    (first_of (Contains arrows) a way all) begins) in
    Contains-append_right texts (within count arrows (next_to arrows texts)) to
    (in_within count arrows (next_to arrows texts) way a.to to (omega (arith, fits)) (behind_first (Contains arrows) a way all) next lead.1)

-- as many arrows as there are will do
all_within : (arrows : List ArrowValue) (texts : List (List ℕ)) (text : List ℕ) → IsFrom texts arrows text
    → Contains (within (length arrows) arrows texts) text
all_within arrows texts text reached =
    let way = short (length reached.way.way) arrows reached.way.way reached.start text (le_refl _)
    reached.way.are_arrows reached.way.lead in
    in_within (length arrows) arrows texts way.way reached.start text way.fits way.are_arrows reached.is_start way.lead

-- the same texts in order are one list

among_by_order : (q : List ℕ) (texts : List (List ℕ)) → among q texts ≡ is_among q texts
among_by_order q [] = refl
among_by_order q (text ∷ texts) = ap (λ same. same || among q texts) (is_eq-slice_cmp q text) ∙ ap (λ later. bytes_eq q text || later)
    (among_by_order q texts)

among_others : (texts others : List (List ℕ)) → ((q : List ℕ) → Contains texts q ↔ Contains others q) → (q : List ℕ)
    → is_among q texts ≡ is_among q others
among_others texts others same q =
    one_answer (is_among q texts) (is_among q others)
    ((λ e. among_from q others ((same q).0 (among_by_equal q texts e))), (λ e. among_from q texts ((same q).1 (among_by_equal q others e))))
    ((λ e. e), (λ e. e))

in_order-same : (texts : List (List ℕ)) (q : List ℕ) → is_among q (in_order texts) ≡ is_among q texts
in_order-same texts q = sym (among_by_order q (in_order texts)) ∙ among-in_order (eq_by_cmp (slice_cmp nat_cmp) q) texts
    ∙ among_by_order q texts

-- the texts of which something holds, in order, are a list of just these
lists_in_order : (P : List ℕ → Type 0) (texts : List (List ℕ)) → ((text : List ℕ) → Contains texts text ↔ P text)
    → ListsJust P (in_order texts)
lists_in_order P texts just = record {
  in_order = in_order-sorted texts;
  just = λ text. (
    (λ stands. (just text).0 (among_by_equal text texts (sym (in_order-same texts text) ∙ among_from text (in_order texts) stands))),
    (λ holds. among_by_equal text (in_order texts) (in_order-same texts text ∙ among_from text texts ((just text).1 holds))),
  );
}

-- and the only one
only_list : (P : List ℕ → Type 0) (texts others : List (List ℕ)) → ListsJust P texts → ListsJust P others → texts ≡ others
only_list P texts others lists also =
    same_in_order texts others lists.in_order also.in_order (λ q.
    among_by_order q texts
    ∙ among_others texts others
    (λ text. ((λ stands. (also.just text).1 ((lists.just text).0 stands)), (λ stands. (lists.just text).1 ((also.just text).0 stands))))
    q
    ∙ sym (among_by_order q others))

-- the texts that are reached
from_first : (first arrows : List ArrowValue) (text : List ℕ) → IsFrom (map (λ (arrow : ArrowValue). arrow.to) first) arrows text
    → IsReached first arrows text
from_first first arrows text reached =
    let begun = from_map (λ (arrow : ArrowValue). arrow.to) first reached.start reached.is_start in
    record { start = begun.element; is_first = begun.stands; further = subst (λ from. Way arrows from text) (sym begun.gives) reached.way }

pub listed_reached : (first arrows : List ArrowValue) → ListsJust (IsReached first arrows) (reached_list first arrows)
listed_reached first arrows =
    lists_in_order (IsReached first arrows) (within (length arrows) arrows (map (λ (arrow : ArrowValue). arrow.to) first)) (λ text. (
      (λ stands. from_first first arrows text (from_within (length arrows) arrows _ text stands)),
      (λ reached. all_within arrows _ text
          (record {
            start = reached.start.to;
            is_start = in_map (λ (arrow : ArrowValue). arrow.to) first reached.start reached.is_first;
            way = reached.further;
          })),
    ))

pub told_reached : (first arrows : List ArrowValue) (texts : List (List ℕ)) → ListsJust (IsReached first arrows) texts
    → texts ≡ reached_list first arrows
told_reached first arrows texts lists = only_list (IsReached first arrows) texts (reached_list first arrows) lists
    (listed_reached first arrows)

-- the texts that reach one

alone : (from text : List ℕ) → Contains (text ∷ []) from → text ≡ from
alone from text stands = elim (head_or_tail text [] from stands) [ inl is ↦ is | inr c ↦ nothing_in from c ]

to_goal : (arrows : List ArrowValue) (goal : List ℕ) (arrow : ArrowValue) → IsFrom (arrow.to ∷ []) arrows goal → Way arrows arrow.to goal
to_goal arrows goal arrow reached = subst (λ from. Way arrows from goal) (sym (alone reached.start arrow.to reached.is_start)) reached.way

leads_to : List ArrowValue → List ℕ → ArrowValue → Bool
leads_to arrows goal arrow = is_among goal (within (length arrows) arrows (arrow.to ∷ []))

pub listed_reaching : (arrows : List ArrowValue) (goal : List ℕ) → ListsJust (Reaches arrows goal) (reaching_list arrows goal)
unfolding leads_to
listed_reaching arrows goal =
    lists_in_order (Reaches arrows goal) (map (λ (arrow : ArrowValue). arrow.from) (filter (leads_to arrows goal) arrows)) (λ text. (
      (λ stands.
          let begun = from_map (λ (arrow : ArrowValue). arrow.from) (filter (leads_to arrows goal) arrows) text stands in
          let kept = from_filter (leads_to arrows goal) arrows begun.element begun.stands in
          record {
            start = begun.element;
            is_arrow = kept.0;
            begins = begun.gives;
            further = to_goal arrows goal begun.element (from_within (length arrows) arrows (begun.element.to ∷ []) goal
                (among_by_equal goal _ kept.1));
          }),
      (λ reaches.
          let found = all_within arrows (reaches.start.to ∷ []) goal
          (record { start = reaches.start.to; is_start = here reaches.start.to []; way = reaches.further }) in
          let kept = in_filter (leads_to arrows goal) arrows reaches.start reaches.is_arrow (among_from goal _ found) in
          subst (Contains (map (λ (arrow : ArrowValue). arrow.from) (filter (leads_to arrows goal) arrows))) reaches.begins
          (in_map (λ (arrow : ArrowValue). arrow.from) _ reaches.start kept)),
    ))

pub told_reaching : (arrows : List ArrowValue) (goal : List ℕ) (texts : List (List ℕ)) → ListsJust (Reaches arrows goal) texts
    → texts ≡ reaching_list arrows goal
told_reaching arrows goal texts lists = only_list (Reaches arrows goal) texts (reaching_list arrows goal) lists
    (listed_reaching arrows goal)
