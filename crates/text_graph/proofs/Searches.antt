-- What a search keeps from text to text, and what it has at its end.
use Rattle.std.proofs.Common.{◌≡◌, ◌∙◌, sym, ap, refl, subst, ℕ, ◌+◌, ◌<◌, ◌≤◌, true, false, ◌||◌, List, [], ◌∷◌, ◌++◌, map, take, length}
use Rattle.std.proofs.Common.{get_or, arith, length-append}
use Rattle.std.proofs.lemmas.Bool.{or_left, or_right}
use Rattle.std.proofs.lemmas.Cmp.{nat_list_eq_equiv}
use Rattle.std.proofs.lemmas.List.{take_all, take_more, length-map}
use Rattle.std.proofs.lemmas.List.Folds.{list_any-append}
use Rattle.std.proofs.lemmas.Map.Made.{length-le_from_is_member}
use Rattle.std.specs.List.{Contains, All, IsDistinct}
use Rattle.std.specs.Str.{bytes_eq}
use Rattle.general_facts.specs.Bools.{or_elim}
use Rattle.text_graph.specs.Arrows.{ArrowValue, Lead}
use Rattle.text_graph.specs.TextSearch.{is_among, all_added, next_texts, IsFrom, FindsAll}
use Rattle.text_graph.proofs.Adding.{among-all_added, all_apart, same_front, no_shorter}
use Rattle.text_graph.proofs.Members.{in_map, from_map, in_filter, from_filter, among_from, among_by_equal, equal_texts, equal_itself}
use Rattle.text_graph.proofs.Ways.{stay, farther, first_of, behind_first}

-- where arrows end
abbrev pub ends : List ArrowValue → List (List ℕ)
ends arrows = map (λ (arrow : ArrowValue). arrow.to) arrows

-- where the arrows from all texts before a place lead was added
pub record Searched (starts : List (List ℕ)) (arrows : List ArrowValue) (found : List (List ℕ)) (place : ℕ) : Type 0 where
  pub apart : IsDistinct bytes_eq found
  pub within : (text : List ℕ) → is_among text found ≡ true → is_among text (starts ++ ends arrows) ≡ true
  pub begun : (text : List ℕ) → is_among text starts ≡ true → is_among text found ≡ true
  pub gone_on : (arrow : ArrowValue) → Contains arrows arrow → is_among arrow.from (take place found) ≡ true
      → is_among arrow.to found ≡ true
  pub is_from : (text : List ℕ) → is_among text found ≡ true → IsFrom starts arrows text
  pub passed : place ≤ length found

-- a text that is added is one of the new ones, or was there
new_or_there : {P : Type 0} (text : List ℕ) (texts more : List (List ℕ)) → is_among text (all_added texts more) ≡ true
    → (is_among text more ≡ true → P) → (is_among text texts ≡ true → P) → P
new_or_there text texts more among = or_elim (is_among text more) (is_among text texts) (sym (among-all_added text texts more) ∙ among)

is_new : (text : List ℕ) (texts more : List (List ℕ)) → is_among text more ≡ true → is_among text (all_added texts more) ≡ true
is_new text texts more among = among-all_added text texts more ∙ or_left (is_among text more) (is_among text texts) among

was_there : (text : List ℕ) (texts more : List (List ℕ)) → is_among text texts ≡ true → is_among text (all_added texts more) ≡ true
was_there text texts more among = among-all_added text texts more ∙ or_right (is_among text more) (is_among text texts) among

-- a text at which an arrow from this one ends
record Next (arrows : List ArrowValue) (text to : List ℕ) : Type 0 where
  arrow : ArrowValue
  is_arrow : Contains arrows arrow
  begins : arrow.from ≡ text
  ends : arrow.to ≡ to

next_from : (arrows : List ArrowValue) (text to : List ℕ) → is_among to (next_texts arrows text) ≡ true → Next arrows text to
next_from arrows text to among =
    let origin = from_map (λ (arrow : ArrowValue). arrow.to) _ to (among_by_equal to (next_texts arrows text) among) in
    let kept = from_filter (λ (arrow : ArrowValue). bytes_eq text arrow.from) arrows origin.element origin.stands in
    record { arrow = origin.element; is_arrow = kept.0; begins = sym (equal_texts text origin.element.from kept.1); ends = origin.gives }

leads_next : (arrows : List ArrowValue) (text : List ℕ) (arrow : ArrowValue) → Contains arrows arrow → arrow.from ≡ text
    → is_among arrow.to (next_texts arrows text) ≡ true
leads_next arrows text arrow stands begins =
    among_from arrow.to (next_texts arrows text)
    (in_map (λ (arrow : ArrowValue). arrow.to) _ arrow
    (in_filter (λ (arrow : ArrowValue). bytes_eq text arrow.from) arrows arrow stands (ap (bytes_eq text) begins ∙ equal_itself text)))

pub search-begins : (starts : List (List ℕ)) (arrows : List ArrowValue) → Searched starts arrows (all_added [] starts) 0
unfolding IsDistinct
search-begins starts arrows = record {
  apart = all_apart [] starts tt;
  within = λ text among. new_or_there text [] starts among
      (λ is. list_any-append (bytes_eq text) starts (ends arrows) ∙ or_left (is_among text starts) (is_among text (ends arrows)) is)
      (λ none. cc);
  begun = λ text is. is_new text [] starts is;
  gone_on = λ arrow stands none. cc;
  is_from = λ text among. new_or_there text [] starts among
      (λ is. record { start = text; is_start = among_by_equal text starts is; way = stay arrows text text refl })
      (λ none. cc);
  passed = omega arith;
}

-- one more text was gone on from
pub search-goes_on : (starts : List (List ℕ)) (arrows : List ArrowValue) (found : List (List ℕ)) (place : ℕ) (text : List ℕ)
    → Searched starts arrows found place → place < length found → text ≡ get_or found place text
    → Searched starts arrows (all_added found (next_texts arrows text)) (place + 1)
search-goes_on starts arrows found place text so_far inside is =
    let more = next_texts arrows text in
    let here : take (place + 1) (all_added found more) ≡ take place found ++ text ∷ [] =
    same_front found more (place + 1) (omega (arith, inside)) ∙ take_more found place text inside
    ∙ ap (λ t. take place found ++ t ∷ []) (sym is) in
    let was_found : is_among text found ≡ true = among_from text found (place, inside, sym is) in
    record {
      apart = all_apart found more so_far.apart;
      within = λ other among. new_or_there other found more among
          (λ next. let from = next_from arrows text other next in
          list_any-append (bytes_eq other) starts (ends arrows)
          ∙ or_right (is_among other starts) (is_among other (ends arrows))
          (ap (λ t. is_among t (ends arrows)) (sym from.ends) ∙ among_from from.arrow.to (ends arrows)
          (in_map (λ (arrow : ArrowValue). arrow.to) arrows from.arrow from.is_arrow)))
          (so_far.within other);
      begun = λ other among. was_there other found more (so_far.begun other among);
      gone_on = λ arrow stands among.
          or_elim (is_among arrow.from (take place found)) (bytes_eq arrow.from text || false)
          (sym (list_any-append (bytes_eq arrow.from) (take place found) (text ∷ [])) ∙ ap (is_among arrow.from) (sym here) ∙ among)
          (λ before. was_there arrow.to found more (so_far.gone_on arrow stands before))
          (λ last. or_elim (bytes_eq arrow.from text) false last
          (λ same. is_new arrow.to found more (leads_next arrows text arrow stands (equal_texts arrow.from text same)))
          (λ none. cc));
      is_from = λ other among. new_or_there other found more among
          (λ next.
          let from = next_from arrows text other next in
          let known = so_far.is_from text was_found in
          subst (IsFrom starts arrows) from.ends
          (record {
            start = known.start;
            is_start = known.is_start;
            way = farther arrows known.start text from.arrow known.way
                from.is_arrow from.begins;
          }))
          (so_far.is_from other);
      passed = omega (arith, inside, no_shorter found more);
    }

-- the texts that were found are no more than the starts and the arrows
pub search-bound : (starts : List (List ℕ)) (arrows : List ArrowValue) (found : List (List ℕ)) (place : ℕ)
    → Searched starts arrows found place
    → length found ≤ length starts + length arrows
search-bound starts arrows found place so_far =
    let bound = length-le_from_is_member nat_list_eq_equiv found (starts ++ ends arrows) so_far.apart so_far.within in
    omega (arith, bound, length-append starts (ends arrows), length-map arrows (λ (arrow : ArrowValue). arrow.to))

closed_over : (arrows : List ArrowValue) (found : List (List ℕ))
    → ((arrow : ArrowValue) → Contains arrows arrow → is_among arrow.from found ≡ true → is_among arrow.to found ≡ true)
    → (way : List ArrowValue) (from to : List ℕ) → All (Contains arrows) way → Lead way from to → is_among from found ≡ true
    → is_among to found ≡ true
unfolding Lead
closed_over arrows found closed [] from to all lead among = ap (λ t. is_among t found) (sym lead) ∙ among
closed_over arrows found closed (step ∷ way) from to all lead among =
    closed_over arrows found closed way step.to to (behind_first (Contains arrows) step way all) lead.1
    (closed step (first_of (Contains arrows) step way all) (ap (λ t. is_among t found) lead.0 ∙ among))

-- once all were gone on from, all are found
pub search-ends : (starts : List (List ℕ)) (arrows : List ArrowValue) (found : List (List ℕ)) (place : ℕ)
    → Searched starts arrows found place → length found ≤ place
    → FindsAll starts arrows found
search-ends starts arrows found place so_far past = λ text.
    let all : take place found ≡ found = take_all place found past in
    let closed : (arrow : ArrowValue) → Contains arrows arrow → is_among arrow.from found ≡ true → is_among arrow.to found ≡ true =
    λ arrow stands among. so_far.gone_on arrow stands (ap (is_among arrow.from) all ∙ among) in (
      so_far.is_from text,
      λ from. closed_over arrows found closed from.way.way from.start text from.way.are_arrows from.way.lead
          (so_far.begun from.start (among_from from.start starts from.is_start)),
    )
