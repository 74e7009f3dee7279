-- One text more that was met, and what the slots know.
use Rattle.std.proofs.Common.{◌≡◌, ◌∙◌, sym, ap, refl, subst, ℕ, ◌<◌, Bool, true, false, cond, eqb, List, [], ◌∷◌, ◌++◌, set, length}
use Rattle.std.proofs.Common.{get_or, Option, Some, None, arith}
use Rattle.std.proofs.lemmas.Bool.{false≢true, eqb-true, eq-eqb}
use Rattle.std.proofs.lemmas.List.{get_or-set_same, get_or-set_other, get_or_append_left, get_or_push, length_push}
use Rattle.std.proofs.lemmas.Option.{none-some, same_Some}
use Rattle.std.specs.Str.{bytes_eq}
use Rattle.text_graph.specs.Numbers.{place_of, text_at, place_kept}
use Rattle.text_graph.proofs.Members.{equal_texts, equal_itself}
use Rattle.text_graph.proofs.Numbered.{place-new, place-last, place-more_by}

-- the first text of a slot, by the marks of the slots
abbrev pub first_by : (List ℕ → ℕ) → List (Option ℕ) → List ℕ → Option ℕ
first_by slot marks text = get_or marks (slot text) None

-- what the slots know
pub record Knows (slot : List ℕ → ℕ) (met : List (List ℕ)) (marks : List (Option ℕ)) (other : List ℕ → Option ℕ) : Type 0 where
  pub inside : (text : List ℕ) (number : ℕ) → first_by slot marks text ≡ Some number → number < length met
  pub spare : (text : List ℕ) → first_by slot marks text ≡ None → other text ≡ None
  pub knows : (text : List ℕ) → place_kept met text (first_by slot marks text) (other text) ≡ place_of met text

-- what is kept of a text stays if one more is met
kept_stays : (met : List (List ℕ)) (more text : List ℕ) (first other : Option ℕ)
    → ((number : ℕ) → first ≡ Some number → number < length met)
    → place_kept (met ++ more ∷ []) text first other ≡ place_kept met text first other
kept_stays met more text None other inside = refl
kept_stays met more text (Some number) other inside =
    ap (λ at. cond (bytes_eq text at) (Some number) other) (get_or_append_left met (more ∷ []) [] number (inside number refl))

-- texts of different slots differ
slots_differ : (slot : List ℕ → ℕ) (text other : List ℕ) (b : Bool) → bytes_eq text other ≡ b
    → eqb (slot other) (slot text) ≡ false → b ≡ false
slots_differ slot text other false is apart = refl
slots_differ slot text other true is apart =
    absurd (false≢true (sym apart ∙ eq-eqb (slot other) (slot text) (ap slot (sym (equal_texts text other is)))))

module _ (slot : List ℕ → ℕ) (met : List (List ℕ)) (marks : List (Option ℕ)) (other : List ℕ → Option ℕ)
    (so_far : Knows slot met marks other) (text : List ℕ) where
  -- no text of this slot was met
  pub new_in_slot : first_by slot marks text ≡ None → place_of met text ≡ None
  new_in_slot none = sym (so_far.knows text) ∙ ap (λ first. place_kept met text first (other text)) none ∙ so_far.spare text none

  -- a text that isn't the first of its slot is among the others, or wasn't met
  pub among_others : (first : ℕ) → first_by slot marks text ≡ Some first → bytes_eq text (text_at met first) ≡ false
      → place_of met text ≡ other text
  among_others first kept differs =
      sym (so_far.knows text) ∙ ap (λ found. place_kept met text found (other text)) kept
      ∙ ap (λ same. cond same (Some first) (other text)) differs

  -- the first text of its slot
  module _ (none : first_by slot marks text ≡ None) (fits : slot text < length marks) where
    at_same : (q : List ℕ) → eqb (slot q) (slot text) ≡ true
        → first_by slot (set marks (slot text) (Some (length met))) q ≡ Some (length met)
    at_same q same = ap (λ place. get_or (set marks (slot text) (Some (length met))) place None) (eqb-true (slot q) (slot text) same)
        ∙ get_or-set_same marks (slot text) (Some (length met)) None fits

    at_other : (q : List ℕ) → eqb (slot q) (slot text) ≡ false → first_by slot (set marks (slot text) (Some (length met)))
        q ≡ first_by slot marks q
    at_other q apart = get_or-set_other marks (slot text) (slot q) (Some (length met)) None
        (λ same. false≢true (sym apart ∙ eq-eqb (slot q) (slot text) same))

    was_none : (q : List ℕ) → eqb (slot q) (slot text) ≡ true → first_by slot marks q ≡ None
    was_none q same = ap (λ place. get_or marks place None) (eqb-true (slot q) (slot text) same) ∙ none

    inside_by : (q : List ℕ) (number : ℕ) (b : Bool) → eqb (slot q) (slot text) ≡ b
        → first_by slot (set marks (slot text) (Some (length met))) q ≡ Some number → number < length (met ++ text ∷ [])
    inside_by q number true same is =
        let last : length met ≡ number = same_Some (length met) number (sym (at_same q same) ∙ is) in
        omega (arith, last, length_push met text)
    inside_by q number false apart is =
        let before = so_far.inside q number (sym (at_other q apart) ∙ is) in
        omega (arith, before, length_push met text)

    spare_by : (q : List ℕ) (b : Bool) → eqb (slot q) (slot text) ≡ b → first_by slot (set marks (slot text) (Some (length met)))
        q ≡ None → other q ≡ None
    spare_by q true same is = absurd (none-some (length met) (sym is ∙ at_same q same))
    spare_by q false apart is = so_far.spare q (sym (at_other q apart) ∙ is)

    knows_by : (q : List ℕ) (b : Bool) → eqb (slot q) (slot text) ≡ b
        → place_kept (met ++ text ∷ []) q (first_by slot (set marks (slot text) (Some (length met))) q) (other q) ≡
        place_of (met ++ text ∷ []) q
    knows_by q true same =
        let nothing = so_far.spare q (was_none q same) in
        let new : place_of met q ≡ None = sym (so_far.knows q) ∙ ap (λ first. place_kept met q first (other q))
        (was_none q same) ∙ nothing in
        ap (λ first. place_kept (met ++ text ∷ []) q first (other q)) (at_same q same)
        ∙ ap (λ at. cond (bytes_eq q at) (Some (length met)) (other q)) (get_or_push met text [] (length met) refl)
        ∙ ap (λ found. cond (bytes_eq q text) (Some (length met)) found) nothing
        ∙ sym (place-new met text q new)
    knows_by q false apart =
        ap (λ first. place_kept (met ++ text ∷ []) q first (other q)) (at_other q apart)
        ∙ kept_stays met text q (first_by slot marks q) (other q) (so_far.inside q)
        ∙ so_far.knows q
        ∙ place-more_by met text (new_in_slot none) q false (slots_differ slot text q (bytes_eq text q) refl apart)

    pub knows-first : Knows slot (met ++ text ∷ []) (set marks (slot text) (Some (length met))) other
    knows-first = record {
      inside = λ q number is. inside_by q number (eqb (slot q) (slot text)) refl is;
      spare = λ q is. spare_by q (eqb (slot q) (slot text)) refl is;
      knows = λ q. knows_by q (eqb (slot q) (slot text)) refl;
    }

  -- one that isn't the first of its slot, and wasn't met
  module _ (first : ℕ) (kept : first_by slot marks text ≡ Some first) (differs : bytes_eq text (text_at met first) ≡ false)
      (new : place_of met text ≡ None)
      (after : List ℕ → Option ℕ) (updated : (q : List ℕ) → after q ≡ cond (bytes_eq text q) (Some (length met)) (other q)) where
    spare_too : (q : List ℕ) (b : Bool) → bytes_eq text q ≡ b → first_by slot marks q ≡ None → after q ≡ None
    spare_too q true same is = absurd (none-some first (sym is ∙ ap (first_by slot marks) (sym (equal_texts text q same)) ∙ kept))
    spare_too q false apart is = updated q ∙ ap (λ b. cond b (Some (length met)) (other q)) apart ∙ so_far.spare q is

    knows_itself : place_kept (met ++ text ∷ []) text (first_by slot marks text) (after text) ≡ place_of (met ++ text ∷ []) text
    knows_itself =
        kept_stays met text text (first_by slot marks text) (after text) (so_far.inside text)
        ∙ ap (λ found. place_kept met text found (after text)) kept
        ∙ ap (λ same. cond same (Some first) (after text)) differs
        ∙ updated text
        ∙ ap (λ same. cond same (Some (length met)) (other text)) (equal_itself text)
        ∙ sym (place-last met text new)

    knows_too : (q : List ℕ) (b : Bool) → bytes_eq text q ≡ b → place_kept (met ++ text ∷ []) q (first_by slot marks q) (after q) ≡
        place_of (met ++ text ∷ []) q
    knows_too q true same =
        subst (λ t. place_kept (met ++ text ∷ []) t (first_by slot marks t) (after t) ≡ place_of (met ++ text ∷ []) t)
        (equal_texts text q same) knows_itself
    knows_too q false apart =
        kept_stays met text q (first_by slot marks q) (after q) (so_far.inside q)
        ∙ ap (place_kept met q (first_by slot marks q)) (updated q ∙ ap (λ b. cond b (Some (length met)) (other q)) apart)
        ∙ so_far.knows q
        ∙ place-more_by met text new q false apart

    pub knows-other : Knows slot (met ++ text ∷ []) marks after
    knows-other = record {
      inside = λ q number is. let before = so_far.inside q number is in omega (arith, before, length_push met text);
      spare = λ q is. spare_too q (bytes_eq text q) refl is;
      knows = λ q. knows_too q (bytes_eq text q) refl;
    }
