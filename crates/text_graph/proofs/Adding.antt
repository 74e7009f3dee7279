-- Texts that are added where they are new.
use Rattle.std.proofs.Common.{◌≡◌, ◌∙◌, sym, ap, refl, ℕ, ◌≤◌, Bool, true, false, cond, ◌||◌, List, [], ◌∷◌, ◌++◌, take, length, arith}
use Rattle.std.proofs.Common.{append-nil, length-append}
use Rattle.std.proofs.lemmas.Cmp.{nat_list_eq_equiv}
use Rattle.std.proofs.lemmas.List.{append_assoc, take-append-le}
use Rattle.std.proofs.lemmas.List.Folds.{list_any-append}
use Rattle.std.proofs.lemmas.Map.Keys.{IsDistinct-push}
use Rattle.std.specs.List.{IsDistinct}
use Rattle.std.specs.Str.{bytes_eq}
use Rattle.general_facts.specs.Bools.{or_swap}
use Rattle.text_graph.specs.TextSearch.{is_among, added, all_added}
use Rattle.text_graph.proofs.Members.{equal_texts}

or_known : (a b : Bool) → (b ≡ true → a ≡ true) → a ≡ (b || a)
or_known a true known = known refl
or_known a false known = refl

or_regroup : (a b c : Bool) → (b || (a || c)) ≡ ((a || b) || c)
or_regroup true true c = refl
or_regroup true false c = refl
or_regroup false b c = refl

among-added_by : (text more : List ℕ) (texts : List (List ℕ)) (known : Bool) → is_among more texts ≡ known
    → is_among text (cond known texts (texts ++ more ∷ [])) ≡ (bytes_eq text more || is_among text texts)
among-added_by text more texts true is = or_known (is_among text texts) (bytes_eq text more)
    (λ same. ap (λ t. is_among t texts) (equal_texts text more same) ∙ is)
among-added_by text more texts false is = list_any-append (bytes_eq text) texts (more ∷ [])
    ∙ or_swap (is_among text texts) (bytes_eq text more)

pub among-added : (text more : List ℕ) (texts : List (List ℕ)) → is_among text (added texts more) ≡
    (bytes_eq text more || is_among text texts)
among-added text more texts = among-added_by text more texts (is_among more texts) refl

pub among-all_added : (text : List ℕ) (texts more : List (List ℕ)) → is_among text (all_added texts more) ≡
    (is_among text more || is_among text texts)
among-all_added text texts [] = refl
among-all_added text texts (first ∷ more) =
    among-all_added text (added texts first) more
    ∙ ap (λ among. is_among text more || among) (among-added text first texts)
    ∙ or_regroup (bytes_eq text first) (is_among text more) (is_among text texts)

apart_by : (texts : List (List ℕ)) (more : List ℕ) (known : Bool) → is_among more texts ≡ known → IsDistinct bytes_eq texts
    → IsDistinct bytes_eq (cond known texts (texts ++ more ∷ []))
apart_by texts more true is apart = apart
apart_by texts more false is apart = IsDistinct-push nat_list_eq_equiv texts more apart is

pub all_apart : (texts more : List (List ℕ)) → IsDistinct bytes_eq texts → IsDistinct bytes_eq (all_added texts more)
all_apart texts [] apart = apart
all_apart texts (first ∷ more) apart = all_apart (added texts first) more (apart_by texts first (is_among first texts) refl apart)

-- texts with others after them
pub record Grows (texts more : List (List ℕ)) : Type 0 where
  pub behind : List (List ℕ)
  pub is : more ≡ texts ++ behind

grows_by : (texts : List (List ℕ)) (more : List ℕ) (known : Bool) → Grows texts (cond known texts (texts ++ more ∷ []))
grows_by texts more true = record { behind = []; is = sym (append-nil texts) }
grows_by texts more false = record { behind = more ∷ []; is = refl }

longer : (first second third : List (List ℕ)) → Grows first second → Grows second third → Grows first third
longer first second third once twice = record {
  behind = once.behind ++ twice.behind;
  is = twice.is ∙ ap (λ texts. texts ++ twice.behind) once.is ∙ append_assoc first once.behind twice.behind;
}

pub all_grow : (texts more : List (List ℕ)) → Grows texts (all_added texts more)
all_grow texts [] = record { behind = []; is = sym (append-nil texts) }
all_grow texts (first ∷ more) = longer texts (added texts first) (all_added (added texts first) more)
    (grows_by texts first (is_among first texts)) (all_grow (added texts first) more)

pub same_front : (texts more : List (List ℕ)) (n : ℕ) → n ≤ length texts → take n (all_added texts more) ≡ take n texts
same_front texts more n inside = let grown = all_grow texts more in ap (take n) grown.is ∙ take-append-le n texts grown.behind inside

pub no_shorter : (texts more : List (List ℕ)) → length texts ≤ length (all_added texts more)
no_shorter texts more = let grown = all_grow texts more in omega (arith, ap length grown.is, length-append texts grown.behind)
