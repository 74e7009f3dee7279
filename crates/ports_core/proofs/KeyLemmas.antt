-- Keys and their texts.
use Rattle.std.proofs.Common.{◌≡◌, ◌<◌, ℕ, ◌+◌, Bool, List, length, drop, take, ◌-◌, get_or, Option, Some, sym, ap, ◌∙◌, drop-cons, add-one}
use Rattle.std.proofs.Common.{suc}
use Rattle.std.specs.Prelude.{position, not, ◌&&◌, bytes_eq, String, string_bytes, string_eq}
use Rattle.std.specs.List.{list_any, list_all}
use Rattle.std.proofs.lemmas.List.Folds.{list_all-map}
use Rattle.general_facts.specs.Lists.{list_any-map}
use Rattle.ports_core.specs.Keys.{key_texts, tenant_of, are_apart}
use Rattle.ports_core.proofs.Lists.{position-map, length-map, take-rest}

-- the place among the keys is that among their texts
pub tenant_of_place : {Z : Type 0} (keys : List (String Z)) (bytes key : List ℕ) (place : Option ℕ)
    → place ≡ position (λ known. bytes_eq (string_bytes known) bytes) keys → bytes ≡ key → place ≡ tenant_of (key_texts keys) (Some key)
tenant_of_place keys bytes key place is same =
    is ∙ ap (λ k. position (λ known. bytes_eq (string_bytes known) k) keys) same
    ∙ sym (position-map (λ known. bytes_eq known key) string_bytes keys)

-- one key, and those after it
pub are_apart-drop : {Z : Type 0} (keys : List (String Z)) (i : ℕ) (key : String Z) → i < length keys → key ≡ get_or keys i key
    → are_apart (key_texts (drop i keys)) ≡ (not (list_any (λ other. string_eq other key) (drop (i + 1) keys)) && are_apart
    (key_texts (drop (i + 1) keys)))
unfolding are_apart
are_apart-drop keys i key lt is =
    ap (λ ks. are_apart (key_texts ks)) (drop-cons keys i key lt)
    ∙ ap (λ k. not (list_any (λ other. bytes_eq other (string_bytes k)) (key_texts (drop (suc i) keys))) && are_apart
    (key_texts (drop (suc i) keys))) (sym is)
    ∙ ap (λ b. not b && are_apart (key_texts (drop (suc i) keys))) (list_any-map (λ other. bytes_eq other (string_bytes key))
    string_bytes (drop (suc i) keys))
    ∙ ap (λ n. not (list_any (λ other. string_eq other key) (drop n keys)) && are_apart (key_texts (drop n keys))) (sym (add-one i))

-- whether one after a place passes
pub list_any-rest : {X : Type 0} (p : X → Bool) (n : ℕ) (xs : List X) (b : Bool) → b ≡ list_any p (take (length xs - n) (drop n xs))
    → list_any p (drop n xs) ≡ b
list_any-rest p n xs b is = sym (is ∙ ap (λ ys. list_any p ys) (take-rest n xs))

-- a test of each key is one of each text
pub list_all_texts : {Z : Type 0} (p : List ℕ → Bool) (keys : List (String Z)) → list_all p (key_texts keys) ≡ list_all
    (λ key. p (string_bytes key)) keys
list_all_texts p keys = list_all-map p string_bytes keys

pub length_texts : {Z : Type 0} (keys : List (String Z)) → length (key_texts keys) ≡ length keys
length_texts keys = length-map string_bytes keys

pub ruleset texts_of_keys = (list_all_texts, length_texts)
