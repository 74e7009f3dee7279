-- Rows for which a name was asked that passes a test.
use Rattle.std.proofs.Common.{◌≡◌, ◌∙◌, ap, sym, refl, ℕ, Bool, true, false, ◌||◌, List, [], ◌∷◌, Option, Some, None, option_map, String}
use Rattle.std.proofs.Common.{Global, string_bytes, length, slice_get, arith}
use Rattle.std.proofs.lemmas.Map.Text.{is_eq-slice_cmp}
use Rattle.std.specs.Cmp.Lexicographic.{slice_cmp}
use Rattle.std.specs.List.{list_any}
use Rattle.std.specs.BTreeSet.{BTreeSet, contains_text, keys}
use Rattle.std.specs.Ordering.{is_eq, nat_cmp}
use Rattle.std.specs.Str.{bytes_eq}
use Rattle.general_facts.specs.Lists.{list_any-map}
use Rattle.port_index.specs.AskedNames.{asks_one_of}
use Rattle.port_index.specs.Seen.{Said, has_asked_for, known_seen}
use Rattle.port_index.specs.declared.noted_rows.KnownRow.{KnownRow}

-- a row asked for a name that passes a test exactly if it says so
pub asked-same : (test : List ℕ → Bool) (row : Option KnownRow)
    → asks_one_of test row ≡ has_asked_for test (option_map (λ (said : Said). said.names) (option_map known_seen row))
asked-same test None = refl
asked-same test (Some row) = sym (list_any-map test string_bytes row.names.items)

-- ---- names of which there is one

one_of_these : {X : Type 0} (xs : List X) (x : X) → length xs ≡ 1 → slice_get xs 0 ≡ Some x → xs ≡ x ∷ []
one_of_these [] x one first = absurd (omega (arith, one))
one_of_these (y ∷ []) x one first = let same : y ≡ x = cc in ap (λ z. z ∷ []) same
one_of_these (y ∷ z ∷ xs) x one first = absurd (omega (arith, one))

or_none : (b : Bool) → (b || false) ≡ b
or_none true = refl
or_none false = refl

-- a name is the one, if it is among them
pub alone-contains : (names : BTreeSet (String Global)) (only : String Global) → length (keys names) ≡ 1
    → slice_get (keys names) 0 ≡ Some only → (name : List ℕ)
    → contains_text names name ≡ bytes_eq name (string_bytes only)
alone-contains names only one first name =
    ap (list_any (λ (other : String Global). is_eq (slice_cmp nat_cmp name (string_bytes other))))
    (one_of_these (keys names) only one first)
    ∙ or_none (is_eq (slice_cmp nat_cmp name (string_bytes only))) ∙ is_eq-slice_cmp name (string_bytes only)
