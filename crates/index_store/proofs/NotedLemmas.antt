-- The paths that have a row are noted.
use Rattle.std.proofs.Common.{◌≡◌, ◌∙◌, ap, sym, refl, ℕ, Bool, false, not, List, [], Option, Some, None, is_some, map, String, Global}
use Rattle.std.proofs.Common.{string_bytes}
use Rattle.std.proofs.lemmas.Bool.{false≢true}
use Rattle.std.proofs.lemmas.Cmp.{nat_list_eq_equiv}
use Rattle.std.proofs.lemmas.Map.Text.{is_eq-slice_cmp}
use Rattle.std.specs.BTreeSet.{BTreeSet, contains_text, keys}
use Rattle.std.specs.List.{list_any}
use Rattle.std.specs.Ordering.{eq_by_cmp}
use Rattle.std.specs.Str.{bytes_eq}
use Rattle.general_facts.specs.Lists.{list_any-map}
use Rattle.text_parts.specs.Ordered.{by_bytes}
use Rattle.index_store.specs.Entries.{Entries, StoredValue, is_one_of}
use Rattle.index_store.specs.PortTable.{AreNotedPaths}

-- a path that isn't noted has no row
pub not-noted : (paths : BTreeSet (String Global)) (entries : Entries) → AreNotedPaths paths entries → (path : List ℕ)
    → contains_text paths path ≡ false → entries path ≡ None
not-noted paths entries noted path not = by (entries path) refl
  where
    by : (value : Option StoredValue) → entries path ≡ value → entries path ≡ None
    by None is = is
    by (Some value) is = absurd (false≢true (sym not ∙ noted path ∙ ap is_some is))

tie : (path : List ℕ) → ◌≡◌ {A = List ℕ → Bool} (eq_by_cmp by_bytes path) (λ one. bytes_eq one path)
tie path i one = (is_eq-slice_cmp path one ∙ nat_list_eq_equiv.symm path one) i

-- a text is in a set if it is one of its keys
pub contains-key : (noted : BTreeSet (String Global)) (path : List ℕ)
    → is_one_of path (map string_bytes (keys noted)) ≡ contains_text noted path
contains-key noted path =
    ap (λ (p : List ℕ → Bool). list_any p (map string_bytes (keys noted))) (sym (tie path))
    ∙ list_any-map (eq_by_cmp by_bytes path) string_bytes (keys noted)

-- an empty set has no text
pub none-noted : (noted : BTreeSet (String Global)) → keys noted ≡ [] → (path : List ℕ) → contains_text noted path ≡ false
none-noted noted none path = sym (contains-key noted path) ∙ ap (λ names. is_one_of path (map string_bytes names)) none
