-- The names of the files that a map with texts as its keys holds.
use Rattle.std.proofs.Common.{◌≡◌, ℕ, Bool, true, false, T, ◌&&◌, List, [], ◌∷◌, map, refl, sym, ◌∙◌, ap, subst, Less, length, arith}
use Rattle.std.proofs.Common.{string_bytes, String}
use Rattle.std.specs.Ordering.{nat_cmp, is_lt}
use Rattle.std.specs.Cmp.Lexicographic.{slice_cmp, nat_list_cmp_total}
use Rattle.std.specs.List.{AllByRecursion}
use Rattle.std.specs.List.Sorted.{IsStrictlySortedBy}
use Rattle.std.specs.declared.alloc.Global.{Global}
use Rattle.std.specs.FinMap as finite
use Rattle.std.specs.FinMap.Entries.{put, by_order, is_sorted, below_all}
use Rattle.std.specs.String.{string_cmp}
use Rattle.general_facts.specs.Bools.{Less_from_is_lt}
use Rattle.mk_files.specs.MemoryFiles.{files_of}

abbrev Entries : Type 0
Entries = List (List ℕ × List ℕ)

both : (a b : Bool) → T a → T b → T (a && b)
both true b p q = q
both false b p q = p

first : (a b : Bool) → T (a && b) → T a
first true b p = tt
first false b p = p

second : (a b : Bool) → T (a && b) → T b
second true b p = p
second false b p = absurd p

no_entry : (es : Entries) → length es ≡ 0 → es ≡ []
no_entry [] e = refl
no_entry (x ∷ es) e = absurd (omega arith)

-- an entry below all the others is put in front
put_front : (e : List ℕ × List ℕ) (es : Entries) → T (is_sorted (slice_cmp nat_cmp) (e ∷ es)) → put (slice_cmp nat_cmp) e.0 e.1 es ≡ e ∷ es
put_front e [] h = refl
put_front e (f ∷ fs) h =
    ap (λ o. by_order o ((e.0, e.1) ∷ f ∷ fs) ((f.0, e.1) ∷ fs) (f ∷ put (slice_cmp nat_cmp) e.0 e.1 fs))
    (Less_from_is_lt (slice_cmp nat_cmp e.0 f.0) (first _ _ (first (below_all (slice_cmp nat_cmp) e.0 (f ∷ fs)) _ h)))

-- entries in order are those of their map
entries-from_entries : (es : Entries) → T (is_sorted (slice_cmp nat_cmp) es)
    → finite.entries (finite.from_entries {R = slice_cmp nat_cmp} es) ≡ es
entries-from_entries [] h = no_entry (finite.entries (finite.from_entries {R = slice_cmp nat_cmp} []))
    (sym (finite.len-entries (finite.from_entries {R = slice_cmp nat_cmp} [])) ∙ finite.len-empty (slice_cmp nat_cmp) (List ℕ))
entries-from_entries (e ∷ es) h =
    finite.entries-insert nat_list_cmp_total (finite.from_entries es) e.0 e.1
    ∙ ap (put (slice_cmp nat_cmp) e.0 e.1) (entries-from_entries es (second (below_all (slice_cmp nat_cmp) e.0 es) _ h))
    ∙ put_front e es h

abbrev bytes_of : List (String Global × List ℕ) → Entries
bytes_of = map (λ entry. (string_bytes entry.0, entry.1))

below : (name : String Global) (es : List (String Global × List ℕ)) → AllByRecursion (λ other. string_cmp name other ≡ Less)
    (map (λ e. e.0) es) → T (below_all (slice_cmp nat_cmp) (string_bytes name) (bytes_of es))
below name [] h = tt
below name (e ∷ es) h = both _ _ (subst (λ o. T (is_lt o)) (sym h.0) tt) (below name es h.1)

sorted : (es : List (String Global × List ℕ)) → IsStrictlySortedBy string_cmp (map (λ e. e.0) es)
    → T (is_sorted (slice_cmp nat_cmp) (bytes_of es))
unfolding IsStrictlySortedBy
sorted [] h = tt
sorted (e ∷ es) h = both _ _ (below e.0 es h.0) (sorted es h.1)

names-bytes_of : (es : List (String Global × List ℕ)) → map (λ e. e.0) (bytes_of es) ≡ map string_bytes (map (λ e. e.0) es)
names-bytes_of [] = refl
names-bytes_of (e ∷ es) = ap (λ names. string_bytes e.0 ∷ names) (names-bytes_of es)

-- the names of files whose texts are in order
pub keys-files_of : (es : List (String Global × List ℕ)) → IsStrictlySortedBy string_cmp (map (λ e. e.0) es)
    → map string_bytes (map (λ e. e.0) es) ≡ finite.keys (files_of es)
keys-files_of es ordered =
    sym (names-bytes_of es) ∙ sym (ap (map (λ e. e.0)) (entries-from_entries (bytes_of es) (sorted es ordered)))
