-- What is noted of the files, as they change.
use Rattle.std.proofs.Common.{◌≡◌, ◌∙◌, ap, ap₂, sym, subst, refl, ℕ, ◌+◌, ◌≤◌, Bool, true, false, cond, T, List, [], ◌∷◌, length, map}
use Rattle.std.proofs.Common.{Option, Some, None, is_some, String, Global, string_bytes, Less, arith}
use Rattle.std.specs.Prelude.{option_map, unwrap_or}
use Rattle.std.proofs.lemmas.Cmp.{nat_list_cmp_total}
use Rattle.std.proofs.lemmas.Map.Made.{is_some-lookup}
use Rattle.std.proofs.lemmas.Map.Text.{is_eq-slice_cmp}
use Rattle.std.proofs.lemmas.Option.{same_Some}
use Rattle.std.proofs.lemmas.Slice.Eq.{bytes_eq-Decides}
use Rattle.std.specs.BTreeMap.{IsOrdered, keys, get_by_text}
use Rattle.std.specs.FinMap as finite
use Rattle.std.specs.FinMap.Entries.{below_all, is_sorted}
use Rattle.std.specs.List.{AllByRecursion}
use Rattle.std.specs.List.Sorted.{IsStrictlySortedBy}
use Rattle.std.specs.Map.{lookup}
use Rattle.std.specs.Ordering.{eq_by_cmp, is_eq}
use Rattle.std.specs.Str.{bytes_eq}
use Rattle.std.specs.String.{string_cmp}
use Rattle.general_facts.specs.Bools.{Less_from_is_lt, T-left, T-right}
use Rattle.general_facts.specs.Lists.{list_any-map}
use Rattle.general_facts.specs.Texts.{bytes_eq-sym}
use Rattle.mk_files.specs.Limits.{bytes_of, files_with, bytes_with, is_over, exceeds_limits}
use Rattle.mk_files.specs.declared.usage.Usage.{Usage}
use Rattle.mk_paths.specs.World.{FileMap}
use Rattle.text_parts.specs.Ordered.{by_bytes, among, same_in_order}
use Rattle.tenant_store.specs.Lengths.{AreNoted, Lengths, NotesLength}
use Rattle.tenant_store.proofs.Worlds.{len-insert_with, bytes_of-insert, bytes_of-empty, len-remove_there, bytes_of-remove, within_bytes}

-- ---- the keys of a map

abbrev Entry : Type 0
Entry = List ℕ × List ℕ

above_all : (name : List ℕ) (es : List Entry) → T (below_all by_bytes name es)
    → AllByRecursion (λ other. by_bytes name other ≡ Less) (map (λ (e : Entry). e.0) es)
above_all name [] h = tt
above_all name (e ∷ es) h = (Less_from_is_lt _ (T-left _ _ h), above_all name es (T-right _ _ h))

keys_rise : (es : List Entry) → T (is_sorted by_bytes es) → IsStrictlySortedBy by_bytes (map (λ (e : Entry). e.0) es)
unfolding IsStrictlySortedBy
keys_rise [] h = tt
keys_rise (e ∷ es) h = (above_all e.0 es (T-left _ _ h), keys_rise es (T-right _ _ h))

-- ---- the names that are noted

abbrev Noted : Type 0
Noted = String Global × ℕ

among_noted : (q : List ℕ) (es : List Noted) → among q (map string_bytes (map (λ (e : Noted). e.0) es))
    ≡ is_some (lookup (λ key. is_eq (by_bytes q (string_bytes key))) es)
among_noted q es =
    list_any-map (eq_by_cmp by_bytes q) string_bytes (map (λ (e : Noted). e.0) es)
    ∙ sym (is_some-lookup (λ key. is_eq (by_bytes q (string_bytes key))) es)

above_texts : (name : String Global) (es : List Noted)
    → AllByRecursion (λ other. string_cmp name other ≡ Less) (map (λ (e : Noted). e.0) es)
    → AllByRecursion (λ other. by_bytes (string_bytes name) other ≡ Less) (map string_bytes (map (λ (e : Noted). e.0) es))
above_texts name [] h = tt
above_texts name (e ∷ es) h = (h.0, above_texts name es h.1)

texts_rise : (es : List Noted) → IsStrictlySortedBy string_cmp (map (λ (e : Noted). e.0) es)
    → IsStrictlySortedBy by_bytes (map string_bytes (map (λ (e : Noted). e.0) es))
unfolding IsStrictlySortedBy
texts_rise [] h = tt
texts_rise (e ∷ es) h = (above_texts e.0 es h.0, texts_rise es h.1)

length_there : (o : Option (List ℕ)) → is_some (option_map length o) ≡ is_some o
length_there None = refl
length_there (Some content) = refl

length_cond : (b : Bool) (x o : Option (List ℕ)) → cond b (option_map length x) (option_map length o) ≡ option_map length (cond b x o)
length_cond true x o = refl
length_cond false x o = refl

there_was : (o : Option (List ℕ)) (k : ℕ) → Some k ≡ option_map length o → (was : List ℕ) × (o ≡ Some was) × (k ≡ length was)
there_was None k e = absurd cc
there_was (Some was) k e = (was, refl, same_Some k (length was) e)

module _ (lengths : Lengths) (usage : Usage) (files : FileMap) (noted : AreNoted lengths usage files) where
  -- a name is noted where the file is there
  pub noted_there : (name : List ℕ) → is_some (get_by_text lengths name) ≡ finite.contains_key files name
  noted_there name = ap is_some (noted.each name) ∙ length_there (finite.get files name)

  -- in order, the names are the keys of the map
  pub noted_names : IsOrdered string_cmp lengths → map string_bytes (keys lengths) ≡ finite.keys files
  noted_names ordered =
      same_in_order (map string_bytes (keys lengths)) (finite.keys files) (texts_rise lengths.entries ordered)
      (keys_rise (finite.entries files) (finite.entries_sorted files))
      (λ q. among_noted q lengths.entries ∙ noted_there q ∙ finite.contains_key-keys files q)

  module _ (name : List ℕ) (had : Option ℕ) (is : had ≡ get_by_text lengths name) where
    had_is : had ≡ option_map length (finite.get files name)
    had_is = is ∙ noted.each name

    -- what it had is within the sum
    pub had_within : unwrap_or had 0 ≤ usage.bytes
    had_within =
        let low = subst (λ o. unwrap_or o 0 ≤ bytes_of files) (sym had_is) (within_bytes files name) in omega (arith, low, noted.sum)

    -- how many files and bytes there would be
    pub would_be : (content : List ℕ) → exceeds_limits (files_with usage.files had) (bytes_with usage.bytes had (length content))
        ≡ is_over (finite.insert files name content)
    would_be content =
        ap₂ exceeds_limits (ap₂ files_with noted.count had_is ∙ sym (len-insert_with files name content))
        (ap₂ (λ b o. bytes_with b o (length content)) noted.sum had_is ∙ sym (bytes_of-insert files name content))

    -- another length was noted, and the one that it had is put back
    pub noted_back : (more left : Lengths) (other : Option ℕ) → NotesLength lengths more name other → NotesLength more left name had
        → AreNoted left usage files
    noted_back more left other notes back = record {
      each = λ q. back q ∙ ap (cond (bytes_eq name q) had) (notes q) ∙ same q (bytes_eq name q) refl ∙ noted.each q;
      count = noted.count;
      sum = noted.sum;
    }
      where
        same : (q : List ℕ) (b : Bool) → bytes_eq name q ≡ b → cond b had (cond b other (get_by_text lengths q)) ≡ get_by_text lengths q
        same q true e = is ∙ ap (get_by_text lengths) ((bytes_eq-Decides name q).0 e)
        same q false e = refl

    -- the length of each file, after one has this content or is gone
    each_after : (m : FileMap) (content : Option (List ℕ)) (next : Lengths)
        → ((q : List ℕ) → finite.get m q ≡ cond (eq_by_cmp by_bytes q name) content (finite.get files q))
        → NotesLength lengths next name (option_map length content)
        → (q : List ℕ) → get_by_text next q ≡ option_map length (finite.get m q)
    each_after m content next after notes q =
        notes q ∙ ap (cond (bytes_eq name q) (option_map length content)) (noted.each q)
        ∙ length_cond (bytes_eq name q) content (finite.get files q)
        ∙ ap (λ b. option_map length (cond b content (finite.get files q))) (bytes_eq-sym name q ∙ sym (is_eq-slice_cmp q name))
        ∙ sym (ap (option_map length) (after q))

    -- a file is stored
    pub noted_with : (content : List ℕ) (more : Lengths) (next : Usage) → NotesLength lengths more name (Some (length content))
        → next.files ≡ files_with usage.files had → next.bytes ≡ bytes_with usage.bytes had (length content)
        → AreNoted more next (finite.insert files name content)
    noted_with content more next notes count sum = record {
      each =
          each_after (finite.insert files name content) (Some content) more (finite.get-insert nat_list_cmp_total files name content) notes;
      count = count ∙ ap₂ files_with noted.count had_is ∙ sym (len-insert_with files name content);
      sum = sum ∙ ap₂ (λ b o. bytes_with b o (length content)) noted.sum had_is ∙ sym (bytes_of-insert files name content);
    }

    module _ (k : ℕ) (there : Some k ≡ had) where
      was : (content : List ℕ) × (finite.get files name ≡ Some content) × (k ≡ length content)
      was = there_was (finite.get files name) k (there ∙ had_is)

      pub has_one : 1 ≤ usage.files
      has_one = let less = len-remove_there files name was.0 was.1 in omega (arith, noted.count, less)

      -- a file is taken out
      pub noted_without : (left : Lengths) (next : Usage) → NotesLength lengths left name None → next.files + 1 ≡ usage.files
          → next.bytes + k ≡ usage.bytes → AreNoted left next (finite.remove files name)
      noted_without left next notes count sum = record {
        each = each_after (finite.remove files name) None left (finite.get-remove nat_list_cmp_total files name) notes;
        count = let less = len-remove_there files name was.0 was.1 in omega (arith, count, noted.count, less);
        sum = let lighter = bytes_of-remove files name was.0 was.1 in let size = was.2 in omega (arith, sum, noted.sum, lighter, size);
      }

-- nothing is noted of no file
pub none_noted : (lengths : Lengths) (usage : Usage) → lengths.entries ≡ [] → usage.files ≡ 0 → usage.bytes ≡ 0
    → AreNoted lengths usage finite.empty
none_noted lengths usage none count sum = record {
  each = λ q. ap (lookup (λ key. is_eq (by_bytes q (string_bytes key)))) none ∙ sym (ap (option_map length) (finite.get-empty by_bytes q));
  count = count ∙ sym (finite.len-empty _ _);
  sum = sum ∙ sym bytes_of-empty;
}
