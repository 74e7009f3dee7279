-- What a change of the entries of `file` is to the map of the files.
use Rattle.std.proofs.Common.{◌≡◌, ℕ, Bool, true, false, cond, List, [], ◌∷◌, map, find, Option, None, Some, refl, sym, ap, ◌∙◌}
use Rattle.std.specs.Prelude.{option_map}
use Rattle.std.specs.Ordering.{nat_cmp, eq_by_cmp}
use Rattle.std.specs.Cmp.Lexicographic.{slice_cmp, nat_list_cmp_total}
use Rattle.std.specs.FinMap as finite
use Rattle.std.specs.Str.{bytes_eq}
use Rattle.std.proofs.lemmas.Map.Text.{is_eq-slice_cmp}
use Rattle.std.proofs.lemmas.Slice.Eq.{bytes_eq-Decides}
use Rattle.general_facts.specs.Maps.{same_map}
use Rattle.general_facts.specs.Texts.{bytes_eq-sym}
use Rattle.sql_facts.specs.Filled.{EntriesByKey, changed_at, entries_of_rows, has_key}
use Rattle.sqlite_value.specs.Order.{Row}
use Rattle.tenant_store.specs.Holdings.{File, map_of}
use Rattle.tenant_store.specs.Tables.{file_layout, file_of}

abbrev pub content : Option File → Option (List ℕ)
content = option_map (λ f. f.content)

-- a file of the map is the first that has its name
pub get-map_of : (name : List ℕ) (files : List File) → finite.get (map_of files) name ≡ content (find (has_key file_layout name) files)
get-map_of name files = finite.get-from_entries nat_list_cmp_total (map (λ (f : File). (f.name, f.content)) files) name ∙ go files
  where
    go : (files : List File) → finite.find (slice_cmp nat_cmp) name (map (λ (f : File). (f.name, f.content)) files)
        ≡ content (find (has_key file_layout name) files)
    go [] = refl
    go (f ∷ files) =
        ap (λ b. cond b (Some f.content) (finite.find (slice_cmp nat_cmp) name (map (λ (f : File). (f.name, f.content)) files)))
        (is_eq-slice_cmp name f.name)
        ∙ elim (bytes_eq name f.name) as (λ b. cond b (Some f.content)
        (finite.find (slice_cmp nat_cmp) name (map (λ (f : File). (f.name, f.content)) files))
        ≡ content (cond b (Some f) (find (has_key file_layout name) files))) [ true ↦ refl | false ↦ go files ]

-- rows whose entries are those of others, with a change at one name
module _ (name : List ℕ) (change : Option File → Option File) (old new : List Row)
    (are : entries_of_rows file_layout new ≡ changed_at name change (entries_of_rows file_layout old)) where
  changed : (q : List ℕ) (w : Option (List ℕ)) → content (change (entries_of_rows file_layout old name)) ≡ w
      → finite.get (map_of (map file_of new)) q ≡ cond (eq_by_cmp (slice_cmp nat_cmp) q name) w (finite.get (map_of (map file_of old)) q)
  changed q w is =
      get-map_of q (map file_of new) ∙ ap (λ (m : EntriesByKey File). content (m q)) are ∙ go (bytes_eq name q) refl
      ∙ ap (cond (bytes_eq name q) w) (sym (get-map_of q (map file_of old)))
      ∙ ap (λ b. cond b w (finite.get (map_of (map file_of old)) q)) (bytes_eq-sym name q ∙ sym (is_eq-slice_cmp q name))
    where
      go : (b : Bool) → bytes_eq name q ≡ b
          → content (cond b (change (entries_of_rows file_layout old q)) (entries_of_rows file_layout old q))
          ≡ cond b w (content (entries_of_rows file_layout old q))
      go true tie = ap (λ k. content (change (entries_of_rows file_layout old k))) (sym ((bytes_eq-Decides name q).0 tie)) ∙ is
      go false apart = refl

  pub inserted : (c : List ℕ) → content (change (entries_of_rows file_layout old name)) ≡ Some c
      → map_of (map file_of new) ≡ finite.insert (map_of (map file_of old)) name c
  inserted c is = same_map _ _ (λ q. changed q (Some c) is ∙ sym (finite.get-insert nat_list_cmp_total (map_of (map file_of old)) name c q))

  pub removed : content (change (entries_of_rows file_layout old name)) ≡ None
      → map_of (map file_of new) ≡ finite.remove (map_of (map file_of old)) name
  removed is = same_map _ _ (λ q. changed q None is ∙ sym (finite.get-remove nat_list_cmp_total (map_of (map file_of old)) name q))
