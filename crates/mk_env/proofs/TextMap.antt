-- What a map with texts as its keys holds, and its map of bytes.
use Rattle.std.proofs.Common.{◌≡◌, ℕ, List, [], ◌∷◌, ◌++◌, if◌then◌else◌, Result, Ok, Err, is_ok, OnOk, refl, sym, ◌∙◌, ap, cond, Option}
use Rattle.std.proofs.Common.{None, Some, option_map, map, string_bytes, String, Bool, true, false, is_some}
use Rattle.std.specs.List.{AllZip}
use Rattle.std.specs.Ordering.{nat_cmp, is_eq}
use Rattle.std.specs.declared.cmp.Ordering.TheVariants.{Less, Equal, Greater}
use Rattle.std.specs.Cmp.Lexicographic.{slice_cmp, nat_list_cmp_total}
use Rattle.std.specs.declared.alloc.Global.{Global}
use Rattle.std.specs.FinMap as finite
use Rattle.std.specs.BTreeMap as tree
use Rattle.std.specs.Map.{lookup}
use Rattle.std.specs.String.{string_cmp}
use Rattle.std.specs.Str.{bytes_eq}
use Rattle.std.proofs.lemmas.Map.Text.{btree_map_updates_text, is_eq-slice_cmp}
use Rattle.general_facts.specs.Maps.{same_map}
use Rattle.general_facts.specs.Texts.{bytes_eq-sym}
use Rattle.mk_text.specs.declared.profile.Profile.{Profile}
use Rattle.mk_env.specs.Texts.{Variables, TextMap, entry_bytes, texts_of, appended}

-- the text that a key in the order of bytes has among these entries
abbrev pub text_at : List (String Global × String Global) → List ℕ → Option (List ℕ)
text_at entries q = option_map string_bytes (lookup (λ key. is_eq (slice_cmp nat_cmp q (string_bytes key))) entries)

-- a look-up by bytes is the map's own
pub get-texts_of : (entries : List (String Global × String Global)) (q : List ℕ) → finite.get (texts_of entries) q ≡ text_at entries q
get-texts_of [] q = finite.get-empty (slice_cmp nat_cmp) q
get-texts_of (e ∷ es) q =
    finite.get-insert nat_list_cmp_total (texts_of es) (string_bytes e.0) (string_bytes e.1) q ∙
    elim (is_eq (slice_cmp nat_cmp q (string_bytes e.0))) as (λ b. cond b (Some (string_bytes e.1)) (finite.get (texts_of es) q) ≡
    option_map string_bytes (cond b (Some e.1) (lookup (λ key. is_eq (slice_cmp nat_cmp q (string_bytes key))) es))) [
      | true ↦ refl
      | false ↦ get-texts_of es q
    ]

option_map-cond : (b : Bool) (x o : Option (String Global)) → option_map string_bytes (cond b x o) ≡ cond b (option_map string_bytes x)
    (option_map string_bytes o)
option_map-cond true x o = refl
option_map-cond false x o = refl

-- the map of bytes of a map of texts, after one name was given a text or lost it
get-changed : (old new : tree.BTreeMap (String Global) (String Global)) (name : List ℕ) (text : Option (String Global))
    → tree.UpdatesBy string_cmp (λ key. slice_cmp nat_cmp name (string_bytes key)) old new text
    → (q : List ℕ) → finite.get (texts_of new.entries) q ≡ cond (is_eq (slice_cmp nat_cmp q name)) (option_map string_bytes text)
    (finite.get (texts_of old.entries) q)
get-changed old new name text updates q =
    get-texts_of new.entries q ∙
    ap (option_map string_bytes) (btree_map_updates_text name old new text updates q) ∙
    option_map-cond (bytes_eq name q) text (tree.get_by_text old q) ∙
    ap (λ b. cond b (option_map string_bytes text) (text_at old.entries q)) (bytes_eq-sym name q ∙ sym (is_eq-slice_cmp q name)) ∙
    ap (cond (is_eq (slice_cmp nat_cmp q name)) (option_map string_bytes text)) (sym (get-texts_of old.entries q))

-- the map of bytes of a map of texts in which one name was given another text is the old one with that change
pub texts_of-put : (old new : tree.BTreeMap (String Global) (String Global)) (name : List ℕ) (text : String Global)
    → tree.UpdatesBy string_cmp (λ key. slice_cmp nat_cmp name (string_bytes key)) old new (Some text)
    → texts_of new.entries ≡ finite.insert (texts_of old.entries) name (string_bytes text)
texts_of-put old new name text updates =
    same_map _ _ (λ q. get-changed old new name (Some text) updates q
    ∙ sym (finite.get-insert nat_list_cmp_total (texts_of old.entries) name (string_bytes text) q))

-- the same where the name is a text
pub texts_of-insert : (old new : tree.BTreeMap (String Global) (String Global)) (name text : String Global)
    → tree.Updates string_cmp old new name (Some text) → texts_of new.entries ≡ finite.insert (texts_of old.entries)
    (string_bytes name) (string_bytes text)
texts_of-insert old new name text updates = texts_of-put old new (string_bytes name) text updates

-- the same where one name was taken away
pub texts_of_removed : (old new : tree.BTreeMap (String Global) (String Global)) (view : TextMap) (name : List ℕ)
    → texts_of old.entries ≡ view → tree.UpdatesBy string_cmp (λ key. slice_cmp nat_cmp name (string_bytes key)) old new None
    → texts_of new.entries ≡ finite.remove view name
texts_of_removed old new view name is updates =
    same_map _ _ (λ q. get-changed old new name None updates q ∙ sym (finite.get-remove nat_list_cmp_total (texts_of old.entries) name q))
    ∙ ap (λ held. finite.remove held name) is

-- to give a name the text that it has changes nothing
pub insert-held : (m : TextMap) (name text : List ℕ) → finite.get m name ≡ Some text → finite.insert m name text ≡ m
insert-held m name text held =
    same_map _ _ (λ q.
    finite.get-insert nat_list_cmp_total m name text q ∙
    elim (slice_cmp nat_cmp q name) as (λ order. slice_cmp nat_cmp q name ≡ order
    → cond (is_eq order) (Some text) (finite.get m q) ≡ finite.get m q) [
      | Less ↦ λ is. refl
      | Equal ↦ λ is. sym held ∙ finite.get_tied nat_list_cmp_total m q name is
      | Greater ↦ λ is. refl
    ] refl)

entry_bytes-clones : (entries clones : List (String Global × String Global)) → AllZip (λ e f. (string_bytes f.0 ≡ string_bytes e.0)
    × (string_bytes f.1 ≡ string_bytes e.1)) entries clones → map entry_bytes clones ≡ map entry_bytes entries
entry_bytes-clones [] [] same = refl
entry_bytes-clones [] (f ∷ fs) same = absurd same
entry_bytes-clones (e ∷ es) [] same = absurd same
entry_bytes-clones (e ∷ es) (f ∷ fs) same = λ i. (same.0.0 i, same.0.1 i) ∷ entry_bytes-clones es fs same.1 i

-- a clone of a map of texts has the same map of bytes
pub texts_of-clones : (entries clones : List (String Global × String Global)) → AllZip (λ e f. (string_bytes f.0 ≡ string_bytes e.0)
    × (string_bytes f.1 ≡ string_bytes e.1)) entries clones → texts_of clones ≡ texts_of entries
texts_of-clones entries clones same = ap (λ pairs. finite.from_entries pairs) (entry_bytes-clones entries clones same)

-- the map of bytes of a map of texts answers as it does
pub get-view : (m : tree.BTreeMap (String Global) (String Global)) (view : TextMap) (q : List ℕ) → texts_of m.entries ≡ view
    → option_map string_bytes (tree.get_by_text m q) ≡ finite.get view q
get-view m view q is = sym (get-texts_of m.entries q) ∙ ap (λ v. finite.get v q) is

is_some-option_map : (o : Option (String Global)) → is_some o ≡ is_some (option_map string_bytes o)
is_some-option_map None = refl
is_some-option_map (Some x) = refl

pub is_some-view : (m : tree.BTreeMap (String Global) (String Global)) (view : TextMap) (q : List ℕ) → texts_of m.entries ≡ view
    → is_some (tree.get_by_text m q) ≡ is_some (finite.get view q)
is_some-view m view q is = is_some-option_map (tree.get_by_text m q) ∙ ap is_some (get-view m view q is)

-- a variable whose text was written through what the map lent
module _ (old new : tree.BTreeMap (String Global) (String Global)) (view : TextMap) (name : List ℕ) (before after : String Global)
    (is : texts_of old.entries ≡ view) (held : Some before ≡ tree.get_by_text old name)
    (updates : tree.UpdatesBy string_cmp (λ key. slice_cmp nat_cmp name (string_bytes key)) old new (Some after)) where
  held_text : finite.get view name ≡ Some (string_bytes before)
  held_text = sym (ap (option_map string_bytes) held ∙ get-view old view name is)

  written : texts_of new.entries ≡ finite.insert view name (string_bytes after)
  written = texts_of-put old new name after updates ∙ ap (λ v. finite.insert v name (string_bytes after)) is

  -- a space and a text follow the text that it had
  pub texts_of-appended : (text : List ℕ) → string_bytes after ≡ string_bytes before ++ 32 ∷ text → texts_of new.entries ≡ finite.insert
      view name (appended (finite.get view name) text)
  texts_of-appended text longer = written ∙ ap (finite.insert view name) longer
      ∙ ap (λ had. finite.insert view name (appended had text)) (sym held_text)

  -- it has the text that it had
  pub texts_of-kept : string_bytes after ≡ string_bytes before → texts_of new.entries ≡ view
  texts_of-kept same = written ∙ ap (finite.insert view name) same ∙ insert-held view name (string_bytes before) held_text

-- variables whose profile and whose texts are known
pub with-parts : (profile profile' : Profile) (texts texts' : TextMap) → profile ≡ profile' → texts ≡ texts'
    → ◌≡◌ {A = Variables} (profile, texts) (profile', texts')
with-parts profile profile' texts texts' one other = λ i. (one i, other i)

-- an equation by cases on a result, where the result is known
pub OnOk-by_cases : {T E P : Type 0} (r : Result T E) (bytes more less : List ℕ) → bytes ≡ (if is_ok r then more else less)
    → (bytes ≡ more → P) → OnOk r P
OnOk-by_cases (Ok _) bytes more less is then_so = then_so is
OnOk-by_cases (Err _) bytes more less is then_so = tt
