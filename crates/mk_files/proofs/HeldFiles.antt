-- What a map with texts as its keys holds, and its map of bytes.
use Rattle.std.proofs.Common.{◌≡◌, ℕ, List, [], ◌∷◌, sym, ◌∙◌, ap, cond, Option, None, Some, string_bytes, String}
use Rattle.std.specs.Ordering.{nat_cmp, is_eq, eq_by_cmp}
use Rattle.std.specs.Cmp.Lexicographic.{slice_cmp, nat_list_cmp_total}
use Rattle.std.specs.declared.alloc.Global.{Global}
use Rattle.std.specs.FinMap as finite
use Rattle.std.specs.BTreeMap as tree
use Rattle.std.specs.Map.{lookup, update}
use Rattle.std.specs.String.{string_cmp}
use Rattle.std.specs.Str.{bytes_eq}
use Rattle.std.proofs.lemmas.Map.Text.{btree_map_updates_text, is_eq-slice_cmp}
use Rattle.general_facts.specs.Maps.{same_map}
use Rattle.general_facts.specs.Texts.{bytes_eq-sym}
use Rattle.mk_paths.specs.World.{FileMap}
use Rattle.mk_files.specs.MemoryFiles.{files_of}

-- the content that a name has among these entries
abbrev pub content_at : List (String Global × List ℕ) → List ℕ → Option (List ℕ)
content_at entries q = lookup (λ key. is_eq (slice_cmp nat_cmp q (string_bytes key))) entries

-- a look-up by bytes is the map's own
pub get-files_of : (entries : List (String Global × List ℕ)) (q : List ℕ) → finite.get (files_of entries) q ≡ content_at entries q
get-files_of [] q = finite.get-empty (slice_cmp nat_cmp) q
get-files_of (e ∷ es) q =
    finite.get-insert nat_list_cmp_total (files_of es) (string_bytes e.0) e.1 q
    ∙ ap (cond (is_eq (slice_cmp nat_cmp q (string_bytes e.0))) (Some e.1)) (get-files_of es q)

-- a map of texts answers as its map of bytes
pub get-view : (m : tree.BTreeMap (String Global) (List ℕ)) (files : FileMap) (q : List ℕ) → files_of m.entries ≡ files
    → tree.get_by_text m q ≡ finite.get files q
get-view m files q is = sym (get-files_of m.entries q) ∙ ap (λ held. finite.get held q) is

-- the answers after one name was given a content, or lost it
module _ (old new : tree.BTreeMap (String Global) (List ℕ)) (name : List ℕ) (content : Option (List ℕ)) (changed : (q : List ℕ)
    → tree.get_by_text new q ≡ update bytes_eq (tree.get_by_text old) name content q) where
  answers_after : (q : List ℕ) → finite.get (files_of new.entries) q ≡ cond (eq_by_cmp (slice_cmp nat_cmp) q name) content
      (finite.get (files_of old.entries) q)
  answers_after q =
      get-files_of new.entries q ∙ changed q
      ∙ ap (λ b. cond b content (tree.get_by_text old q)) (bytes_eq-sym name q ∙ sym (is_eq-slice_cmp q name))
      ∙ ap (cond (is_eq (slice_cmp nat_cmp q name)) content) (sym (get-files_of old.entries q))

-- the map of bytes of a map of texts in which one key was given a content is the old one with that change
pub files_of-insert : (old new : tree.BTreeMap (String Global) (List ℕ)) (name : String Global) (content : List ℕ)
    → tree.Updates string_cmp old new name (Some content)
    → files_of new.entries ≡ finite.insert (files_of old.entries) (string_bytes name) content
files_of-insert old new name content updates =
    same_map _ _ (λ q. answers_after old new (string_bytes name) (Some content)
    (btree_map_updates_text (string_bytes name) old new (Some content) updates) q
    ∙ sym (finite.get-insert nat_list_cmp_total (files_of old.entries) (string_bytes name) content q))

-- the same where one key was taken away
pub files_of-remove : (old new : tree.BTreeMap (String Global) (List ℕ)) (name : List ℕ)
    → tree.UpdatesBy string_cmp (λ key. slice_cmp nat_cmp name (string_bytes key)) old new None
    → files_of new.entries ≡ finite.remove (files_of old.entries) name
files_of-remove old new name updates =
    same_map _ _ (λ q. answers_after old new name None (btree_map_updates_text name old new None updates) q
    ∙ sym (finite.get-remove nat_list_cmp_total (files_of old.entries) name q))
