-- The text of a search path is cut into its trees again.
use Rattle.std.proofs.Common.{◌≡◌, ◌∙◌, ℕ, Bool, true, ◌&&◌, not, List, [], ◌∷◌, ◌++◌, length, map, drop, get_or, String, string_bytes}
use Rattle.std.proofs.Common.{refl, sym, ap, arith, true≢false}
use Rattle.std.specs.declared.alloc.Global.{Global}
use Rattle.std.specs.Prelude.{◌==◌, nat_le}
use Rattle.std.specs.List.{list_all}
use Rattle.std.proofs.lemmas.Bool.{and_parts, and_from}
use Rattle.std.proofs.lemmas.Bool.Decides.{nat_tests}
use Rattle.text_parts.specs.Laws.{is_between, are_between, after_marks}
use Rattle.text_parts.proofs.PartTexts.{written_is_cut_again}
use Rattle.general_facts.specs.Ascii.{colon}
use Rattle.mk_paths.specs.SearchPath.{trees_of, may_be_in_part, is_part, is_tree, IsSearchPath}

any : ℕ → Bool
any byte = true

part_bytes : (part : List ℕ) → list_all may_be_in_part part ≡ true → list_all (is_between colon any) part ≡ true
unfolding any
part_bytes [] h = refl
part_bytes (b ∷ part) h = let parts = and_parts (may_be_in_part b) (list_all may_be_in_part part) h in
    and_from (is_between colon any b) (list_all (is_between colon any) part) (and_parts _ (not (b == colon)) parts.0).1
    (part_bytes part parts.1)

tree_bytes : (tree : List ℕ) → is_tree tree ≡ true → list_all (is_between colon any) tree ≡ true
unfolding any
tree_bytes [] h = absurd cc
tree_bytes (first ∷ part) h =
    let parts = and_parts (first == 47) (is_part part) h in
    and_from (is_between colon any first) (list_all (is_between colon any) part) (slash_is first parts.0)
    (part_bytes part (and_parts _ (list_all may_be_in_part part) parts.1).1)
  where
    slash_is : (b : ℕ) → (b == 47) ≡ true → not (b == 58) ≡ true
    slash_is b e = grind (arith, nat_tests)

all_bytes : (trees : List (List ℕ)) → list_all is_tree trees ≡ true → are_between colon any trees ≡ true
all_bytes [] h = refl
all_bytes (tree ∷ trees) h =
    let parts = and_parts (is_tree tree) (list_all is_tree trees) h in and_from _ _ (tree_bytes tree parts.0) (all_bytes trees parts.1)

pub path_trees : (first : List ℕ) (more : List (List ℕ)) → IsSearchPath (first ∷ more)
    → trees_of (first ++ after_marks colon more) ≡ first ∷ more
path_trees first more h =
    let parts = and_parts (nat_le 1 (length (first ∷ more)) && nat_le (length (first ∷ more)) 8) (list_all is_tree (first ∷ more)) h in
    written_is_cut_again colon any first more (all_bytes (first ∷ more) parts.1)

pub text_trees : (trees : List (String Global)) (d : String Global) (text : List ℕ) → IsSearchPath (map string_bytes trees)
    → text ≡ string_bytes (get_or trees 0 d) ++ after_marks colon (map string_bytes (drop 1 trees)) → trees_of text ≡ map string_bytes trees
text_trees [] d text h e = absurd (true≢false (sym h))
text_trees (tree ∷ trees) d text h e = ap trees_of e ∙ path_trees (string_bytes tree) (map string_bytes trees) h
