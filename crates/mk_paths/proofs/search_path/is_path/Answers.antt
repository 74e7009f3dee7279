-- One to eight texts are a search path where each is a tree.
use Rattle.std.proofs.Common.{◌≡◌, ◌≤◌, ◌∙◌, sym, refl, ℕ, Bool, List, [], ◌∷◌, length, arith}
use Rattle.std.proofs.lemmas.Grind.{common_steps}
use Rattle.std.proofs.lemmas.List.{length-map}
use Rattle.std.specs.List.{list_all}
use Rattle.std.specs.Borrow.{Bor}
use Rattle.text_parts.specs.Cuts.{now_all}
use Rattle.mk_paths.specs.SearchPath.{is_search_path, is_tree}
use Rattle.mk_paths.proofs.search_path.is_path.Goals as goal
use Rattle.mk_paths.proofs.search_path.is_path.Goals.{then-not-is_empty, else-not-is_empty}

list_all-now_all : (test : List ℕ → Bool) (texts : List (Bor (List ℕ))) → list_all test (now_all texts) ≡ list_all
    (λ text. test text.now) texts
list_all-now_all test [] = refl
list_all-now_all test (text ∷ texts) = grind (arith, list_all-now_all test texts)

few : (trees : List (List ℕ)) → 1 ≤ length trees → length trees ≤ 8 → is_search_path trees ≡ list_all is_tree trees
few trees some most = grind (arith, common_steps)

few_texts : (texts : List (Bor (List ℕ))) → 1 ≤ length texts → length texts ≤ 8 → is_search_path (now_all texts) ≡ list_all
    (λ text. is_tree text.now) texts
few_texts texts some most =
    let same = length-map texts (λ (text : Bor (List ℕ)). text.now) in
    few (now_all texts) (omega arith) (omega arith) ∙ list_all-now_all is_tree texts

pub returns-then-texts-le-MOST_TREES : goal.returns-then-texts-le-MOST_TREES
returns-then-texts-le-MOST_TREES c = c.are_trees.ensures
    ∙ sym (few_texts c.args.texts.now (grind (arith, common_steps)) (grind (arith, common_steps)))
