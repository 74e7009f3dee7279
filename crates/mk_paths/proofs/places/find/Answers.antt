-- Each tree is passed over, missed or hit; a fault stops the search.
use Rattle.std.proofs.Common.{◌≡◌, ◌<◌, ◌+◌, ◌∙◌, sym, ap, subst, ℕ, List, ◌∷◌, drop, get_or, length, map, Some}
use Rattle.std.specs.Result.{result_ok}
use Rattle.std.specs.String.{string_bytes}
use Rattle.std.proofs.Common.{Global, String}
use Rattle.std.proofs.lemmas.List.{drop_more}
use Rattle.mk_paths.specs.FileName.{resolved}
use Rattle.mk_paths.specs.FilesView.{FilesView, Answers, Presence}
use Rattle.mk_paths.specs.Place.{makefile_in}
use Rattle.mk_paths.proofs.Placing.{IsUnderway, begins, misses}
use Rattle.mk_paths.proofs.places.find.Goals as goal

-- the trees from a place on, the next one first
at_tree : {old now : FilesView} {all : List (List ℕ)} {directory : List ℕ} (trees : List (String Global)) (i : ℕ) (tree : String Global)
    → i < length trees → tree ≡ get_or trees i tree
    → IsUnderway old now (map string_bytes (drop i trees)) all directory
    → IsUnderway old now (string_bytes tree ∷ map string_bytes (drop (i + 1) trees)) all directory
at_tree {old} {now} {all} {directory} trees i tree inside here =
    subst (λ rest. IsUnderway old now (map string_bytes rest) all directory) (drop_more trees i tree inside
    ∙ ap (λ t. t ∷ drop (i + 1) trees) (sym here))

pub loop-tree-init : goal.loop-tree-init
loop-tree-init g c = begins _ _ _

pub loop-tree-preserved : goal.loop-tree-preserved
loop-tree-preserved g c =
    let some : result_ok (resolved (makefile_in (string_bytes c.tree-item.result) c.args.directory.now)) ≡ Some c.in-Some.name =
    ap (λ tree. result_ok (resolved (makefile_in tree c.args.directory.now))) (sym c.as_str.ensures.value)
    ∙ sym c.in_ok-name.ensures ∙ c.in-Some.is in
    let answer = subst (λ there. Answers (g.N.Names.view c.loop-tree.names) (g.N.Names.view c.has.new.self) c.in-Some.name (Presence there))
    c.if-there.false c.in_ok-there.ensures.answer in
    misses _ _ c.args.directory.now c.in-Some.name some answer (at_tree c.trees-trees.result.now c.loop-tree.tree-index c.tree-item.result
    c.loop-tree-test.true c.tree-item.is c.loop-tree.invariant)
