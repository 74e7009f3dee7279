-- What follows a first slash is the part; a text with none is no tree.
use Rattle.std.proofs.Common.{◌≡◌, ap, refl, ℕ, false, List, [], ◌∷◌, arith, Some, None, lit<}
use Rattle.std.proofs.lemmas.Grind.{common_steps}
use Rattle.std.proofs.lemmas.Str.Pattern.{strip_prefix_char}
use Rattle.mk_paths.specs.SearchPath.{is_tree}
use Rattle.mk_paths.proofs.search_path.is_tree_text.Goals as goal

not_tree : (text : List ℕ) → ((rest : List ℕ) → text ≡ 47 ∷ rest → ⊥) → false ≡ is_tree text
not_tree [] none = refl
not_tree (first ∷ part) none =
    let differs : first ≡ 47 → ⊥ = λ e. none part (ap (λ x. x ∷ part) e) in
    grind (arith, common_steps, differs)

pub returns-in-Some : goal.returns-in-Some
returns-in-Some c =
    let cut : c.args.text.now ≡ 47 ∷ c.in-Some.part.now = strip_prefix_char 47 c.args.text.now (Some c.in-Some.part)
    c.in-Some.ensures.cases (lit< tt) in
    rw cut c.is_part_text.ensures

pub returns-in-None : goal.returns-in-None
returns-in-None c = not_tree c.args.text.now (strip_prefix_char 47 c.args.text.now None c.in-None.ensures.cases (lit< tt))
