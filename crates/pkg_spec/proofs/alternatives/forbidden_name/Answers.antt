-- A forbidden flavor begins with `!`, and its name follows that.
use Rattle.std.proofs.Common.{◌≡◌, ap, refl, ℕ, List, [], ◌∷◌, drop, true, false, Option, Some, None, lit<, arith}
use Rattle.std.proofs.lemmas.Grind.{common_steps}
use Rattle.std.proofs.lemmas.Str.Pattern.{strip_prefix_char}
use Rattle.std.specs.Borrow.{Bor}
use Rattle.std.specs.Option.{MatchOption}
use Rattle.pkg_spec.specs.Alternatives.{forbids}
use Rattle.pkg_spec.proofs.alternatives.forbidden_name.Goals as goal

free : (flavor : List ℕ) → ((name : List ℕ) → flavor ≡ 33 ∷ name → ⊥) → forbids flavor ≡ false
free [] none = refl
free (first ∷ rest) none =
    let differs : first ≡ 33 → ⊥ = λ e. none rest (ap (λ x. x ∷ rest) e) in
    grind (arith, common_steps, differs)

stripped : (flavor : List ℕ) (name : Option (Bor (List ℕ))) → MatchOption name ((rest : List ℕ) → flavor ≡ 33 ∷ rest → ⊥)
    (λ rest. flavor ≡ 33 ∷ rest.now)
    → MatchOption name (forbids flavor ≡ false) (λ name. (forbids flavor ≡ true) × (name.now ≡ drop 1 flavor))
stripped flavor None none = free flavor none
stripped flavor (Some name) is = (rw is refl, rw is refl)

pub returns : goal.returns
returns c = stripped c.args.flavor.now c.strip_prefix.result (strip_prefix_char 33 c.args.flavor.now c.strip_prefix.result
    c.strip_prefix.ensures.cases (lit< tt))
