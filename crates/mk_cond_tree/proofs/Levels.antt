-- What is one level deeper, and the nodes that terms are made of.
use Rattle.std.proofs.Common.{◌≡◌, ℕ, zero, suc, ◌-◌, List, Option, None, refl, sym, ap, ◌∙◌, arith}
use Rattle.mk_cond_tree.specs.declared.tokens.Token.{Token}
use Rattle.mk_cond_tree.specs.Trees.{OrTree, NotTree}
use Rattle.mk_cond_tree.specs.Reader.{Reader, negate, group, or_by, inside_of, negation_below, group_below, read_not, read_or}

inside_zero : inside_of zero ≡ (λ tokens. None)
unfolding inside_of
inside_zero = refl

inside_suc : (levels : ℕ) → inside_of (suc levels) ≡ read_not levels
unfolding inside_of
inside_suc levels = refl

below : (levels : ℕ) → (levels ≡ 0 → ⊥) → inside_of levels ≡ read_not (levels - 1)
below zero some = absurd (some refl)
below (suc levels) some = let e : suc levels - 1 ≡ levels = omega arith in inside_suc levels ∙ ap read_not (sym e)

pub negation-zero : (levels : ℕ) (tokens : List Token) → levels ≡ 0 → None ≡ negation_below levels tokens
negation-zero levels tokens is = sym (ap (λ n. negation_below n tokens) is ∙ ap (λ (r : Reader NotTree). negate (r tokens)) inside_zero)

pub group-zero : (levels : ℕ) (tokens : List Token) → levels ≡ 0 → None ≡ group_below levels tokens
group-zero levels tokens is = sym (ap (λ n. group_below n tokens) is ∙ ap (λ (r : Reader NotTree). group (or_by r tokens)) inside_zero)

pub negation-below : (levels : ℕ) (tokens : List Token) (read : Option (NotTree × List Token)) → (levels ≡ 0 → ⊥)
    → read ≡ read_not (levels - 1) tokens
    → negate read ≡ negation_below levels tokens
negation-below levels tokens read some is = ap negate (is ∙ ap (λ (r : Reader NotTree). r tokens) (sym (below levels some)))

pub group-below : (levels : ℕ) (tokens : List Token) (read : Option (OrTree × List Token)) → (levels ≡ 0 → ⊥)
    → read ≡ read_or (levels - 1) tokens
    → group read ≡ group_below levels tokens
group-below levels tokens read some is = ap group (is ∙ ap (λ (r : Reader NotTree). or_by r tokens) (sym (below levels some)))
