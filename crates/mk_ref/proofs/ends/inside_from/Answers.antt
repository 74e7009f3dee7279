use Rattle.std.proofs.Common.{◌≡◌, ℕ, true, false, not, cond, Option, Some, None, get_or, refl, sym, ap, subst, ◌∙◌}
use Rattle.std.specs.Prelude.{is_some}
use Rattle.std.proofs.lemmas.Bool.{eq-eqb, ne_eqb}
use Rattle.mk_ref.specs.Ends.{AtomEndsAt}
use Rattle.mk_ref.proofs.InsideSteps.{InsideSoFar, colon_after, inside-more, inside-close, inside-broken, inside-end}
use Rattle.mk_ref.proofs.ends.inside_from.Goals as goal
use Rattle.mk_ref.proofs.ends.inside_from.Goals.{then-bytes-at-eq58+then-is_none, else-bytes-at-eq58}
use Rattle.mk_ref.proofs.ends.inside_from.Goals.{else-bytes-at-eq58-via-then-bytes-at-eq58+else-is_none}
use Rattle.mk_ref.proofs.ends.inside_from.Goals.{else-bytes-at-eq58-via-else-bytes-at-eq58}

pub returns-then-bytes-at : goal.returns-then-bytes-at
returns-then-bytes-at c =
    inside-close c.args.bytes.now c.args.start c.args.closing c.loop-at.colon c.loop-at.at c.loop-at.invariant
    c.loop-at-test.true c.if-bytes-at.true

pub returns-in-None : goal.returns-in-None
returns-in-None c =
    inside-broken c.args.bytes.now c.args.start c.args.closing c.loop-at.colon c.loop-at.at c.loop-at.invariant
    c.loop-at-test.true c.if-bytes-at.false
    (subst (AtomEndsAt c.args.bytes.now c.loop-at.at) c.in-None.is c.in_ok-behind.ensures)

-- the first colon so far, at this byte
first_here : (colon : Option ℕ) (b at : ℕ) → is_some colon ≡ false → b ≡ 58 → Some at ≡ colon_after colon b at
first_here None b at none is = sym (ap (λ t. cond t (Some at) None) (eq-eqb b 58 is))
first_here (Some colon) b at none is = cc

-- a colon was met before
met_before : (colon : Option ℕ) (b at : ℕ) → is_some colon ≡ true → colon ≡ colon_after colon b at
met_before None b at some = cc
met_before (Some colon) b at some = refl

-- this byte is none
other_byte : (colon : Option ℕ) (b at : ℕ) → (b ≡ 58 → ⊥) → colon ≡ colon_after colon b at
other_byte None b at other = sym (ap (λ t. cond t (Some at) None) (ne_eqb b 58 other))
other_byte (Some colon) b at other = refl

pub loop-at-preserved : goal.loop-at-preserved
loop-at-preserved c =
    let text = c.args.bytes.now in
    let at = c.loop-at.at in
    let behind = c.in-Some.behind in
    let b = get_or text at 0 in
    let more = inside-more text c.args.start c.args.closing c.loop-at.colon at behind c.loop-at.invariant
    c.loop-at-test.true c.if-bytes-at.false
    (subst (AtomEndsAt text at) c.in-Some.is c.in_ok-behind.ensures) in
    let P : Option ℕ → Type 0 = λ o. InsideSoFar text c.args.start c.args.closing o behind in
    elim c.if-bytes-at-eq58.branch [
      | then-bytes-at-eq58+then-is_none w ↦
          subst P (sym (w.colon-is ∙ first_here c.loop-at.colon b at (w.is_none.ensures ∙ ap not w.if-is_none.true)
          w.if-bytes-at-eq58.true)) more
      | else-bytes-at-eq58 w ↦
          elim w.else-bytes-at-eq58.branch [
            | else-bytes-at-eq58-via-then-bytes-at-eq58+else-is_none v ↦
                subst P (sym (w.colon-is ∙ met_before c.loop-at.colon b at (v.is_none.ensures ∙ ap not v.if-is_none.false))) more
            | else-bytes-at-eq58-via-else-bytes-at-eq58 v ↦
                subst P (sym (w.colon-is ∙ other_byte c.loop-at.colon b at v.if-bytes-at-eq58.false)) more
          ]
    ]

pub returns : goal.returns
returns c = inside-end c.args.bytes.now c.args.start c.args.closing c.loop-at.colon c.loop-at.at c.loop-at.invariant c.loop-at-test.false
