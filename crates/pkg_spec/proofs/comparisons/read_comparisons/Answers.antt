-- One text more, which is a comparison or isn't.
use Rattle.std.proofs.Common.{◌≡◌, ◌∙◌, ◌<◌, ◌+◌, sym, ap, refl, ℕ, suc, zero, Bool, true, false, cond, ◌&&◌, List, [], ◌∷◌, ◌++◌, map}
use Rattle.std.proofs.Common.{take, get_or, length, Option, Some, None, arith}
use Rattle.std.proofs.lemmas.List.{take_more, map-append}
use Rattle.std.proofs.lemmas.List.Folds.{list_all-append}
use Rattle.std.specs.Borrow.{Bor}
use Rattle.std.specs.List.{list_all}
use Rattle.std.specs.Option.{option_map}
use Rattle.pkg_spec.specs.Alternatives.{ComparisonValue, signed, is_comparison}
use Rattle.text_parts.specs.Cuts.{now_all}
use Rattle.pkg_spec.specs.Seen.{comparison_seen}
use Rattle.pkg_spec.specs.declared.comparisons.Comparison.{Comparison}
use Rattle.pkg_spec.proofs.comparisons.read_comparisons.Goals as goal

-- what was read of a text: nothing, or its comparison
nothing_read : (test : Bool) (value : ComparisonValue) (read : Option Comparison) → read ≡ None → option_map comparison_seen read ≡ cond
    test (Some value) None → test ≡ false
nothing_read true value read is e = absurd (let none : None ≡ Some value = ap (option_map comparison_seen) (sym is) ∙ e in cc)
nothing_read false value read is e = refl

something_read : (test : Bool) (value : ComparisonValue) (read : Option Comparison) (comparison : Comparison) → read ≡ Some comparison
    → option_map comparison_seen read ≡ cond test (Some value) None
    → (test ≡ true) × (comparison_seen comparison ≡ value)
something_read true value read comparison is e =
    (refl, (let some : Some (comparison_seen comparison) ≡ Some value = ap (option_map comparison_seen) (sym is) ∙ e in cc))
something_read false value read comparison is e = absurd (let some : Some (comparison_seen comparison) ≡ None =
    ap (option_map comparison_seen) (sym is) ∙ e in cc)

one_fails : (texts : List (Bor (List ℕ))) (i : ℕ) (d : Bor (List ℕ)) → i < length texts → is_comparison (get_or texts i d).now ≡ false
    → list_all is_comparison (now_all texts) ≡ false
one_fails [] i d inside fails = absurd (omega arith)
one_fails (text ∷ texts) zero d inside fails = ap (λ b. b && list_all is_comparison (now_all texts)) fails
one_fails (text ∷ texts) (suc i) d inside fails = ap (λ b. is_comparison text.now && b) (one_fails texts i d (omega arith) fails)
    ∙ by (is_comparison text.now)
  where
    by : (b : Bool) → (b && false) ≡ false
    by true = refl
    by false = refl

both_pass : (a b : Bool) → a ≡ true → b ≡ true → (a && (b && true)) ≡ true
both_pass true true p q = refl
both_pass true false p q = q
both_pass false b p q = p

texts_more : (texts : List (Bor (List ℕ))) (i : ℕ) (d : Bor (List ℕ)) → i < length texts → now_all (take (i + 1) texts) ≡ now_all
    (take i texts) ++ (get_or texts i d).now ∷ []
texts_more texts i d inside = ap now_all (take_more texts i d inside) ∙ map-append (λ (text : Bor (List ℕ)). text.now)
    (take i texts) (get_or texts i d ∷ [])

more : (texts : List (Bor (List ℕ))) (i : ℕ) (d : Bor (List ℕ)) (read : List Comparison) (one : Comparison) (now : List Comparison)
    → i < length texts
    → (list_all is_comparison (now_all (take i texts)) ≡ true) × (map comparison_seen read ≡ map signed (now_all (take i texts)))
    → (is_comparison (get_or texts i d).now ≡ true) × (comparison_seen one ≡ signed (get_or texts i d).now) → now ≡ read ++ one ∷ []
    → (list_all is_comparison (now_all (take (i + 1) texts)) ≡ true) × (map comparison_seen now ≡ map signed (now_all (take (i + 1) texts)))
more texts i d read one now inside before here is =
    let rest = texts_more texts i d inside in (
      ap (list_all is_comparison) rest ∙ list_all-append is_comparison (now_all (take i texts)) ((get_or texts i d).now ∷ [])
          ∙ both_pass _ _ before.0 here.0,
      ap (map comparison_seen) is ∙ map-append comparison_seen read (one ∷ []) ∙ ap (λ xs. xs ++ comparison_seen one ∷ []) before.1
          ∙ ap (λ x. map signed (now_all (take i texts)) ++ x ∷ []) here.1
          ∙ sym (map-append signed (now_all (take i texts)) ((get_or texts i d).now ∷ [])) ∙ sym (ap (map signed) rest),
    )

pub returns-in_default : goal.returns-in_default
returns-in_default c =
    sym (ap (λ b. cond b (Some (map signed (now_all c.args.texts.now))) None)
    (one_fails c.args.texts.now c.loop-text.text-index _ c.loop-text-test.true
    (nothing_read _ _ c.in_ok-comparison.field-0 c.in_default.is c.in_ok-comparison.ensures)))

pub loop-text-preserved : goal.loop-text-preserved
loop-text-preserved c =
    more c.args.texts.now c.loop-text.text-index _ c.loop-text.comparisons.items c.in-Some.comparison c.push.new.self.items
    c.loop-text-test.true c.loop-text.invariant
    (something_read _ _ c.in_ok-comparison.field-0 c.in-Some.comparison c.in-Some.is c.in_ok-comparison.ensures) c.in_ok-push.ensures.items
