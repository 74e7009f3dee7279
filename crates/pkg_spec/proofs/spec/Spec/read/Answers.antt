-- Each way to end is the definition's.
use Rattle.std.proofs.Common.{◌∙◌, ap}
use Rattle.pkg_spec.specs.Alternatives.{spec_of}
use Rattle.text_parts.specs.Cuts.{now_all}
use Rattle.pkg_spec.proofs.PartReadings.{is_no_stem, is_bad_version, is_empty_alternative, is_spec, gives_alternatives}
use Rattle.pkg_spec.proofs.spec.Spec.read.Goals as goal

pub returns-then-reading-clause-no_stem : goal.returns-then-reading-clause-no_stem
returns-then-reading-clause-no_stem c =
    λ _. is_no_stem c.args.text.now _ _ (ap now_all c.deref.ensures.value ∙ c.in_ok-parts.ensures) c.in_ok-reading.ensures c.if-reading.true

pub returns-then-reading-2-clause-bad_version : goal.returns-then-reading-2-clause-bad_version
returns-then-reading-2-clause-bad_version c =
    λ _. is_bad_version c.args.text.now _ _ (ap now_all c.deref.ensures.value ∙ c.in_ok-parts.ensures) c.in_ok-reading.ensures
    c.if-reading.false c.if-reading-2.true

pub returns-then-reading-3-clause-empty : goal.returns-then-reading-3-clause-empty
returns-then-reading-3-clause-empty c =
    λ _. is_empty_alternative c.args.text.now _ _ (ap now_all c.deref.ensures.value ∙ c.in_ok-parts.ensures) c.in_ok-reading.ensures
    c.if-reading.false c.if-reading-2.false c.if-reading-3.true

pub invariant_of-result : goal.invariant_of-result
invariant_of-result c = record {
  read = ap spec_of c.in_ok-from_str.ensures.ok
      ∙ is_spec c.args.text.now _ _ (ap now_all c.deref.ensures.value ∙ c.in_ok-parts.ensures) c.in_ok-reading.ensures c.if-reading.false
      c.if-reading-2.false c.if-reading-3.false;
}

pub returns-clause-ok : goal.returns-clause-ok
returns-clause-ok c = gives_alternatives _ _ (ap spec_of c.in_ok-from_str.ensures.ok
    ∙ is_spec c.args.text.now _ _ (ap now_all c.deref.ensures.value ∙ c.in_ok-parts.ensures) c.in_ok-reading.ensures c.if-reading.false
    c.if-reading-2.false c.if-reading-3.false)
