-- Each way to end is the definition's.
use Rattle.std.proofs.Common.{◌∙◌, ap, sym, ◌∷◌}
use Rattle.text_parts.specs.Cuts.{now_all}
use Rattle.pkg_path.proofs.Cutting.{is_empty, has_two, is_bad, is_read}
use Rattle.pkg_path.proofs.Rereading.{path_of-IsPath}
use Rattle.pkg_path.proofs.path.PkgPath.read.Goals as goal

pub returns-then-is_empty-clause-empty : goal.returns-then-is_empty-clause-empty
returns-then-is_empty-clause-empty c = λ _. is_empty c.args.text.now (sym c.is_empty.ensures ∙ c.if-is_empty.true)

pub returns-then-count_subpackages-gt1-clause-two : goal.returns-then-count_subpackages-gt1-clause-two
returns-then-count_subpackages-gt1-clause-two c =
    λ _. has_two c.args.text.now c.in_ok-directory.directory.now c.as_slice-choices.result.now c.count_subpackages.result
    (sym c.is_empty.ensures ∙ c.if-is_empty.false) (ap (λ choices. c.in_ok-directory.directory.now ∷ now_all choices)
    c.as_slice-choices.ensures.value ∙ c.in_ok-directory.ensures)
    c.count_subpackages.ensures c.if-count_subpackages-gt1.true

pub returns-then-not-is_well_written-clause-bad : goal.returns-then-not-is_well_written-clause-bad
returns-then-not-is_well_written-clause-bad c =
    λ _. is_bad c.args.text.now c.in_ok-directory.directory.now c.as_slice-choices.result.now c.count_subpackages.result
    c.is_well_written.result (sym c.is_empty.ensures ∙ c.if-is_empty.false)
    (ap (λ choices. c.in_ok-directory.directory.now ∷ now_all choices) c.as_slice-choices.ensures.value ∙ c.in_ok-directory.ensures)
    c.count_subpackages.ensures c.if-count_subpackages-gt1.false c.is_well_written.ensures c.if-not-is_well_written.true

pub invariant_of-result : goal.invariant_of-result
invariant_of-result c =
    path_of-IsPath c.args.text.now _ (is_read c.args.text.now c.in_ok-directory.directory.now c.as_slice-choices.result.now
    c.count_subpackages.result c.is_well_written.result _ (sym c.is_empty.ensures ∙ c.if-is_empty.false)
    (ap (λ choices. c.in_ok-directory.directory.now ∷ now_all choices) c.as_slice-choices.ensures.value ∙ c.in_ok-directory.ensures)
    c.count_subpackages.ensures c.if-count_subpackages-gt1.false c.is_well_written.ensures c.if-not-is_well_written.false
    c.in_ok-from_str.ensures.ok c.in_ok-flavors_of.ensures c.in_ok-subpackage_of.ensures)

pub returns-clause-ok : goal.returns-clause-ok
returns-clause-ok c =
    is_read c.args.text.now c.in_ok-directory.directory.now c.as_slice-choices.result.now c.count_subpackages.result
    c.is_well_written.result _ (sym c.is_empty.ensures ∙ c.if-is_empty.false)
    (ap (λ choices. c.in_ok-directory.directory.now ∷ now_all choices) c.as_slice-choices.ensures.value ∙ c.in_ok-directory.ensures)
    c.count_subpackages.ensures c.if-count_subpackages-gt1.false c.is_well_written.ensures c.if-not-is_well_written.false
    c.in_ok-from_str.ensures.ok c.in_ok-flavors_of.ensures c.in_ok-subpackage_of.ensures
