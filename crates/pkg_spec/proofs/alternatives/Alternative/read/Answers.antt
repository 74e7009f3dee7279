-- Each way to end is the definition's.
use Rattle.std.proofs.Common.{◌∙◌, ap, sym, map}
use Rattle.pkg_spec.specs.Alternatives.{alternative_of_words}
use Rattle.text_parts.specs.Cuts.{now_all}
use Rattle.pkg_spec.specs.Seen.{comparison_seen}
use Rattle.pkg_spec.proofs.Reading.{is_empty, at_cut, without_stem, of_words, no_words, no_versions, some_versions, nameless, is_whole}
use Rattle.pkg_spec.proofs.alternatives.Alternative.read.Goals as goal

pub returns-then-is_empty-clause-empty : goal.returns-then-is_empty-clause-empty
returns-then-is_empty-clause-empty c = λ _. is_empty c.args.text.now (sym c.is_empty.ensures ∙ c.if-is_empty.true)

pub returns-in_default-clause-no_stem : goal.returns-in_default-clause-no_stem
returns-in_default-clause-no_stem c = λ _. at_cut c.args.text.now _ (sym c.is_empty.ensures ∙ c.if-is_empty.false) c.in_default.ensures

pub returns-then-is_empty-2-clause-no_stem : goal.returns-then-is_empty-2-clause-no_stem
returns-then-is_empty-2-clause-no_stem c =
    λ _. without_stem c.args.text.now c.in-Some.stem.now c.in-Some.behind.now (sym c.is_empty.ensures ∙ c.if-is_empty.false)
    c.in-Some.ensures (sym c.is_empty-2.ensures ∙ c.if-is_empty-2.true)

pub returns-in_default-split_first-clause-no_stem : goal.returns-in_default-split_first-clause-no_stem
returns-in_default-split_first-clause-no_stem c =
    λ _. of_words c.args.text.now c.in-Some.stem.now c.in-Some.behind.now c.as_slice.result.now (sym c.is_empty.ensures
    ∙ c.if-is_empty.false) c.in-Some.ensures (sym c.is_empty-2.ensures ∙ c.if-is_empty-2.false)
    (ap now_all c.as_slice.ensures.value ∙ c.in_ok-words.ensures)
    ∙ no_words c.in-Some.stem.now c.as_slice.result.now c.in_default-split_first.ensures.cases

pub returns-in_default-2-clause-bad_version : goal.returns-in_default-2-clause-bad_version
returns-in_default-2-clause-bad_version c =
    λ _. of_words c.args.text.now c.in-Some.stem.now c.in-Some.behind.now c.as_slice.result.now (sym c.is_empty.ensures
    ∙ c.if-is_empty.false) c.in-Some.ensures (sym c.is_empty-2.ensures ∙ c.if-is_empty-2.false)
    (ap now_all c.as_slice.ensures.value ∙ c.in_ok-words.ensures)
    ∙ ap (λ words. alternative_of_words c.in-Some.stem.now (now_all words)) c.in-Some-split_first.ensures.cases.0
    ∙ no_versions (λ comparisons. map comparison_seen comparisons.items) c.in-Some.stem.now c.in-Some-split_first.versions.now.now
    (now_all c.in-Some-split_first.flavors.now) c.in_ok-comparisons.field-0 c.in_default-2.is c.in_ok-comparisons.ensures

pub returns-then-not-all_have_names-clause-bad_version : goal.returns-then-not-all_have_names-clause-bad_version
returns-then-not-all_have_names-clause-bad_version c =
    λ _. of_words c.args.text.now c.in-Some.stem.now c.in-Some.behind.now c.as_slice.result.now (sym c.is_empty.ensures
    ∙ c.if-is_empty.false) c.in-Some.ensures (sym c.is_empty-2.ensures ∙ c.if-is_empty-2.false)
    (ap now_all c.as_slice.ensures.value ∙ c.in_ok-words.ensures)
    ∙ ap (λ words. alternative_of_words c.in-Some.stem.now (now_all words)) c.in-Some-split_first.ensures.cases.0
    ∙ nameless c.in-Some.stem.now c.in-Some-split_first.versions.now.now c.in-Some-split_first.flavors.now c.all_have_names.result
    c.all_have_names.ensures c.if-not-all_have_names.true
    (some_versions (λ comparisons. map comparison_seen comparisons.items) c.in-Some-split_first.versions.now.now c.in_ok-comparisons.field-0
    c.in-Some-2.comparisons c.in-Some-2.is c.in_ok-comparisons.ensures).0

pub returns-clause-ok : goal.returns-clause-ok
returns-clause-ok c =
    let versions = some_versions (λ comparisons. map comparison_seen comparisons.items) c.in-Some-split_first.versions.now.now
    c.in_ok-comparisons.field-0 c.in-Some-2.comparisons c.in-Some-2.is c.in_ok-comparisons.ensures in
    of_words c.args.text.now c.in-Some.stem.now c.in-Some.behind.now c.as_slice.result.now (sym c.is_empty.ensures ∙ c.if-is_empty.false)
    c.in-Some.ensures (sym c.is_empty-2.ensures ∙ c.if-is_empty-2.false)
    (ap now_all c.as_slice.ensures.value ∙ c.in_ok-words.ensures)
    ∙ ap (λ words. alternative_of_words c.in-Some.stem.now (now_all words)) c.in-Some-split_first.ensures.cases.0
    ∙ is_whole c.in-Some.stem.now c.in-Some-split_first.versions.now.now c.in-Some-split_first.flavors.now c.all_have_names.result _
    c.all_have_names.ensures c.if-not-all_have_names.false versions.0
    c.in_ok-from_str.ensures.ok versions.1 c.in_ok-wanted_of.ensures c.in_ok-forbidden_of.ensures
