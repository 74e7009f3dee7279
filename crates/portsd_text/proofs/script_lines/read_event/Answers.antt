use Rattle.std.proofs.Common.{◌≡◌, ◌∙◌, sym, rules, tests, lit<}
use Rattle.std.specs.List.{list_all}
use Rattle.std.proofs.lemmas.Iterator.{YieldsList-from_slice}
use Rattle.std.proofs.lemmas.Iterator.Search.{all_from_yields_List}
use Rattle.std.proofs.lemmas.Str.Pattern.{split_once_first}
use Rattle.portsd_text.specs.Escapes.{is_printable}
use Rattle.portsd_text.specs.Entries.{worded}
use Rattle.portsd_text.proofs.EntryFacts.{printable-IsUtf8, at_blank-none, at_blank-some, event_of-other, event_of-printable}
use Rattle.portsd_text.proofs.script_lines.read_event.Goals as goal

pub returns-then-not-all : goal.returns-then-not-all
returns-then-not-all c =
    let all : c.all.result ≡ list_all is_printable c.args.line.now = all_from_yields_List is_printable _ _ _ c.all.ensures.ran
    (YieldsList-from_slice c.args.line.now (cc)) (λ x b q k. search (rules, tests)) in
    sym (event_of-other c.args.line.now (cc))

pub returns-in_default : goal.returns-in_default
returns-in_default c =
    let all : c.all.result ≡ list_all is_printable c.args.line.now = all_from_yields_List is_printable _ _ _ c.all.ensures.ran
    (YieldsList-from_slice c.args.line.now (cc)) (λ x b q k. search (rules, tests)) in
    absurd (c.in_default.ensures.cases.0 (printable-IsUtf8 c.args.line.now (cc)))

pub returns-in_default-split_once : goal.returns-in_default-split_once
returns-in_default-split_once c =
    let all : c.all.result ≡ list_all is_printable c.args.line.now = all_from_yields_List is_printable _ _ _ c.all.ensures.ran
    (YieldsList-from_slice c.args.line.now (cc)) (λ x b q k. search (rules, tests)) in
    let parts = rw (c.in_default-split_once.is, c.in-Ok.ensures.cases.0) at (split_once_first 32 c.in-Ok.text.now c.split_once.result
    c.split_once.ensures.cases (lit< tt)) in
    sym (event_of-printable c.args.line.now (cc) ∙ at_blank-none worded c.args.line.now parts)

pub returns : goal.returns
returns c =
    let all : c.all.result ≡ list_all is_printable c.args.line.now = all_from_yields_List is_printable _ _ _ c.all.ensures.ran
    (YieldsList-from_slice c.args.line.now (cc)) (λ x b q k. search (rules, tests)) in
    let parts = rw (c.in-Some.is, c.in-Ok.ensures.cases.0) at (split_once_first 32 c.in-Ok.text.now c.split_once.result
    c.split_once.ensures.cases (lit< tt)) in
    rw (
      event_of-printable c.args.line.now (cc),
      at_blank-some worded c.args.line.now c.in-Some.word.now c.in-Some.rest.now parts.0 parts.1
          parts.2,
    ) c.read_worded.ensures
