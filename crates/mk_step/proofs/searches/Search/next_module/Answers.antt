use Rattle.std.proofs.Common.{◌≡◌, ◌<◌, ◌+◌, ◌∙◌, Vec, String, Global, length, map, drop, string_bytes, option_map, Ok, sym, ap, arith}
use Rattle.std.proofs.lemmas.Result.{err_from_is_err_and}
use Rattle.mk_base.specs.Meter.{IsLater-on}
use Rattle.mk_base.specs.Outcome.{after}
use Rattle.mk_base.specs.Stops.{StopsAt-whole}
use Rattle.mk_files.specs.Questions.{account}
use Rattle.mk_files.specs.AfterQuestions.{AfterQuestions-on, LeavesAtStop-on}
use Rattle.mk_eval.specs.Views.{place_of_file, included_file}
use Rattle.mk_step.proofs.Searching.{Found, later, word-at, is-found, is-missed, given-word}
use Rattle.mk_step.proofs.searches.Search.next_module.Goals as goal

pub returns-in_err-opened-clause-gives : goal.returns-in_err-opened-clause-gives
returns-in_err-opened-clause-gives g c =
    let view = g.F.Names.view in
    let first = view c.args.files.now in
    let now = view c.loop-self.files in
    let words = c.args.self.now.words in
    let next = c.loop-self.self.next in
    let a = account c.loop-self.budget now in
    let same : c.loop-self.self.words ≡ words = c.loop-self.invariant.words in
    let within : next < length words.items = omega (
      arith,
      c.loop-self-test.true,
      c.len.ensures,
      c.loop-self.self.words.ok.0,
      ap (λ (words : Vec (String Global) Global). length words.items) same,
    ) in
    let p = err_from_is_err_and c.from_residual.result c.from_residual.ensures.1 in
    rw (p.1, p.2)
    (StopsAt-whole c.in_err-opened.field-0.0 (account c.open_module.new.budget (view c.open_module.new.files)) _ _
    (λ fault at. c.loop-self.invariant.next
    ∙ word-at c.args.here c.args.self.now.line words.items c.args.state.now first now c.loop-self.invariant.asked a next c.index.result.now
    c.as_str-word.result.now within (given-word words c.loop-self.self.words next c.index.result.now same c.index.ensures)
    c.as_str-word.ensures.value
    ∙ ap (λ r. after r (later (place_of_file c.args.here first.files) c.args.self.now.line words.items c.args.state.now a next)) at)
    c.in_err-opened.ensures.gives)

pub returns-in_err-opened-clause-asks : goal.returns-in_err-opened-clause-asks
returns-in_err-opened-clause-asks g c =
    let view = g.F.Names.view in
    let p = err_from_is_err_and c.from_residual.result c.from_residual.ensures.1 in
    rw (p.1, p.2)
    (LeavesAtStop-on g.F.Names.fails_with (view c.args.files.now) (view c.loop-self.files) (view c.open_module.new.files)
    c.in_err-opened.field-0.0 c.loop-self.invariant.asked c.in_err-opened.ensures.asks)

pub returns-then-is_some-clause-gives : goal.returns-then-is_some-clause-gives
returns-then-is_some-clause-gives g c =
    let view = g.F.Names.view in
    let first = view c.args.files.now in
    let now = view c.loop-self.files in
    let words = c.args.self.now.words in
    let next = c.loop-self.self.next in
    let a = account c.loop-self.budget now in
    let end = account c.open_module.new.budget (view c.open_module.new.files) in
    let opened = c.in_ok-opened.opened in
    let same : c.loop-self.self.words ≡ words = c.loop-self.invariant.words in
    let within : next < length words.items = omega (
      arith,
      c.loop-self-test.true,
      c.len.ensures,
      c.loop-self.self.words.ok.0,
      ap (λ (words : Vec (String Global) Global). length words.items) same,
    ) in
    c.loop-self.invariant.next
    ∙ word-at c.args.here c.args.self.now.line words.items c.args.state.now first now c.loop-self.invariant.asked a next c.index.result.now
    c.as_str-word.result.now within (given-word words c.loop-self.self.words next c.index.result.now same c.index.ensures)
    c.as_str-word.ensures.value
    ∙ ap (λ r. after r (later (place_of_file c.args.here first.files) c.args.self.now.line words.items c.args.state.now a next))
    c.in_ok-opened.ensures.gives
    ∙ is-found c.args.here c.args.self.now.line words.items c.args.state.now first now c.loop-self.invariant.asked a next opened
    end c.if-is_some.ensures
    ∙ ap (λ (words : Vec (String Global) Global). let found : Found =
    Ok (((c.args.state.now, option_map included_file opened), map string_bytes (drop (next + 1) words.items)), end) in found) (sym same)

pub returns-then-is_some-clause-asks : goal.returns-then-is_some-clause-asks
returns-then-is_some-clause-asks g c =
    let view = g.F.Names.view in
    AfterQuestions-on (view c.args.files.now) (view c.loop-self.files) (view c.open_module.new.files) c.loop-self.invariant.asked
    c.in_ok-opened.ensures.asks

pub loop-self-preserved : goal.loop-self-preserved
loop-self-preserved g c =
    let view = g.F.Names.view in
    let first = view c.args.files.now in
    let now = view c.loop-self.files in
    let words = c.args.self.now.words in
    let next = c.loop-self.self.next in
    let a = account c.loop-self.budget now in
    let end = account c.open_module.new.budget (view c.open_module.new.files) in
    let same : c.loop-self.self.words ≡ words = c.loop-self.invariant.words in
    let within : next < length words.items = omega (
      arith,
      c.loop-self-test.true,
      c.len.ensures,
      c.loop-self.self.words.ok.0,
      ap (λ (words : Vec (String Global) Global). length words.items) same,
    ) in
    record {
      next = c.loop-self.invariant.next
          ∙ word-at c.args.here c.args.self.now.line words.items c.args.state.now first now c.loop-self.invariant.asked a next
          c.index.result.now c.as_str-word.result.now within (given-word words c.loop-self.self.words next c.index.result.now same
          c.index.ensures) c.as_str-word.ensures.value
          ∙ ap (λ r. after r (later (place_of_file c.args.here first.files) c.args.self.now.line words.items c.args.state.now a next))
          c.in_ok-opened.ensures.gives
          ∙ is-missed c.args.here c.args.self.now.line words.items c.args.state.now first now c.loop-self.invariant.asked a next
          c.in_ok-opened.opened end c.if-is_some.ensures;
      words = same;
      number = c.loop-self.invariant.number;
      asked = AfterQuestions-on first now (view c.open_module.new.files) c.loop-self.invariant.asked c.in_ok-opened.ensures.asks;
      later = IsLater-on c.loop-self.invariant.later c.in_ok-opened.ensures.later;
    }
