use Rattle.std.proofs.Common.{◌<◌, ◌+◌, refl, ap, sym, subst, ◌∙◌, arith}
use Rattle.std.proofs.lemmas.Str.{IsCharBoundary-before_ascii, IsCharBoundary-after_ascii}
use Rattle.std.proofs.lemmas.Result.{err_from_is_err_and}
use Rattle.mk_base.specs.Stops.{StopsPurelyAt}
use Rattle.mk_loop.specs.BodyLine.{as_written}
use Rattle.mk_loop.specs.Scopes.{words_in}
use Rattle.mk_loop.specs.Joinings.{so_far}
use Rattle.mk_loop.specs.Places.{Changing, surround_of, here, close_reference, IsKeptReference}
use Rattle.mk_loop.proofs.Paying.{replaced-copied, changed-paid}
use Rattle.mk_loop.proofs.PassSteps.{ClosesAt, closes-at, last-mark, shut-mark, pass-kept, pass-changed, pass-stopped}
use Rattle.mk_loop.proofs.pass.Pass.close.Goals as goal

pub range-requires-clause-end_boundary : goal.range-requires-clause-end_boundary
range-requires-clause-end_boundary c =
    let pass = c.args.self in
    let last = c.in-Some-Replaced.ensures.items in
    let mark = (last-mark pass.around.items c.pop.new.self.items c.in-Some-Replaced.field-0 last c.requires.placed.marks).1 in
    IsCharBoundary-before_ascii c.args.body.line.now pass.at c.requires.near
    (subst (λ b. b < 128) (sym (shut-mark pass c.pop.new.self.items c.in-Some-Replaced.field-0 _ last c.requires.closes)) mark)

pub returns-in_err-change-in-Some-Replaced-clause-goes : goal.returns-in_err-change-in-Some-Replaced-clause-goes
returns-in_err-change-in-Some-Replaced-clause-goes c =
    let line = c.args.body.line.now in
    let variables = c.args.body.variables.now in
    let pass = c.args.self in
    let m = c.args.budget.now in
    let around = c.in-Some-Replaced.field-0 in
    let mark = c.in-Some-Replaced.field-0-0 in
    let front = c.in-Some-Replaced.front in
    let p = err_from_is_err_and c.from_residual-in_err-change-in-Some-Replaced.result
    c.from_residual-in_err-change-in-Some-Replaced.ensures.1 in
    rw (p.1, p.2)
    (λ left stands.
    pass-stopped (words_in c.args.body.loops.now) variables line pass left around c.pop.new.self.items m c.change.new.budget
    c.in_err-change-in-Some-Replaced.field-0.0
    (closes-at (words_in c.args.body.loops.now) variables line pass left around c.pop.new.self.items c.requires.near c.requires.closes
    stands c.in-Some-Replaced.ensures.items)
    (subst (λ outcome. StopsPurelyAt c.in_err-change-in-Some-Replaced.field-0.0 c.change.new.budget outcome)
    (sym (ap (λ a. close_reference variables (surround_of a) (here line pass) m) c.in-Some-Replaced.field-0-is
    ∙ ap (λ w. close_reference variables (Changing mark w (so_far front)) (here line pass) m) (sym c.as_str-word.ensures.value)
    ∙ ap (λ s. close_reference variables (Changing mark c.as_str-word.result.now (so_far front)) s m)
    (sym (c.in_ok-modifiers-in-Some-Replaced.ensures ∙ ap (as_written (so_far pass.joined)) c.range.ensures.value))))
    (c.in_err-change-in-Some-Replaced.ensures.gives mark)))

pub returns-in-Some-Kept-clause-goes : goal.returns-in-Some-Kept-clause-goes
returns-in-Some-Kept-clause-goes c = λ left stands.
    let words = words_in c.args.body.loops.now in
    let variables = c.args.body.variables.now in
    let line = c.args.body.line.now in
    let pass = c.args.self in
    let found = closes-at words variables line pass left c.in-Some-Kept.field-0 c.pop.new.self.items c.requires.near c.requires.closes
    stands c.in-Some-Kept.ensures.items in
    pass-kept words variables line pass (record { joined = pass.joined; around = c.pop.new.self; copied = pass.copied; at = pass.at + 1 })
    left c.in-Some-Kept.field-0-0 c.pop.new.self.items c.args.budget.now c.requires.placed c.requires.near
    (subst (λ a. ClosesAt words variables line pass left a c.pop.new.self.items) c.in-Some-Kept.field-0-is found) refl refl refl refl

pub returns-in_ok-change-in-Some-Replaced-clause-placed : goal.returns-in_ok-change-in-Some-Replaced-clause-placed
returns-in_ok-change-in-Some-Replaced-clause-placed c =
    let pass = c.args.self in
    let last = c.in-Some-Replaced.ensures.items in
    let marks = last-mark pass.around.items c.pop.new.self.items c.in-Some-Replaced.field-0 last c.requires.placed.marks in
    record {
      text = c.requires.placed.text;
      ordered = omega arith;
      within = omega (arith, c.requires.near);
      starts = IsCharBoundary-after_ascii c.args.body.line.now pass.at c.requires.placed.text c.requires.near
          (subst (λ b. b < 128) (sym (shut-mark pass c.pop.new.self.items c.in-Some-Replaced.field-0 _ last c.requires.closes)) marks.1);
      marks = marks.0;
      untouched = λ none. absurd (omega (arith, none));
      kept = λ none. absurd (omega (arith, none));
    }

pub returns-in_ok-change-in-Some-Replaced-clause-paid : goal.returns-in_ok-change-in-Some-Replaced-clause-paid
returns-in_ok-change-in-Some-Replaced-clause-paid c =
    changed-paid c.args.self (record {
      joined = c.in_ok-change-in-Some-Replaced.field-0;
      around = c.pop.new.self;
      copied =
          c.args.self.at + 1;
      at = c.args.self.at + 1;
    }) c.args.budget.now c.change.new.budget
    (replaced-copied c.args.body.line.now c.args.self c.pop.new.self.items c.in-Some-Replaced.field-0 c.requires.placed
    c.in-Some-Replaced.ensures.items (λ kept. subst IsKeptReference c.in-Some-Replaced.field-0-is kept))
    c.change.ensures.later.spent (omega arith)

pub returns-in_ok-change-in-Some-Replaced-clause-goes : goal.returns-in_ok-change-in-Some-Replaced-clause-goes
returns-in_ok-change-in-Some-Replaced-clause-goes c = λ left stands.
    let words = words_in c.args.body.loops.now in
    let variables = c.args.body.variables.now in
    let line = c.args.body.line.now in
    let pass = c.args.self in
    let m = c.args.budget.now in
    let around = c.in-Some-Replaced.field-0 in
    let mark = c.in-Some-Replaced.field-0-0 in
    let front = c.in-Some-Replaced.front in
    pass-changed words variables line pass (record {
      joined = c.in_ok-change-in-Some-Replaced.field-0;
      around = c.pop.new.self;
      copied =
          pass.at + 1;
      at = pass.at + 1;
    }) left around c.pop.new.self.items m c.change.new.budget
    (closes-at words variables line pass left around c.pop.new.self.items c.requires.near c.requires.closes stands
    c.in-Some-Replaced.ensures.items)
    (ap (λ a. close_reference variables (surround_of a) (here line pass) m) c.in-Some-Replaced.field-0-is
    ∙ ap (λ w. close_reference variables (Changing mark w (so_far front)) (here line pass) m) (sym c.as_str-word.ensures.value)
    ∙ ap (λ s. close_reference variables (Changing mark c.as_str-word.result.now (so_far front)) s m)
    (sym (c.in_ok-modifiers-in-Some-Replaced.ensures ∙ ap (as_written (so_far pass.joined)) c.range.ensures.value))
    ∙ c.in_ok-change-in-Some-Replaced.ensures.gives mark)
    refl refl refl
