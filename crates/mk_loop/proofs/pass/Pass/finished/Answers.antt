use Rattle.std.proofs.Common.{◌≡◌, ◌-◌, Ok, take, length, ap, ◌∙◌, arith, take_all}
use Rattle.std.specs.Prelude.{slice_range}
use Rattle.mk_loop.specs.BodyLine as body_line
use Rattle.mk_loop.proofs.pass.Pass.finished.Goals as goal

pub returns-then-self-eq0-clause-gives : goal.returns-then-self-eq0-clause-gives
returns-then-self-eq0-clause-gives c = λ m.
    let line = c.args.body.line.now in
    let pass = c.args.self in
    let none = c.if-self-eq0.true in
    let whole : slice_range line pass.copied pass.at ≡ line =
    ap (λ n. slice_range line n pass.at) none ∙ ap (λ n. slice_range line 0 n) c.requires.all
    ∙ ap (λ n. take n line) (let e : length line - 0 ≡ length line = omega arith in e) ∙ take_all (length line) line (omega arith) in
    ap (λ s. body_line.finished (body_line.as_written s (slice_range line pass.copied pass.at)) m) (c.requires.placed.untouched none)
    ∙ ap (λ l. Ok (l, m)) whole
