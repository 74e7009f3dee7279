use Rattle.std.proofs.Common.{◌≡◌, refl, true, length, arith}
use Rattle.std.proofs.lemmas.Option.{slice_get_read}
use Rattle.ports_core.specs.Effects.{Effect}
use Rattle.ports_core.specs.Keys.{key_texts}
use Rattle.ports_core.specs.Sharing.{sizes_of}
use Rattle.ports_core.specs.State.{new_state}
use Rattle.ports_core.proofs.KeyLemmas.{length_texts}
use Rattle.ports_core.proofs.RunsServe.{run_plainly}
use Rattle.ports_core.proofs.RunConverses.{run_converses}
use Rattle.ports_core.proofs.RunLemmas.{run_next, run_none, run_all}
use Rattle.ports_core.proofs.RunInTime.{run_in_time}
use Rattle.ports_core.proofs.history.replay.Goals as goal

pub loop-index-init : goal.loop-index-init
loop-index-init g c = run_none (new_state (key_texts c.args.config.keys.items) (sizes_of c.args.config)) c.in_ok-service.service
    c.args.events.now c.in_ok-steps.steps.items c.in_ok-service.ensures.ok c.in_ok-steps.ensures.items

-- the event that was tested isn't allowed
pub returns-then-not-allows-clause-err : goal.returns-then-not-allows-clause-err
returns-then-not-allows-clause-err g c = (
  c.loop-index.invariant,
  λ t within. run_plainly (key_texts c.args.config.keys.items) (sizes_of c.args.config) _ _ _ t
      (omega (arith, length_texts c.args.config.keys.items, within)) c.loop-index.invariant,
  λ d. run_converses (key_texts c.args.config.keys.items) (sizes_of c.args.config) _ _ _ d c.loop-index.invariant,
  (
    c.index-events-index.result,
    slice_get_read c.args.events.now (length c.args.events.now) c.loop-index.index c.index-events-index.result refl c.loop-index-test.true
        c.index-events-index.is,
    λ allowed. let yes : c.allows.result ≡ true = c.allows.ensures.1 allowed in let refused = c.if-not-allows.true in cc,
  ),
)

pub loop-index-preserved : goal.loop-index-preserved
loop-index-preserved g c =
    let step : Effect = record { told = c.step-told.result; sent = c.in_ok-sent.sent.items } in
    run_next (new_state (key_texts c.args.config.keys.items) (sizes_of c.args.config)) c.loop-index.service c.step-told.new.self
    c.args.events.now c.loop-index.index c.index-events-index.result c.loop-index.steps.items c.push.new.self.items step
    c.loop-index-test.true c.index-events-index.is c.loop-index.invariant
    (record {
      allowed = c.allows.ensures.0 c.if-not-allows.false;
      sent = c.in_ok-sent.ensures;
      does = c.step-told.ensures.does;
      spends =
          c.step-told.ensures.spends;
      short = c.step-told.ensures.short;
      jobs = c.step-told.ensures.jobs;
    })
    c.in_ok-push.ensures.items

pub returns-clause-run : goal.returns-clause-run
returns-clause-run g c = run_all (new_state (key_texts c.args.config.keys.items) (sizes_of c.args.config)) c.loop-index.service
    c.args.events.now c.loop-index.index c.loop-index.steps.items c.loop-index-test.false c.loop-index.invariant

pub returns-clause-plainly : goal.returns-clause-plainly
returns-clause-plainly g c = λ t within.
    run_plainly (key_texts c.args.config.keys.items) (sizes_of c.args.config) c.args.events.now c.loop-index.steps.items
    c.loop-index.service t (omega (arith, length_texts c.args.config.keys.items, within))
    (run_all (new_state (key_texts c.args.config.keys.items) (sizes_of c.args.config)) c.loop-index.service c.args.events.now
    c.loop-index.index c.loop-index.steps.items c.loop-index-test.false c.loop-index.invariant)

pub returns-clause-converses : goal.returns-clause-converses
returns-clause-converses g c = λ d.
    run_converses (key_texts c.args.config.keys.items) (sizes_of c.args.config) c.args.events.now
    c.loop-index.steps.items c.loop-index.service d
    (run_all (new_state (key_texts c.args.config.keys.items) (sizes_of c.args.config)) c.loop-index.service c.args.events.now
    c.loop-index.index c.loop-index.steps.items c.loop-index-test.false c.loop-index.invariant)

pub returns-clause-in_time : goal.returns-clause-in_time
returns-clause-in_time g c =
    run_in_time (key_texts c.args.config.keys.items) (sizes_of c.args.config) c.args.events.now
    (let held = c.in_ok-steps.ensures.capacity in let small = c.in_ok-steps.steps.small in omega (arith, held, small))
