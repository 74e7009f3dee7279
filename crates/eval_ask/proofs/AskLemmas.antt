-- How often kept evaluations were used, after one was asked for.
use Rattle.std.proofs.Common.{◌≡◌, ◌≤◌, ◌∙◌, ◌++◌, ap, ap₂, subst, sym, refl, if◌then◌else◌, ℕ, Option, Some, None, Bool, true, false, List}
use Rattle.std.proofs.Common.{[], ◌∷◌, inl, inr, Result, Ok, Err, OnErr}
use Rattle.turn_amounts.specs.declared.TheConstants.{MOST_CHECKS}
use Rattle.mk_paths.specs.World.{FileMap}
use Rattle.eval_cache.specs.Cache.{CacheValue, holds_parse, count_parse, count_look, traces_at, one_more}
use Rattle.eval_cache.specs.Keys.{Key}
use Rattle.eval_cache.specs.Look.{agreeing}
use Rattle.eval_cache.specs.Parses.{AsksParse, AsksInTurn, AsksParses}
use Rattle.eval_cache.specs.declared.counts.Counts.{Counts}
use Rattle.eval_cache.specs.declared.look.Look.{Look}
use Rattle.eval_cache.specs.declared.look.Look.TheVariants.{Miss}
use Rattle.eval_cache.specs.Right.{evaluation_of, IsRight-recorded}
use Rattle.mk_paths.specs.FilesView.{FilesView, Question, noted}
use Rattle.mk_paths.specs.declared.files.FilesFault.{FilesFault}
use Rattle.mk_paths.specs.declared.files.FilesFault.TheVariants as faults
use Rattle.mk_eval.specs.Meaning.{means}
use Rattle.mk_eval.specs.Agreement.{Agrees, cost_of, questions_of}
use Rattle.mk_eval.specs.declared.outcome.Evaluated.{Evaluated}
use Rattle.mk_eval.specs.declared.outcome.Failed.{Failed}
use Rattle.mk_step.specs.Turn.{AsksMore, IsUnderWay, TellsIfDone, Leaves, LeavesAtFailure, Spends, StopsInTime}
use Rattle.mk_step.specs.Views.{point_of}
use Rattle.mk_step.specs.declared.machine.Machine.{Machine}
use Rattle.mk_step.specs.declared.machine.Turned.{Turned}
use Rattle.mk_step.specs.declared.machine.Turned.TheVariants.{More, Done}
use Rattle.read_trace.specs.Recorded.{IsTheSameWhereAgreed}
use Rattle.read_trace.specs.Recorder.{with_trace, LeavesMap, MayFail}
use Rattle.read_trace.specs.declared.evaluation.Evaluation.{Evaluation}
use Rattle.eval_ask.specs.Ask.{evals_after, key_in, TurnsAsk, EndsRight, ComesTo}
use Rattle.eval_ask.specs.declared.ask.Ask.{Ask}
use Rattle.eval_ask.specs.declared.ask.AskTurned.{AskTurned}
use Rattle.eval_ask.specs.declared.ask.AskTurned.TheVariants as ask

some_same : {A : Type 0} {x y : A} → ◌≡◌ {A = Option A} (Some x) (Some y) → x ≡ y
some_same e = cc

evals-count : (kept : Bool) (counts : Counts) → (count_parse kept counts).evals ≡ counts.evals
evals-count true counts = refl
evals-count false counts = refl

evals-one : (content : List ℕ) (old new : CacheValue) → AsksParse content old new → new.counts.evals ≡ old.counts.evals
evals-one content old new (inl handed) = ap (λ (counts : Counts). counts.evals) handed.counts
    ∙ evals-count (holds_parse old content) old.counts
evals-one content old new (inr same) = ap (λ (cache : CacheValue). cache.counts.evals) same

evals-in_turn : (contents : List (List ℕ)) (old new : CacheValue) → AsksInTurn contents old new → new.counts.evals ≡ old.counts.evals
evals-in_turn [] old new same = ap (λ (cache : CacheValue). cache.counts.evals) same
evals-in_turn (content ∷ contents) old new asks = evals-in_turn contents asks.0 new asks.2 ∙ evals-one content old asks.0 asks.1

-- trees that are made for an evaluation use no kept evaluation
pub evals-after : (old new : CacheValue) → AsksParses old new → new.counts.evals ≡ old.counts.evals
evals-after old new asks = evals-in_turn asks.contents old new asks.in_turn

-- a look that finds nothing counts nothing
pub evals-missed : (files : FileMap) (cache : CacheValue) (key wanted : Key) → key ≡ wanted
    → (agreeing files (traces_at cache key)).0 ≡ false
    → cache.counts.evals ≡ evals_after files cache wanted
evals-missed files cache key wanted same missed =
    ap (λ (held : Bool). if held then one_more cache.counts.evals else cache.counts.evals)
    (sym (ap (λ k. (agreeing files (traces_at cache k)).0) (sym same) ∙ missed))

-- a look that finds nothing, and then trees for a new evaluation
pub evals-new : (found : Look) (old looked new : CacheValue) → found ≡ Miss
    → looked.counts ≡ count_look found old.counts → AsksParses looked new
    → new.counts.evals ≡ old.counts.evals
evals-new found old looked new none counted asks =
    evals-after looked new asks ∙ ap (λ (counts : Counts). counts.evals) (counted ∙ ap (λ (f : Look). count_look f old.counts) none)

pub OnErr-always : {A E P : Type 0} (result : Result A E) → P → OnErr result P
OnErr-always (Ok value) p = tt
OnErr-always (Err fault) p = p

-- ---- a turn of a machine, for which files go on with a trace

failed_once : (fault : FilesFault) (may : FilesFault → Type 0) (middle last : FilesView) → LeavesAtFailure may middle last fault
    → LeavesMap (Some fault) middle last
failed_once (faults.Store _) may middle last leaves =
    (ap (λ (view : FilesView). view.files) leaves.1.counted, inr (ap (λ (view : FilesView). view.failures) leaves.1.counted))
failed_once (faults.Memory _) may middle last leaves = elim leaves [
  | inl more ↦ (ap (λ (view : FilesView). view.files) more.in_log, inl (ap (λ (view : FilesView). view.failures) more.in_log))
  | inr failing ↦ (
    ap (λ (view : FilesView). view.files) failing.1.counted,
    inr
        (ap (λ (view : FilesView). view.failures) failing.1.counted),
  )
]

-- it failed as the files may
pub failed_as : (fault : FilesFault) (may : FilesFault → Type 0) (middle last : FilesView) → LeavesAtFailure (MayFail may) middle last
    fault → MayFail may fault
failed_as (faults.Store _) may middle last leaves = leaves.0
failed_as (faults.Memory _) may middle last leaves = inr refl

-- files that didn't fail, whatever else did
pub LeavesMap-any : (fault : Option FilesFault) (first last : FilesView) → last.files ≡ first.files → last.failures ≡ first.failures
    → LeavesMap fault first last
LeavesMap-any None first last files failures = (files, failures)
LeavesMap-any (Some fault) first last files failures = (files, inl failures)

module _ (first middle last : FilesView) (trace : List Question) (goes : middle ≡ with_trace first trace) where
  pub same-files : middle.files ≡ first.files
  same-files = ap (λ (view : FilesView). view.files) goes

  -- what goes on with the trace is under way among the same files
  pub under-way : (key : Key) (machine : Machine) → IsUnderWay (first.files, key.settings) key.name key.flavors trace machine
      → IsUnderWay (middle.files, key.settings) key.name key.flavors trace machine
  under-way key machine under = subst (λ (files : FileMap). IsUnderWay (files, key.settings) key.name key.flavors trace machine)
      (sym same-files) under

  both_left : (more : List Question) → last ≡ noted middle more → (last.files ≡ first.files) × (last.failures ≡ first.failures)
  both_left more is = (
    ap (λ (view : FilesView). view.files) is ∙ same-files,
    ap (λ (view : FilesView). view.failures) is ∙ ap (λ (view : FilesView). view.failures) goes,
  )

  -- what a turn left
  pub turned-leaves : (may : FilesFault → Type 0) (key : Key) (turned : Turned) → Leaves may middle last (middle.files, key.settings)
      key.name key.flavors trace (Ok turned)
      → (last.files ≡ first.files) × (last.failures ≡ first.failures)
  turned-leaves may key (More machine) leaves = both_left leaves.more leaves.noted
  turned-leaves may key (Done outcome) leaves = both_left leaves.more leaves.noted

  -- what a failure left
  pub failure-leaves : (fault : FilesFault) (may : FilesFault → Type 0) → LeavesAtFailure may middle last fault
      → LeavesMap (Some fault) first last
  failure-leaves fault may leaves = subst (λ (view : FilesView). LeavesMap (Some fault) view last)
      (ap (λ (view : FilesView). record view { log = first.log }) goes) (failed_once fault may middle last leaves)

  module _ (taken : List Question) (logs : last.log ≡ Some taken) where
    taken_is : (more : List Question) → last ≡ noted middle more → taken ≡ trace ++ more
    taken_is more noted_so = some_same (sym logs ∙ ap (λ (view : FilesView). view.log) noted_so
        ∙ ap (λ (view : FilesView). (noted view more).log) goes)

    module _ (key : Key) where
      -- it is under way, and has asked what was taken
      more_under : (machine : Machine) → AsksMore middle last (λ more. IsUnderWay (middle.files, key.settings) key.name key.flavors
          (trace ++ more) machine)
          → IsUnderWay (first.files, key.settings) key.name key.flavors taken machine
      more_under machine leaves =
          subst (λ asked. IsUnderWay (first.files, key.settings) key.name key.flavors asked machine)
          (sym (taken_is leaves.more leaves.noted))
          (subst (λ (files : FileMap). IsUnderWay (files, key.settings) key.name key.flavors (trace ++ leaves.more) machine) same-files
          leaves.so)

      -- it is done, and what was taken is all that it asks
      done_is : (outcome : Result Evaluated Failed) → means (middle.files, key.settings) key.name key.flavors ≡ outcome
          → AsksMore middle last (λ more. questions_of middle.files key.settings key.name key.flavors ≡ trace ++ more)
          → ◌≡◌ {A = Evaluation} (record { outcome = outcome; trace = taken }) (evaluation_of first.files key)
      done_is outcome tells leaves =
          ap₂ (λ outcome trace. let evaluation : Evaluation = record { outcome = outcome; trace = trace } in evaluation) (sym tells)
          (taken_is leaves.more leaves.noted ∙ sym leaves.so)
          ∙ ap (λ (files : FileMap). evaluation_of files key) same-files

      pub ends-right : IsTheSameWhereAgreed → (may : FilesFault → Type 0) (turned : Turned)
          → TellsIfDone (Ok turned) (means (middle.files, key.settings) key.name key.flavors)
          → Leaves may middle last (middle.files, key.settings) key.name key.flavors trace (Ok turned) → EndsRight key taken turned
      ends-right same may (More machine) tells leaves = tt
      ends-right same may (Done outcome) tells leaves =
          IsRight-recorded same first.files key.settings key.name key.flavors key (record { outcome = outcome; trace = taken }) refl
          (done_is outcome tells leaves)

    -- a turn of an evaluation that is asked for
    pub turns-ask : (may : FilesFault → Type 0) (units : ℕ) (old : Ask) (turned : Turned) (came : AskTurned)
        → TellsIfDone (Ok turned) (means (middle.files, (key_in old).settings) (key_in old).name (key_in old).flavors)
        → Leaves may middle last (middle.files, (key_in old).settings) (key_in old).name (key_in old).flavors trace (Ok turned)
        → Spends middle.files units old.machine (Ok turned)
        → ComesTo old.looked taken turned came → old.looked.checks ≤ MOST_CHECKS → Agrees first.files taken
        → TurnsAsk first.files units old came
    turns-ask may units old (More machine) came tells leaves spends comes few agrees =
        subst (TurnsAsk first.files units old) (sym comes) (
          refl,
          record { under = more_under (key_in old) machine leaves; answered = agrees; few = few },
          spends.0,
          subst (λ (files : FileMap). StopsInTime files units (point_of old.machine) machine.budget.spent) same-files spends.1,
        )
    turns-ask may units old (Done outcome) (ask.More new) tells leaves spends comes few agrees = absurd comes
    turns-ask may units old (Done outcome) (ask.Done asked) tells leaves spends comes few agrees =
        let is : asked.evaluation.value ≡ evaluation_of first.files (key_in old) = comes.0 ∙ done_is (key_in old) outcome tells leaves in
        let cost : asked.units ≡ cost_of (evaluation_of first.files (key_in old)).outcome =
        comes.1 ∙ ap (λ (e : Evaluation). cost_of e.outcome) (sym comes.0 ∙ is) in (
          record {
            evaluation = is;
            answered = subst (Agrees first.files) (sym (ap (λ (e : Evaluation). e.trace) comes.0)) agrees;
            units = cost;
            checks = comes.2;
          },
          subst (λ (files : FileMap). StopsInTime files units (point_of old.machine) asked.units) same-files
              (subst (StopsInTime middle.files units (point_of old.machine)) (sym comes.1) spends),
        )
