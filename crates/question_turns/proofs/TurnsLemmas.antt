-- How many turns may follow, and what one of them spends.
use Rattle.std.proofs.Common.{◌≡◌, ◌≤◌, ◌<◌, ◌+◌, ◌-◌, ◌*◌, ◌^◌, min, ℕ, List, length, Some, Result, Ok, Err, IfOk, sym, ap, subst, arith}
use Rattle.std.specs.Prelude.{option_map, option_to_list, unwrap_or}
use Rattle.mk_base.specs.declared.budget.TheConstants.{UNITS}
use Rattle.turn_amounts.specs.declared.TheConstants.{MOST_CHECKS, TURN_UNITS}
use Rattle.mk_paths.specs.Place.{place}
use Rattle.mk_paths.specs.World.{World}
use Rattle.mk_eval.specs.Costs.{CostFew, value_units}
use Rattle.mk_eval.specs.Meaning.{value_of_variable}
use Rattle.mk_eval.specs.Agreement.{cost_of}
use Rattle.mk_eval.specs.declared.outcome.Evaluated.{Evaluated}
use Rattle.mk_eval.specs.declared.outcome.Failed.{Failed}
use Rattle.mk_eval.specs.declared.outcome.Kind.{Kind}
use Rattle.mk_eval.specs.declared.outcome.Kind.TheVariants as kinds
use Rattle.port_rules.specs.Records.{RecordsCostFew, record_of, record_units}
use Rattle.port_index.specs.Efforts.{cost_over, evaluations_over}
use Rattle.port_index.specs.Index.{needed_paths}
use Rattle.port_index.specs.PathLaws.{MakefilesAreEvaluated}
use Rattle.port_index.specs.PathOutcomes.{with_cost}
use Rattle.turn_amounts.specs.Spent.{no_spending, spent_together, IsUpFrom, total_of, spent_in_all}
use Rattle.turn_amounts.specs.declared.spent.Spent.{Spent}
use Rattle.plain_service.specs.AnswerCosts.{path_asked, cost_after, cost_by, cost_for, rests_for, with_record}
use Rattle.plain_service.specs.Spent.{StaysWithin}
use Rattle.plain_service.specs.declared.index_questions.IndexQuestion.{IndexQuestion}
use Rattle.plain_service.specs.declared.questions.Question.TheVariants.{OfPort, OfIndex}
use Rattle.plain_service.specs.declared.questions.Question.{Question}
use Rattle.eval_ask.specs.Ask.{HasLooked, IsShort, SpendsTurn, spent_in, spent_less_saved}
use Rattle.index_keep.specs.Turns.{ContinuesRefresh, RefreshView, RefreshingPays, RenewsOne, IsRefreshTurn, cost_left, evaluations_left}
use Rattle.index_keep.specs.Turns.{spent_by}
use Rattle.index_keep.specs.declared.keeper.Refreshed.{Refreshed}
use Rattle.index_keep.specs.declared.keeper.Refreshed.TheVariants as turned
use Rattle.index_keep.specs.Shown.{ShownRows}
use Rattle.eval_ask.specs.declared.ask.Asked.{Asked}
use Rattle.eval_ask.specs.declared.ask.AskTurned.{AskTurned}
use Rattle.eval_ask.specs.declared.ask.AskTurned.TheVariants.{More, Done}
use Rattle.question_turns.specs.TurnsLeft.{open_turns, turns_after, turns_of_refresh}
use Rattle.plain_service.specs.declared.port_routes.PortQuestion.{PortQuestion}
use Rattle.plain_service.specs.declared.port_routes.PortQuestion.TheVariants.{Variable, Record}
use Rattle.question_turns.proofs.PortLemmas.{pair_with}
use Rattle.question_turns.proofs.SpendingLemmas.{left_costs_no_more, left_takes_no_more}

-- two facts of what went well make a third
pub both_ok : {A E : Type 0} {P Q R : A → Type 0} (result : Result A E) → ((value : A) → P value → Q value → R value) → IfOk result P
    → IfOk result Q → IfOk result R
both_ok (Ok value) f p q = f value p q
both_ok (Err fault) f p q = tt

-- ---- turns of an evaluation

-- so much more is spent
pub open_less : (evaluations cost before after : ℕ) → before + TURN_UNITS ≤ after → after ≤ cost + MOST_CHECKS * evaluations
    → open_turns evaluations cost after < open_turns evaluations cost before
open_less evaluations cost before after more within = omega (arith, more, within)

-- an evaluation that went on, or waits for the next turn
pub fewer-after : (world : World) (question : Question) (before after : Spent) → total_of before + TURN_UNITS ≤ total_of after
    → StaysWithin world question after
    → turns_after world question (total_of after) < turns_after world question (total_of before)
fewer-after world question before after more within =
    open_less (length (rests_for world question)) (cost_for world question) (total_of before) (total_of after) more
    (omega (arith, within.units, within.checks))

-- a turn that has no units left
pub all-acted : (before after : Spent) (left : ℕ) → IsUpFrom before after
    → left ≡ TURN_UNITS - ((after.units - before.units) + (after.checks - before.checks)) → left ≡ 0
    → total_of before + TURN_UNITS ≤ total_of after
all-acted before after left up is none = omega (arith, up.units, up.checks, is, none)

-- a turn that has some
pub may-act : (before after : Spent) (left : ℕ) → IsUpFrom before after
    → left ≡ TURN_UNITS - ((after.units - before.units) + (after.checks - before.checks)) → 1 ≤ left
    → total_of after < total_of before + TURN_UNITS
may-act before after left up is some = omega (arith, up.units, up.checks, is, some)

one_left : (cost spent : ℕ) → 0 < open_turns 1 cost spent
one_left cost spent = omega arith

-- the makefile of what is asked is there
pub some-left : (world : World) (question : PortQuestion) (makefile : List ℕ) (spent : ℕ)
    → place world (path_asked question).directory ≡ Some makefile
    → 0 < turns_after world (OfPort question) spent
some-left world question makefile spent placed =
    subst (λ p. 0 < open_turns (length (option_to_list (option_map (pair_with (path_asked question)) p)))
    (unwrap_or (option_map (cost_by world question) p) 0) spent) (sym placed)
    (one_left (cost_by world question makefile) spent)

-- ---- a turn of an evaluation, after a look in the same turn

module _ (before : Spent) (old new : AskTurned) (units : ℕ) (looked : HasLooked before old) (up : IsUpFrom before (spent_in old))
    (units_is : units ≡ TURN_UNITS - (((spent_in old).units - before.units) + ((spent_in old).checks - before.checks))) where
  enough_by : (new : AskTurned) → SpendsTurn units (spent_in old) new → SpendsTurn TURN_UNITS before new
  enough_by (More ask) spends = (
    record { units = omega (arith, looked.units, spends.0.units); checks = omega (arith, up.checks, spends.0.checks) },
    omega (arith, looked.units, up.checks, units_is, spends.1, spends.0.units, spends.0.checks),
  )
  enough_by (Done asked) spends = tt

  pub enough-looked : SpendsTurn units (spent_in old) new → SpendsTurn TURN_UNITS before new
  enough-looked spends = enough_by new spends

-- ---- what is made of an evaluation

most_with : (cost more : ℕ) → more ≤ UNITS → with_cost cost more ≤ cost + UNITS
most_with cost more few = omega (arith, few)

most_by : (kind : Kind) (cost more : ℕ) → more ≤ UNITS → with_record kind cost more ≤ cost + UNITS
most_by kinds.Port cost more few = most_with cost more few
most_by kinds.List cost more few = omega arith
most_by kinds.Other cost more few = omega arith

-- what is asked costs at most 50,000 units more than the evaluation
pub most-asked : CostFew → RecordsCostFew → (question : PortQuestion) (makefile : List ℕ) (outcome : Result Evaluated Failed)
    → cost_after question makefile outcome ≤ cost_of outcome + UNITS
most-asked few records (Variable asked) makefile (Ok evaluated) = most_with evaluated.cost
    (value_units (value_of_variable evaluated.env makefile asked.name)) (few.values evaluated.env makefile asked.name)
most-asked few records (Record path) makefile (Ok evaluated) = most_by evaluated.kind evaluated.cost
    (record_units (record_of evaluated.env makefile)) (records evaluated.env makefile)
most-asked few records question makefile (Err failed) = omega arith

-- the same in the turn that makes it, which had spent fewer than its units before
pub few-made : (before : Spent) (asked : Asked) (cost : ℕ) → cost ≤ cost_of asked.evaluation.value.outcome + UNITS
    → total_of (spent_in (Done asked)) < total_of before + TURN_UNITS → IsShort TURN_UNITS before (spent_less_saved asked cost)
few-made before asked cost most few = omega (arith, most, few)

-- ---- turns of a refresh

renewed_few : (old_count count old_cost cost begun_units begun_checks units checks : ℕ) → (begun_units + units) + cost ≤ old_cost
    → (begun_checks + checks) + MOST_CHECKS * count ≤ MOST_CHECKS * old_count
    → open_turns count cost 0 ≤ open_turns old_count old_cost (begun_units + begun_checks)
renewed_few old_count count old_cost cost begun_units begun_checks units checks pays few = omega (arith, pays, few)

renewed_less : (old_count count old_cost cost begun_units begun_checks units checks : ℕ) → (begun_units + units) + cost ≤ old_cost
    → (begun_checks + checks) + MOST_CHECKS * count ≤ MOST_CHECKS * old_count
    → 1 + count ≡ old_count → open_turns count cost 0 < open_turns old_count old_cost (begun_units + begun_checks)
renewed_less old_count count old_cost cost begun_units begun_checks units checks pays few fewer = omega (arith, pays, few, fewer)

-- a row was renewed: no more turns are left
pub renews-few : RefreshingPays → (world : World) (old new : RefreshView) (spent : Spent) → RenewsOne world old new spent
    → turns_of_refresh world new ≤ turns_of_refresh world old
renews-few law world old new spent renewed =
    let pays = law.renews world old new spent renewed in
    subst (λ (begun : Spent). open_turns (evaluations_left world new.rows) (cost_left world new.rows) (total_of begun) ≤ turns_of_refresh
    world old) (sym renewed.1)
    (renewed_few (evaluations_left world old.rows) (evaluations_left world new.rows) (cost_left world old.rows) (cost_left world new.rows)
    old.begun.units old.begun.checks spent.units spent.checks pays.0 pays.1)

some_in_all : (begun_units begun_checks units checks : ℕ) → 1 ≤ units + checks → 1 ≤ (begun_units + units) + (begun_checks + checks)
some_in_all begun_units begun_checks units checks some = omega (arith, some)

-- and fewer, if anything was spent
pub renews-less : RefreshingPays → (world : World) (old new : RefreshView) (spent : Spent)
    → RenewsOne world old new spent → 1 ≤ total_of spent
    → turns_of_refresh world new < turns_of_refresh world old
renews-less law world old new spent renewed some =
    let pays = law.renews world old new spent renewed in
    let fewer = law.evaluated world old new spent renewed (some_in_all old.begun.units old.begun.checks spent.units spent.checks some) in
    subst (λ (begun : Spent). open_turns (evaluations_left world new.rows) (cost_left world new.rows) (total_of begun) < turns_of_refresh
    world old) (sym renewed.1)
    (renewed_less (evaluations_left world old.rows) (evaluations_left world new.rows) (cost_left world old.rows) (cost_left world new.rows)
    old.begun.units old.begun.checks spent.units spent.checks
    pays.0 pays.1 fewer)

begun_more : (old_units old_checks units checks new_units new_checks : ℕ) → new_units ≡ old_units + units → new_checks ≡ old_checks + checks
    → TURN_UNITS ≤ units + checks
    → (old_units + old_checks) + TURN_UNITS ≤ new_units + new_checks
begun_more old_units old_checks units checks new_units new_checks is same enough = omega (arith, is, same, enough)

within_both : (units checks cost count : ℕ) → units ≤ cost → checks ≤ MOST_CHECKS * count → units + checks ≤ cost + MOST_CHECKS * count
within_both units checks cost count one other = omega (arith, one, other)

-- a path's evaluation went on
pub goes-less : (world : World) (old new : RefreshView) (spent : Spent) → ContinuesRefresh world TURN_UNITS old new spent
    → turns_of_refresh world new < turns_of_refresh world old
goes-less world old new spent goes =
    let rows : old.rows ≡ new.rows = λ i path. sym (goes.rows path) i in
    subst (λ (rows : ShownRows). turns_of_refresh world new < open_turns (evaluations_left world rows) (cost_left world rows)
    (total_of old.begun)) (sym rows)
    (open_less (evaluations_left world new.rows) (cost_left world new.rows) (total_of old.begun) (total_of new.begun)
    (begun_more old.begun.units old.begun.checks spent.units spent.checks new.begun.units new.begun.checks
    (ap (λ (s : Spent). s.units) goes.begun) (ap (λ (s : Spent). s.checks) goes.begun) goes.enough)
    (within_both new.begun.units new.begun.checks (cost_left world new.rows) (evaluations_left world new.rows)
    goes.within.units goes.within.checks))

open_most : (count all cost whole pairs : ℕ) → count ≤ all → cost ≤ whole → all ≡ pairs → open_turns count cost 0 ≤ open_turns pairs whole 0
open_most count all cost whole pairs few less same = omega (arith, few, less, same)

-- what is left of a refresh takes no more turns than the whole index
pub begins-few : MakefilesAreEvaluated → (world : World) (refresh : RefreshView) (question : IndexQuestion) → refresh.begun ≡ no_spending
    → turns_of_refresh world refresh ≤ turns_after world (OfIndex question) 0
begins-few law world refresh question nothing =
    subst (λ (begun : Spent). open_turns (evaluations_left world refresh.rows) (cost_left world refresh.rows) (total_of begun) ≤ turns_after
    world (OfIndex question) 0) (sym nothing)
    (open_most (evaluations_left world refresh.rows) (evaluations_over world (needed_paths world)) (cost_left world refresh.rows)
    (cost_over world (needed_paths world)) _
    (left_takes_no_more world refresh.rows) (left_costs_no_more world refresh.rows) (law world (needed_paths world)))

-- so much more is spent in a turn
pub short-together : (before begun spent : Spent) → IsShort TURN_UNITS begun (spent_in_all begun spent)
    → IsShort TURN_UNITS before (spent_together before spent)
short-together before begun spent few = omega (arith, few)

-- what a turn of the refresh spends is little
pub short-turn : (world : World) (old new : RefreshView) (before : Spent) (turned : Refreshed) → IsRefreshTurn world TURN_UNITS old new
    turned → IsShort TURN_UNITS before (spent_together before (spent_by turned))
short-turn world old new before (turned.Evaluated spent) takes = short-together before old.begun spent takes.short
short-turn world old new before (turned.More spent) takes = short-together before old.begun spent takes.short
short-turn world old new before turned.Done takes = omega arith

-- and nothing is taken back
pub up-together : (before spent : Spent) → before.units ≤ 2 ^ 64 - 1 → before.checks ≤ 2 ^ 64 - 1
    → IsUpFrom before (spent_together before spent)
up-together before spent units checks = record { units = up before.units spent.units units; checks = up before.checks spent.checks checks }
  where
    up : (n more : ℕ) → n ≤ 2 ^ 64 - 1 → n ≤ min (n + more) (2 ^ 64 - 1)
    up n more small = omega (arith, small)
