-- What a path that is left costs, and what is left.
use Rattle.std.proofs.Common.{◌≡◌, ◌≤◌, ◌⊎◌, ◌∙◌, inl, inr, sym, ap, subst, refl, arith, ℕ, zero, suc, ◌+◌, ◌-◌, ◌*◌, Bool, true, false}
use Rattle.std.proofs.Common.{◌||◌, if◌then◌else◌, List, [], ◌∷◌, length, Option, Some, None, is_none, is_some, option_and_then}
use Rattle.std.proofs.Common.{option_to_list}
use Rattle.std.proofs.lemmas.Bool.{false≢true}
use Rattle.std.proofs.lemmas.List.Sums.{sum_by-cons}
use Rattle.std.proofs.lemmas.Slice.Eq.{bytes_eq-Decides}
use Rattle.std.specs.List.{filter, filter_map, sum_by}
use Rattle.mk_base.specs.declared.budget.TheConstants.{UNITS}
use Rattle.turn_amounts.specs.declared.TheConstants.{MOST_CHECKS}
use Rattle.mk_eval.specs.Costs.{CostFew}
use Rattle.std.specs.Str.{bytes_eq}
use Rattle.text_parts.specs.Order.{in_order}
use Rattle.text_parts.specs.Ordered.{among-in_order}
use Rattle.mk_paths.specs.World.{World}
use Rattle.port_index.specs.Efforts.{cost_over, decided, evaluations_at, evaluations_over, has_makefile, is_there}
use Rattle.port_index.specs.FilledRows.{is_one_of}
use Rattle.port_index.specs.Index.{needed_paths}
use Rattle.port_index.specs.Pairs.{Pair, pair_at}
use Rattle.port_index.specs.PathLaws.{MakefilesAreEvaluated}
use Rattle.port_index.specs.PathOutcomes.{Absent, cost_at, outcome_at}
use Rattle.port_index.specs.RowLaws.{OneRowMoreLeavesLess}
use Rattle.port_index.specs.Spent.{ChecksFew, evaluation_cost, evaluations_of}
use Rattle.turn_amounts.specs.declared.spent.Spent.{Spent}
use Rattle.eval_ask.specs.Ask.{EvaluatesInTime, IsShort, IsUpBy, spent_in}
use Rattle.index_keep.specs.Paths.{IsPathAsk}
use Rattle.index_keep.specs.Right.{fresh_row}
use Rattle.index_keep.specs.Shown.{ShownRows, fresh, fresh_outcome}
use Rattle.turn_amounts.specs.Spent.{spent_in_all}
use Rattle.index_keep.specs.Turns.{ContinuesRefresh, PaysAll, RefreshView, RefreshingPays, StayFresh, IsRefreshTurn, cost_left}
use Rattle.index_keep.specs.Turns.{evaluations_left, paths_left, refresh_at, spent_by, units_left, units_saved}
use Rattle.index_keep.specs.declared.keeper.Refreshed.{Refreshed}
use Rattle.index_keep.specs.declared.keeper.Refreshed.TheVariants as turned
use Rattle.index_keep.specs.Walk.{IsLacking}
use Rattle.index_keep.specs.declared.path_ask.PathAsk.{PathAsk}
use Rattle.eval_ask.proofs.AnswerLemmas.{few-come}
use Rattle.index_keep.proofs.KeepLemmas.{HaveFresh-current, lacking-none, left_less}
use Rattle.index_keep.proofs.MadeLemmas.{none-at, one-evaluation}

evaluations_one : (pair : Option Pair) → length (filter_map (λ (p : Option Pair). p) (pair ∷ [])) ≡ length (option_to_list pair)
evaluations_one None = refl
evaluations_one (Some pair) = refl

-- one path takes one evaluation, if it has a makefile
evaluations-path : MakefilesAreEvaluated → (world : World) (path : List ℕ) → evaluations_at world path ≡ evaluations_of (pair_at world path)
evaluations-path law world path =
    let one : evaluations_over world (path ∷ []) ≡ length (filter_map (pair_at world) (path ∷ [])) = law world (path ∷ []) in
    let sum : evaluations_over world (path ∷ []) ≡ evaluations_at world path = omega arith in
    sym sum ∙ one ∙ evaluations_one (pair_at world path)

-- what is counted for one path of a list that passes a test is no more than for all that pass it
module _ (weight : List ℕ → ℕ) (test : List ℕ → Bool) (path : List ℕ) (passes : test path ≡ true) where
  weight-by : (one : List ℕ) (paths : List (List ℕ)) (same passed : Bool) → bytes_eq one path ≡ same → test one ≡ passed
      → (is_one_of path paths ≡ true → weight path ≤ sum_by weight (filter test paths)) → (same || is_one_of path paths) ≡ true
      → weight path ≤ sum_by weight (if passed then one ∷ filter test paths else filter test paths)
  weight-by one paths true true same passed more there =
      let e : weight one ≡ weight path = ap weight ((bytes_eq-Decides one path).0 same) in
      let low : weight path ≤ sum_by weight (one ∷ filter test paths) = omega (arith, e, sum_by-cons weight one (filter test paths)) in
      low
  weight-by one paths true false same passed more there =
      absurd (false≢true (sym passed ∙ ap test ((bytes_eq-Decides one path).0 same) ∙ passes))
  weight-by one paths false true same passed more there =
      let low : weight path ≤ sum_by weight (one ∷ filter test paths) =
      omega (arith, more there, sum_by-cons weight one (filter test paths)) in
      low
  weight-by one paths false false same passed more there = more there

  weight-in : (paths : List (List ℕ)) → is_one_of path paths ≡ true → weight path ≤ sum_by weight (filter test paths)
  weight-in [] there = absurd (false≢true there)
  weight-in (one ∷ paths) there = weight-by one paths (bytes_eq one path) (test one) refl refl (weight-in paths) there

left-in : (weight : List ℕ → ℕ) (world : World) (rows : ShownRows) (path : List ℕ) → IsLacking world rows path
    → weight path ≤ sum_by weight (paths_left world rows)
left-in weight world rows path is =
    weight-in weight (λ other. is_none (decided world (fresh rows) other)) path (ap is_none is.lacking) (in_order (needed_paths world))
    (among-in_order (λ one. bytes_eq one path) (needed_paths world) ∙ is.needed)

enough_by : (units old_units old_checks more_units more_checks new_units new_checks : ℕ) → old_units + more_units ≡ new_units
    → old_checks + more_checks ≡ new_checks
    → (old_units + old_checks) + units ≤ new_units + new_checks → units ≤ more_units + more_checks
enough_by units old_units old_checks more_units more_checks new_units new_checks e f up = omega (arith, e, f, up)

few_by : (checks evaluations : ℕ) → checks ≤ MOST_CHECKS → 1 ≤ evaluations → checks ≤ MOST_CHECKS * evaluations
few_by checks evaluations few some = omega (arith, few, some)

-- the evaluation of a path that is left isn't at its end
pub goes-on : (world : World) (rows : ShownRows) (path : List ℕ) (units : ℕ) (before spent : Spent) (ask : PathAsk)
    → IsLacking world rows path → IsPathAsk world path ask
    → IsUpBy units before (spent_in ask.ask) → (spent_in ask.ask).units ≤ cost_at world path → spent_in_all before spent ≡ spent_in ask.ask
    → EvaluatesInTime world (pair_at world path) units before (spent_in ask.ask) → IsShort units before (spent_in ask.ask)
    → ContinuesRefresh world units (refresh_at rows before) (refresh_at rows (spent_in ask.ask)) spent
goes-on world rows path units before spent ask lacking is up low all in_time short = record {
  rows = λ other. refl;
  path = path;
  lacking = lacking;
  in_time = subst (EvaluatesInTime world (pair_at world path) units before) (sym all) in_time;
  short = subst (IsShort units before) (sym all) short;
  begun = sym all;
  enough = enough_by units before.units before.checks spent.units spent.checks _ _ (ap (λ (s : Spent). s.units) all)
      (ap (λ (s : Spent). s.checks) all) up.1;
  within = record {
    units = omega (arith, low, left-in (cost_at world) world rows path lacking);
    checks = few_by (spent_in ask.ask).checks (evaluations_left world rows) (few-come _ _ ask.ask is.come).1
        (let some = left-in (evaluations_at world) world rows path lacking in omega (arith, some, one-evaluation world path ask is));
  };
}

paid_less : (units cost evaluation checks after all : ℕ) → (units ≡ cost) ⊎ ((1 ≤ checks) × (units ≡ cost - evaluation))
    → cost + after ≡ all → units + after ≤ all
paid_less units cost evaluation checks after all paid sum =
    elim paid [ inl full ↦ omega (arith, full, sum) | inr saved ↦ omega (arith, saved.1, sum) ]

few_less : (checks one after all : ℕ) → checks ≤ MOST_CHECKS * one → one + after ≡ all → checks + MOST_CHECKS * after ≤ MOST_CHECKS * all
few_less checks one after all few sum = omega (arith, few, sum)

one_at_most : (test : Bool) → (if test then 1 else 0) ≤ 1
one_at_most true = omega arith
one_at_most false = omega arith

-- a path on which anything was spent has a makefile
some_evaluated : (evaluations cost evaluation units checks : ℕ) → evaluations ≤ 1 → (evaluations ≡ 0 → cost ≡ 0)
    → checks ≤ MOST_CHECKS * evaluations
    → (units ≡ cost) ⊎ ((1 ≤ checks) × (units ≡ cost - evaluation)) → 1 ≤ units + checks → evaluations ≡ 1
some_evaluated zero cost evaluation units checks most none few paid some =
    let free = none refl in
    absurd (elim paid [ inl full ↦ omega (arith, full, free, few, some) | inr saved ↦ omega (arith, saved.0, few) ])
some_evaluated (suc evaluations) cost evaluation units checks most none few paid some = omega (arith, most)

-- an evaluation costs few units
evaluation_few : CostFew → (world : World) (pair : Option Pair) → evaluation_cost world pair ≤ UNITS
evaluation_few few world None = omega arith
evaluation_few few world (Some pair) = few.evaluations world pair.makefile pair.flavors

-- what one row takes off what is left was spent, or its evaluation was kept
pays_row : (cost evaluation left all begun spent : ℕ) (begun_checks checks : ℕ) → evaluation ≤ UNITS → cost + left ≡ all
    → (begun + spent ≡ cost) ⊎ ((1 ≤ begun_checks + checks) × (begun + spent ≡ cost - evaluation))
    → all - begun ≤ ((left - 0) + spent) + (units_saved begun_checks + units_saved checks)
pays_row cost evaluation left all begun spent begun_checks checks few sum paid =
    elim paid [ inl full ↦ omega (arith, sum, full) | inr saved ↦ omega (arith, few, sum, saved.0, saved.1) ]

pays_by : CostFew → OneRowMoreLeavesLess → (world : World) (units : ℕ) (old new : RefreshView) (turned : Refreshed)
    → IsRefreshTurn world units old new turned
    → PaysAll world old new (spent_by turned)
pays_by few law world units old new (turned.Evaluated spent) takes =
    let renews = takes.renews.0 in
    let path = renews.path in
    let less = left_less law world old.rows new.rows (spent_in_all old.begun spent) renews (cost_at world) in
    subst (λ (begun : Spent). units_left world old ≤ ((cost_left world new.rows - begun.units) + spent.units) +
    (units_saved old.begun.checks + units_saved spent.checks)) (sym takes.renews.1)
    (pays_row (cost_at world path) (evaluation_cost world (pair_at world path)) (cost_left world new.rows) (cost_left world old.rows)
    old.begun.units spent.units old.begun.checks spent.checks
    (evaluation_few few world (pair_at world path)) less renews.spent.paid)
pays_by few law world units old new (turned.More spent) takes =
    let rows : new.rows ≡ old.rows = λ i path. takes.rows path i in
    goes_by (cost_left world old.rows) (cost_left world new.rows) old.begun.units spent.units new.begun.units old.begun.checks spent.checks
    (ap (cost_left world) rows) (ap (λ (s : Spent). s.units) takes.begun)
  where
    goes_by : (left after begun spent now begun_checks checks : ℕ) → after ≡ left → now ≡ begun + spent
        → left - begun ≤ ((after - now) + spent) + (units_saved begun_checks + units_saved checks)
    goes_by left after begun spent now begun_checks checks same is = omega (arith, same, is)
pays_by few law world units old new turned.Done takes =
    let none : cost_left world old.rows ≡ 0 = ap (λ paths. cost_over world paths) (lacking-none world old.rows takes.fresh) in
    nothing (cost_left world old.rows) old.begun.units _ none
  where
    nothing : (left begun other : ℕ) → left ≡ 0 → left - begun ≤ other
    nothing left begun other none = omega (arith, none)

fresh_put : (world : World) (path other : List ℕ) (old : ShownRows) (same there : Bool)
    → is_some (if there then fresh old other else Some Absent) ≡ true
    → is_some (if there then option_and_then fresh_outcome (if same then Some (fresh_row world path) else old other) else Some Absent) ≡
    true
fresh_put world path other old true true is = refl
fresh_put world path other old false true is = is
fresh_put world path other old same false is = refl

-- what is known of a path stays known
pub stays-fresh : (world : World) (units : ℕ) (old new : RefreshView) (turned : Refreshed) → IsRefreshTurn world units old new turned
    → StayFresh world old.rows new.rows
stays-fresh world units old new (turned.Evaluated spent) takes other needed is =
    let renews = takes.renews.0 in
    ap (λ row. is_some (if has_makefile world other then option_and_then fresh_outcome row else Some Absent)) (renews.rows other)
    ∙ fresh_put world renews.path other old.rows (bytes_eq renews.path other) (has_makefile world other) is
stays-fresh world units old new (turned.More spent) takes other needed is =
    ap (λ row. is_some (if has_makefile world other then option_and_then fresh_outcome row else Some Absent)) (takes.rows other) ∙ is
stays-fresh world units old new turned.Done takes other needed is = HaveFresh-current world new.rows takes.current other needed

pub RefreshingPays-all : OneRowMoreLeavesLess → MakefilesAreEvaluated → CostFew → RefreshingPays
RefreshingPays-all law evaluated few = record {
  pays = pays_by few law;
  renews = λ world old new spent renewed.
      let all : Spent = spent_in_all old.begun spent in
      let renews = renewed.0 in
      let cost_less = left_less law world old.rows new.rows all renews (cost_at world) in
      let count_less = left_less law world old.rows new.rows all renews (evaluations_at world) in
      let few = subst (λ n. ChecksFew n all.checks) (sym (evaluations-path evaluated world renews.path)) renews.spent.few in (
        paid_less all.units (cost_at world renews.path) _ all.checks _ _ renews.spent.paid cost_less,
        few_less all.checks (evaluations_at world renews.path) _ _ few count_less,
      );
  fewer = λ world old new spent renewed. left_less law world old.rows new.rows (spent_in_all old.begun spent) renewed.0 (λ path. 1);
  evaluated = λ world old new spent renewed some.
      let all : Spent = spent_in_all old.begun spent in
      let renews = renewed.0 in
      let path = renews.path in
      let less = left_less law world old.rows new.rows all renews (evaluations_at world) in
      let few = subst (λ n. ChecksFew n all.checks) (sym (evaluations-path evaluated world path)) renews.spent.few in
      let one = some_evaluated (evaluations_at world path) (cost_at world path) _ all.units all.checks
      (one_at_most (is_there (outcome_at world path)))
      (none-at world path) few renews.spent.paid some in
      omega (arith, less, one);
  ends = λ world rows current. lacking-none world rows (HaveFresh-current world rows current);
}
