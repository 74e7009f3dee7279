-- Paths that are picked from others, each once, cost no more than these.
use Rattle.std.proofs.Common.{ℕ, ◌+◌, ◌*◌, ◌^◌, ◌-◌, min, ◌≤◌, ◌<◌, ◌≡◌, ◌∙◌, refl, sym, ap, subst, length, Bool, true, false}
use Rattle.std.proofs.Common.{if◌then◌else◌, List, [], ◌∷◌, Result, Ok, Err, IfOk, OnErr, Some, is_some, option_and_then, arith}
use Rattle.std.proofs.lemmas.List.Sums.{sum_by-cons}
use Rattle.std.specs.BTreeSet.{insert_key}
use Rattle.std.specs.Cmp.Lexicographic.{slice_cmp}
use Rattle.std.specs.Prelude.{is_none}
use Rattle.std.specs.List.{sum_by, filter}
use Rattle.std.specs.Ordering.{nat_cmp, match_ordering}
use Rattle.std.specs.declared.cmp.Ordering.{Ordering}
use Rattle.std.specs.declared.cmp.Ordering.TheVariants.{Less, Equal, Greater}
use Rattle.text_parts.specs.Order.{in_order}
use Rattle.turn_amounts.specs.declared.TheConstants.{MOST_CHECKS, TURN_UNITS}
use Rattle.mk_paths.specs.World.{World}
use Rattle.port_index.specs.Efforts.{cost_over, decided, evaluations_at, evaluations_over, has_makefile}
use Rattle.port_index.specs.Index.{needed_paths}
use Rattle.port_index.specs.PathLaws.{MakefilesAreEvaluated}
use Rattle.port_index.specs.PathOutcomes.{Absent, cost_at}
use Rattle.port_index.specs.Pairs.{pairs_at}
use Rattle.turn_amounts.specs.Spent.{no_spending, spent_together, spent_in_all}
use Rattle.port_index.specs.Spent.{ChecksFew}
use Rattle.turn_amounts.specs.declared.spent.Spent.{Spent}
use Rattle.plain_service.specs.declared.index_questions.IndexQuestion.{IndexQuestion}
use Rattle.plain_service.specs.declared.questions.Question.TheVariants.{OfIndex}
use Rattle.index_store.specs.Entries.{Entries}
use Rattle.mk_paths.specs.declared.files.FilesFault.{FilesFault}
use Rattle.index_keep.specs.Keeper.{TurnsKeeper, refresh_of, keeper_rows}
use Rattle.index_keep.specs.Shown.{ShownRows, fresh, fresh_outcome}
use Rattle.index_keep.specs.declared.keeper.Keeper.{Keeper}
use Rattle.index_keep.proofs.LeftLemmas.{stays-fresh}
use Rattle.index_keep.specs.Turns.{DropsTurn, RefreshView, refresh_at, spent_by, cost_left, count_left, evaluations_left, paths_left}
use Rattle.index_keep.specs.Turns.{units_left, units_saved, IsWithinLeft, ContinuesRefresh, RenewsOne, EndsRefresh, PaysAll, StayFresh}
use Rattle.index_keep.specs.Turns.{IsRefreshTurn, RefreshingPays}
use Rattle.index_keep.specs.declared.keeper.Refreshed.{Refreshed}
use Rattle.mk_paths.specs.FilesView.{FilesView}
use Rattle.mk_paths.specs.declared.files.Names as names
use Rattle.index_store.specs.declared.path_rows.PathRows as rows
use Rattle.eval_cache.proofs.UseLemmas.{UsesCache-on}
use Rattle.question_turns.specs.Ports.{LeavesPorts, world_of_ports}
use Rattle.question_turns.specs.declared.kept_ports.KeptPorts.{KeptPorts}
use Rattle.plain_service.specs.Spent.{StaysWithin}
use Rattle.question_turns.specs.UnderWay.{IsSpentOnIndex, RefreshesInTime}

abbrev by_bytes : List ℕ → List ℕ → Ordering
by_bytes = slice_cmp nat_cmp

module _ (weight : List ℕ → ℕ) where
  inserted_by : (k x : List ℕ) (texts : List (List ℕ)) (o : Ordering)
      → sum_by weight (insert_key by_bytes texts k) ≤ weight k + sum_by weight texts
      → sum_by weight (match_ordering o (k ∷ x ∷ texts) (x ∷ texts) (x ∷ insert_key by_bytes texts k)) ≤ weight k +
      sum_by weight (x ∷ texts)
  inserted_by k x texts Less rest = omega (arith, sum_by-cons weight k (x ∷ texts))
  inserted_by k x texts Equal rest = omega arith
  inserted_by k x texts Greater rest = omega (arith, sum_by-cons weight x (insert_key by_bytes texts k), sum_by-cons weight x texts, rest)

  inserted : (k : List ℕ) (texts : List (List ℕ)) → sum_by weight (insert_key by_bytes texts k) ≤ weight k + sum_by weight texts
  inserted k [] = omega (arith, sum_by-cons weight k [])
  inserted k (x ∷ texts) = inserted_by k x texts (by_bytes k x) (inserted k texts)

  ordered : (texts : List (List ℕ)) → sum_by weight (in_order texts) ≤ sum_by weight texts
  ordered [] = omega arith
  ordered (text ∷ texts) = omega (arith, ordered texts, inserted text (in_order texts), sum_by-cons weight text texts)

  picked_by : (test : List ℕ → Bool) (text : List ℕ) (texts : List (List ℕ)) (is : Bool)
      → sum_by weight (filter test texts) ≤ sum_by weight texts
      → sum_by weight (if is then text ∷ filter test texts else filter test texts) ≤ sum_by weight (text ∷ texts)
  picked_by test text texts true rest = omega (arith, rest, sum_by-cons weight text (filter test texts), sum_by-cons weight text texts)
  picked_by test text texts false rest = omega (arith, rest, sum_by-cons weight text texts)

  picked : (test : List ℕ → Bool) (texts : List (List ℕ)) → sum_by weight (filter test texts) ≤ sum_by weight texts
  picked test [] = omega arith
  picked test (text ∷ texts) = picked_by test text texts (test text) (picked test texts)

pub left_costs_no_more : (world : World) (rows : ShownRows) → cost_left world rows ≤ cost_over world (needed_paths world)
left_costs_no_more world rows =
    let paths = needed_paths world in
    let few = picked (cost_at world) (λ path. is_none (decided world (fresh rows) path)) (in_order paths) in
    omega (arith, few, ordered (cost_at world) paths)

pub left_takes_no_more : (world : World) (rows : ShownRows) → evaluations_left world rows ≤ evaluations_over world (needed_paths world)
left_takes_no_more world rows =
    let paths = needed_paths world in
    let few = picked (evaluations_at world) (λ path. is_none (decided world (fresh rows) path)) (in_order paths) in
    omega (arith, few, ordered (evaluations_at world) paths)

few_left : (left all : ℕ) → left ≤ all → 0 + MOST_CHECKS * left ≤ MOST_CHECKS * all + 0
few_left left all less = omega (arith, less)

-- nothing is begun
within_nothing : (world : World) (refresh : RefreshView) → refresh.begun ≡ no_spending → IsWithinLeft world refresh
within_nothing world refresh nothing =
    let none : IsWithinLeft world (refresh_at refresh.rows no_spending) = record { units = omega arith; checks = omega arith } in
    subst (λ begun. IsWithinLeft world (refresh_at refresh.rows begun)) (sym nothing) none

-- nothing was spent, and nothing is begun
pub begins : (world : World) (refresh : RefreshView) → refresh.begun ≡ no_spending → IsSpentOnIndex world refresh no_spending
begins world refresh nothing =
    let units = left_costs_no_more world refresh.rows in
    let none : IsSpentOnIndex world (refresh_at refresh.rows no_spending) no_spending = record {
      units = omega (arith, units);
      checks = few_left (evaluations_left world refresh.rows) (evaluations_over world (needed_paths world))
          (left_takes_no_more world refresh.rows);
      begun = within_nothing world (refresh_at refresh.rows no_spending) refl;
    } in
    subst (λ begun. IsSpentOnIndex world (refresh_at refresh.rows begun) no_spending) (sym nothing) none

-- more is spent on a path, and that is begun then
more_begun : (before after left all begun more : ℕ) → before + left ≤ all + begun → after ≤ before + more
    → after + left ≤ all + (begun + more)
more_begun before after left all begun more is few = omega (arith, is, few)

-- a path is done that had been begun
one_done : (before after left left_after all begun more : ℕ) → before + left ≤ all + begun → after ≤ before + more
    → (begun + more) + left_after ≤ left
    → after + left_after ≤ all + 0
one_done before after left left_after all begun more is few pays = omega (arith, is, few, pays)

sum_few : (most before more : ℕ) → min (before + more) most ≤ before + more
sum_few most before more = omega arith

-- a turn goes on with a path
pub goes_on : (world : World) (units : ℕ) (old new : RefreshView) (before spent : Spent) → ContinuesRefresh world units old new spent
    → IsSpentOnIndex world old before
    → IsSpentOnIndex world new (spent_together before spent)
goes_on world units old new before spent goes is =
    let rows : old.rows ≡ new.rows = λ i path. sym (goes.rows path) i in
    let so_far : IsSpentOnIndex world (refresh_at old.rows (spent_in_all old.begun spent)) (spent_together before spent) = record {
      units = more_begun before.units _ (cost_left world old.rows) (cost_over world (needed_paths world)) old.begun.units spent.units
          is.units (sum_few (2 ^ 64 - 1) before.units spent.units);
      checks = more_begun before.checks _ (MOST_CHECKS * evaluations_left world old.rows)
          (MOST_CHECKS * evaluations_over world (needed_paths world)) old.begun.checks spent.checks is.checks
          (sum_few (2 ^ 64 - 1) before.checks spent.checks);
      begun = subst (λ rows. IsWithinLeft world (refresh_at rows (spent_in_all old.begun spent))) (sym rows)
          (subst (λ begun. IsWithinLeft world (refresh_at new.rows begun)) goes.begun goes.within);
    } in
    subst (λ rows. IsSpentOnIndex world (refresh_at rows new.begun) (spent_together before spent)) rows
    (subst (λ begun. IsSpentOnIndex world (refresh_at old.rows begun) (spent_together before spent)) (sym goes.begun) so_far)

-- a turn renews a row; so much was spent in all then, or less
renews_by : RefreshingPays → (world : World) (old new : RefreshView) (before spent after : Spent) → RenewsOne world old new spent
    → IsSpentOnIndex world old before
    → after.units ≤ before.units + spent.units → after.checks ≤ before.checks + spent.checks → IsSpentOnIndex world new after
renews_by law world old new before spent after renews is units checks =
    let pays = law.renews world old new spent renews in
    let so_far : IsSpentOnIndex world (refresh_at new.rows no_spending) after = record {
      units = one_done before.units after.units (cost_left world old.rows) (cost_left world new.rows) (cost_over world (needed_paths world))
          old.begun.units spent.units is.units units pays.0;
      checks = one_done before.checks after.checks (MOST_CHECKS * evaluations_left world old.rows)
          (MOST_CHECKS * evaluations_left world new.rows) (MOST_CHECKS * evaluations_over world (needed_paths world))
          old.begun.checks spent.checks is.checks checks pays.1;
      begun = within_nothing world (refresh_at new.rows no_spending) refl;
    } in
    subst (λ begun. IsSpentOnIndex world (refresh_at new.rows begun) after) (sym renews.1) so_far

pub renews : RefreshingPays → (world : World) (old new : RefreshView) (before spent : Spent) → RenewsOne world old new spent
    → IsSpentOnIndex world old before
    → IsSpentOnIndex world new (spent_together before spent)
renews law world old new before spent renewed is =
    renews_by law world old new before spent (spent_together before spent) renewed is (sum_few (2 ^ 64 - 1) before.units spent.units)
    (sum_few (2 ^ 64 - 1) before.checks spent.checks)

-- a row is renewed on which nothing was spent
pub renews_freely : RefreshingPays → (world : World) (old new : RefreshView) (before spent : Spent) → spent ≡ no_spending
    → RenewsOne world old new spent → IsSpentOnIndex world old before
    → IsSpentOnIndex world new before
renews_freely law world old new before spent free renewed is =
    renews_by law world old new before spent before renewed is (omega arith) (omega arith)

nothing_left : (before left all begun : ℕ) → before + left ≤ all + begun → begun ≡ 0 → before + 0 ≤ all + 0
nothing_left before left all begun is none = omega (arith, is, none)

-- the refresh ends
pub ends : RefreshingPays → (world : World) (old new : RefreshView) (before : Spent) → EndsRefresh world old new
    → IsSpentOnIndex world old before
    → IsSpentOnIndex world new before × (new.begun ≡ no_spending) × (paths_left world new.rows ≡ [])
ends law world old new before ended is =
    let none : paths_left world new.rows ≡ [] = law.ends world new.rows ended.current in
    let so_far : IsSpentOnIndex world (refresh_at new.rows no_spending) before = record {
      units = subst (λ paths. before.units + cost_over world paths ≤ cost_over world (needed_paths world) + 0) (sym none)
          (nothing_left before.units (cost_left world old.rows) (cost_over world (needed_paths world)) old.begun.units is.units
          (ap (λ (s : Spent). s.units) ended.nothing_begun));
      checks = subst (λ paths. before.checks + MOST_CHECKS * evaluations_over world paths ≤ MOST_CHECKS * evaluations_over world
          (needed_paths world) + 0) (sym none)
          (nothing_left before.checks (MOST_CHECKS * evaluations_left world old.rows)
          (MOST_CHECKS * evaluations_over world (needed_paths world)) old.begun.checks is.checks
          (ap (λ (s : Spent). s.checks) ended.nothing_begun));
      begun = within_nothing world (refresh_at new.rows no_spending) refl;
    } in
    (subst (λ begun. IsSpentOnIndex world (refresh_at new.rows begun) before) (sym ended.nothing_left) so_far, ended.nothing_left, none)

at_most_all : (before left all begun : ℕ) → before + left ≤ all + begun → begun ≤ left → before ≤ all
at_most_all before left all begun is within = omega (arith, is, within)

few_for_pairs : (checks all pairs : ℕ) → checks ≤ MOST_CHECKS * all → all ≡ pairs → checks ≤ MOST_CHECKS * pairs
few_for_pairs checks all pairs few same = omega (arith, few, same)

-- what is spent on the index so far stays within what it takes
index_stays : MakefilesAreEvaluated → (world : World) (refresh : RefreshView) (spent : Spent) → IsSpentOnIndex world refresh spent
    → (spent.units ≤ cost_over world (needed_paths world)) × ChecksFew (length (pairs_at world (needed_paths world))) spent.checks
index_stays law world refresh spent is = (
  at_most_all spent.units (cost_left world refresh.rows) (cost_over world (needed_paths world)) refresh.begun.units is.units is.begun.units,
  few_for_pairs spent.checks (evaluations_over world (needed_paths world)) (length (pairs_at world (needed_paths world)))
      (at_most_all spent.checks (MOST_CHECKS * evaluations_left world refresh.rows)
      (MOST_CHECKS * evaluations_over world (needed_paths world)) refresh.begun.checks is.checks is.begun.checks)
      (law world (needed_paths world)),
)

pub stays : MakefilesAreEvaluated → (world : World) (refresh : RefreshView) (question : IndexQuestion) (spent : Spent)
    → IsSpentOnIndex world refresh spent
    → StaysWithin world (OfIndex question) spent
stays law world refresh question spent is =
    let both = index_stays law world refresh spent is in
    record { units = both.0; checks = both.1 }

-- a turn of a refresh in a world that is the first one, which came to this
pub turn_in : (first now : World) (units : ℕ) (old new : RefreshView) (turned one : Refreshed) → now ≡ first → turned ≡ one
    → IsRefreshTurn now units old new turned
    → IsRefreshTurn first units old new one
turn_in first now units old new turned one same is takes =
    subst (IsRefreshTurn first units old new) is (subst (λ (world : World). IsRefreshTurn world units old new turned) same takes)

-- rows that are fresh stay fresh in one turn after another
pub fresh-on : (first now : World) (one next last : ShownRows) → now ≡ first → StayFresh first one next → StayFresh now next last
    → StayFresh first one last
fresh-on first now one next last same more further path needed is =
    subst (λ (world : World). StayFresh world next last) same further path needed (more path needed is)

-- one thing after another is done to ports
module _ {F R : Type 0} {files : names.Ghosts F} {entries : rows.Ghosts R} (view : F → FilesView) (stored : R → Entries) where
  pub leaves-on : (one next last : KeptPorts F R files entries) → LeavesPorts view stored one next → LeavesPorts view stored next last
      → LeavesPorts view stored one last
  leaves-on one next last first more = record {
    world = more.world ∙ first.world;
    fresh = fresh-on (world_of_ports view one) (world_of_ports view next) (keeper_rows stored one.keeper.now)
        (keeper_rows stored next.keeper.now) (keeper_rows stored last.keeper.now) first.world first.fresh more.fresh;
    keeper = more.keeper ∙ first.keeper;
    cache = more.cache ∙ first.cache;
    uses = UsesCache-on one.cache.now next.cache.now last.cache.now first.uses more.uses;
  }

-- and in one turn
pub fresh-once : {R : Type 0} (entries : R → Entries) (world : World) (units : ℕ) (old : RefreshView) (new : Keeper R)
    (result : Result Refreshed FilesFault)
    → IfOk result (TurnsKeeper entries world units old new) → OnErr result (DropsTurn old (refresh_of entries new))
    → StayFresh world old.rows (keeper_rows entries new)
fresh-once entries world units old new (Ok turned) turn drops = stays-fresh world units old (refresh_of entries new) turned turn.turn
fresh-once entries world units old new (Err fault) turn drops = λ path needed is.
    ap (λ row. is_some (if has_makefile world path then option_and_then fresh_outcome row else Some Absent)) (drops.rows path) ∙ is

-- ---- what is taken off the units that are left

-- Turns that spent nothing: all that they took off was spent before, or saved on what was under way.
abbrev pub PaidSoFar : World → RefreshView → RefreshView → Type 0
PaidSoFar world old now =
    units_left world old + units_saved now.begun.checks ≤ units_left world now + units_saved old.begun.checks

pub paid-nothing : (world : World) (old : RefreshView) → PaidSoFar world old old
paid-nothing world old = omega arith

paid_more : (left middle after spent begun now checks : ℕ) → left + now ≤ middle + begun → middle ≤ (after + spent) + (now + checks)
    → left ≤ (after + spent) + (begun + checks)
paid_more left middle after spent begun now checks so_far more = omega (arith, so_far, more)

-- one more turn
pub pays-on : (world : World) (old middle new : RefreshView) (spent : Spent) → PaidSoFar world old middle → PaysAll world middle new spent
    → PaysAll world old new spent
pays-on world old middle new spent so_far more =
    paid_more (units_left world old) (units_left world middle) (units_left world new) spent.units (units_saved old.begun.checks)
    (units_saved middle.begun.checks) (units_saved spent.checks) so_far more

paid_freely : (left middle after spent begun now last checks : ℕ) → left + now ≤ middle + begun → middle ≤ (after + spent) + (now + checks)
    → spent ≡ 0 → checks ≡ 0 → last ≡ 0 → left + last ≤ after + begun
paid_freely left middle after spent begun now last checks so_far more none unchecked nothing =
    omega (arith, so_far, more, none, unchecked, nothing)

-- one more turn, which spent nothing and made a row
pub paid-on : (world : World) (old middle new : RefreshView) (spent : Spent) → PaidSoFar world old middle → PaysAll world middle new spent
    → spent ≡ no_spending → new.begun ≡ no_spending
    → PaidSoFar world old new
paid-on world old middle new spent so_far more none nothing =
    paid_freely (units_left world old) (units_left world middle) (units_left world new) spent.units (units_saved old.begun.checks)
    (units_saved middle.begun.checks) (units_saved new.begun.checks)
    (units_saved spent.checks) so_far more (ap (λ (s : Spent). s.units) none) (ap (λ (s : Spent). units_saved s.checks) none)
    (ap (λ (s : Spent). units_saved s.checks) nothing)

-- what a turn told whose last part this was
pub in-time : RefreshingPays → (world : World) (old middle new : RefreshView) (before : Spent) (turned : Refreshed)
    → PaidSoFar world old middle → IsRefreshTurn world TURN_UNITS middle new turned
    → RefreshesInTime world old new before (spent_together before (spent_by turned))
in-time law world old middle new before turned so_far takes = record {
  from = middle;
  turned = turned;
  last = takes;
  told = refl;
  pays = pays-on world old middle new (spent_by turned) so_far (law.pays world TURN_UNITS middle new turned takes);
}

one_fewer : (after before : ℕ) → 1 + after ≡ before → after < before
one_fewer after before is = omega (arith, is)

-- a path fewer is left
pub fewer : RefreshingPays → (world : World) (old new : RefreshView) (spent : Spent) → RenewsOne world old new spent
    → count_left world new.rows < count_left world old.rows
fewer law world old new spent renewed = one_fewer (count_left world new.rows) (count_left world old.rows)
    (law.fewer world old new spent renewed)
