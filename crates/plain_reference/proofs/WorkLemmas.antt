-- The work for paths, those of one list after those of another.
use Rattle.std.proofs.Common.{◌≡◌, ◌∙◌, sym, ap, ap₂, refl, ℕ, ◌+◌, ◌-◌, ◌^◌, min, Bool, true, false, if◌then◌else◌, List, [], ◌∷◌, ◌++◌}
use Rattle.std.proofs.Common.{Option, Some, None, is_some, is_none, option_map, arith}
use Rattle.std.specs.List.{sum_by, filter}
use Rattle.text_parts.specs.Order.{in_order}
use Rattle.mk_paths.specs.World.{World}
use Rattle.turn_amounts.specs.Spent.{counted}
use Rattle.port_index.specs.PathOutcomes.{PathOutcome, Absent, Faulty, Port, BadPort, Lists, BadList, FlavoredList, Other, Finding}
use Rattle.port_index.specs.PathOutcomes.{finding_at, outcome_at, cost_at}
use Rattle.port_index.specs.Efforts.{evaluations_at, evaluations_for, lacking}
use Rattle.port_index.specs.FilledRows.{is_one_of, Fills}
use Rattle.port_index.proofs.Filled.{Entries}
use Rattle.port_index.proofs.EffortLemmas.{sum-on, lacking-same, in_order-same}
use Rattle.plain_reference.specs.Work.{effort_of, both, effort_over}
use Rattle.plain_reference.specs.declared.effort.Effort.{Effort}
use Rattle.plain_reference.proofs.Filled.{one_of-absorbed}

two_counts : (most a b : ℕ) → min (min a most + min b most) most ≡ min (a + b) most
two_counts most a b = omega arith

counted-both : (a b : ℕ) → counted (counted a + counted b) ≡ counted (a + b)
counted-both a b = two_counts (2 ^ 64 - 1) a b

-- the work for some paths, and then that for more
pub Effort-on : (world : World) (paths more : List (List ℕ)) (old new : Entries) → Fills world paths old new
    → both (effort_over world (lacking old paths)) (effort_over world (lacking new more)) ≡ effort_over world (lacking old (paths ++ more))
Effort-on world paths more old new fills =
    ap₂ (λ evaluations units. let effort : Effort = record { evaluations = evaluations; units = units } in effort)
    (counted-both (sum_by (evaluations_at world) (lacking old paths)) (sum_by (evaluations_at world) (lacking new more))
    ∙ ap counted (sum-on world (evaluations_at world) paths more old new fills))
    (counted-both (sum_by (cost_at world) (lacking old paths)) (sum_by (cost_at world) (lacking new more))
    ∙ ap counted (sum-on world (cost_at world) paths more old new fills))

counted-few : (outcome : PathOutcome) → evaluations_for outcome ≡ counted (evaluations_for outcome)
counted-few Absent = refl
counted-few (Faulty fault) = refl
counted-few (Port port) = refl
counted-few (BadPort fault) = refl
counted-few (Lists words) = refl
counted-few (BadList fault) = refl
counted-few FlavoredList = refl
counted-few Other = refl

one_sum : (f : List ℕ → ℕ) (path : List ℕ) → sum_by f (path ∷ []) ≡ f path
one_sum f path = omega arith

one_of_two : (entries : Entries) (path : List ℕ) (none : Bool) → is_none (entries path) ≡ none
    → lacking entries (path ∷ []) ≡ (if none then path ∷ [] else [])
one_of_two entries path none is = ap (λ (b : Bool). if b then path ∷ [] else []) is

-- a row that isn't there
pub is_none-seen : {X : Type 0} (seen : X → PathOutcome) (found : Option X) (row : Option PathOutcome) → option_map seen found ≡ row
    → is_some found ≡ false → is_some row ≡ false
is_none-seen seen None row e none = ap is_some (sym e)
is_none-seen seen (Some x) row e none = absurd cc

-- a path that has none takes the work for it
pub Effort-one : (world : World) (entries : Entries) (path : List ℕ) (found : Finding) → is_some (entries path) ≡ false
    → found ≡ finding_at world path
    → effort_of found ≡ effort_over world (lacking entries (path ∷ []))
Effort-one world entries path found none is =
    ap effort_of is
    ∙ ap₂ (λ evaluations units. let effort : Effort = record { evaluations = evaluations; units = units } in effort)
    (counted-few (outcome_at world path) ∙ ap counted (sym (one_sum (evaluations_at world) path)))
    (ap counted (sym (one_sum (cost_at world) path)))
    ∙ sym (ap (effort_over world) (one_of_two entries path true (by (entries path) none)))
  where
    by : (row : Option PathOutcome) → is_some row ≡ false → is_none row ≡ true
    by None is = refl
    by (Some row) is = absurd cc

all_lacking : (entries : Entries) → ((path : List ℕ) → entries path ≡ None) → (paths : List (List ℕ))
    → filter (λ path. is_none (entries path)) paths ≡ paths
all_lacking entries none [] = refl
all_lacking entries none (path ∷ paths) =
    ap (λ row. if is_none row then path ∷ filter (λ other. is_none (entries other)) paths else filter
    (λ other. is_none (entries other)) paths) (none path)
    ∙ ap (λ rest. path ∷ rest) (all_lacking entries none paths)

-- without rows, each path lacks its row
pub lacking-all : (entries : Entries) → ((path : List ℕ) → entries path ≡ None) → (paths : List (List ℕ))
    → lacking entries paths ≡ in_order paths
lacking-all entries none paths = all_lacking entries none (in_order paths)

-- paths, and then a list that has them
pub lacking-absorbed : (entries : Entries) (paths all : List (List ℕ))
    → ((path : List ℕ) → is_one_of path paths ≡ true → is_one_of path all ≡ true)
    → lacking entries (paths ++ all) ≡ lacking entries all
lacking-absorbed entries paths all within =
    lacking-same entries (paths ++ all) all (in_order-same (paths ++ all) all (λ path. one_of-absorbed path paths all (within path)))
