-- Which ports are reached over dependencies that are met. A way is a list of one or more of
-- these, each of which begins where the one before it ended (`reached_list` and `reaching_list`
-- of the arrows between texts).
use Rattle.std.specs.Prelude.{◌≡◌, ℕ, ◌&&◌, ◌++◌, if◌then◌else◌, Bool, true, false, List, map, Option, None, option_map}
use Rattle.std.specs.Prelude.{option_to_list, Result, IfOk, OnOk, String, string_bytes, Vec}
use Rattle.std.specs.Global.{Global}
use Rattle.std.specs.List.{filter_map}
use Rattle.pkg_path.specs.Paths.{PathValue, port_path}
use Rattle.port_deps.specs.Roots.{RootEdgeValue}
use Rattle.port_deps.specs.declared.statuses.Status.{Status}
use Rattle.port_deps.specs.declared.statuses.Status.TheVariants as statuses
use Rattle.text_graph.specs.Arrows.{ArrowValue}
use Rattle.text_graph.specs.Listed.{reached_list, reaching_list}
use Rattle.ports_query.specs.Kinds.{has_kind}
use Rattle.ports_query.specs.Edges.{first_edges_of}
use Rattle.ports_query.specs.Paths.{path_seen}
use Rattle.ports_query.specs.declared.kinds.Kinds.{Kinds}
use Rattle.ports_query.specs.declared.reach.Step.{Step}

-- a dependency with this status is met
abbrev pub is_met : Status → Bool
is_met statuses.BadItem = false
is_met statuses.NoPort = false
is_met statuses.BadFlavor = false
is_met statuses.Unevaluated = false
is_met statuses.NoSubpackage = false
is_met statuses.SpecMismatch = false
is_met statuses.Ok = true

-- a dependency of these kinds that is met leads from its port to the port that it names
abbrev pub arrow_of : Kinds → RootEdgeValue → Option ArrowValue
arrow_of kinds edge =
    if has_kind kinds edge.edge.kind
    && is_met edge.edge.status
    then option_map (λ (target : PathValue). record { from = edge.root; to = port_path target }) edge.edge.target
    else None

abbrev pub arrows_of : Kinds → List RootEdgeValue → List ArrowValue
arrows_of kinds edges = filter_map (arrow_of kinds) edges

-- the ports that are reached over one or more dependencies of these kinds that are met, the first of them
-- one of `first`; in the order of their paths
abbrev pub reached_of : Kinds → List RootEdgeValue → List RootEdgeValue → List (List ℕ)
reached_of kinds first edges = reached_list (arrows_of kinds first) (arrows_of kinds edges)

-- the same if the first of them is one that a path has
abbrev pub reached_from : Kinds → PathValue → List RootEdgeValue → List (List ℕ)
reached_from kinds path edges = reached_of kinds (first_edges_of kinds path edges) edges

-- the ports that reach the port that a path names in this way; in the order of their paths
abbrev pub reaching_of : Kinds → PathValue → List RootEdgeValue → List (List ℕ)
reaching_of kinds path edges = reaching_list (arrows_of kinds edges) (port_path path)

-- a step of the code
abbrev pub step_seen : Step → ArrowValue
step_seen step = record { from = step.from.now; to = path_seen step.to }

-- where a function succeeds, it gives the paths of these ports
abbrev pub GivesPorts : {F : Type 0} → Result (Vec (String Global) Global) F → List (List ℕ) → Type 0
GivesPorts result ports = IfOk result (λ paths. map string_bytes paths.items ≡ ports)

-- where a function succeeds, it gives the step that this arrow is, or none if there is none
abbrev pub GivesStep : {F : Type 0} → Result (Option Step) F → Option ArrowValue → Type 0
GivesStep result arrow = IfOk result (λ step. option_map step_seen step ≡ arrow)

-- where a function succeeds, it gives the steps that these arrows are
abbrev pub GivesSteps : {F : Type 0} → Result (Vec Step Global) F → List ArrowValue → Type 0
GivesSteps result arrows = IfOk result (λ steps. map step_seen steps.items ≡ arrows)

-- where a function succeeds, it added a step at the end, if there is one
abbrev pub AddsStep : {R F : Type 0} → Result R F → Vec Step Global → Vec Step Global → Option Step → Type 0
AddsStep result before after step =
    OnOk result (map step_seen after.items ≡ map step_seen before.items ++ option_to_list (option_map step_seen step))
