-- The routes over all ports of a world: which packages they list, and which dependencies.
use Rattle.std.specs.Prelude.{ℕ, if◌then◌else◌, ◌||◌, List, [], Option, Some, None, Result, Ok, Err, option_map}
use Rattle.std.specs.Prelude.{codes}
use Rattle.std.specs.Str.{bytes_eq}
use Rattle.mk_base.specs.FaultAt.{FaultAt}
use Rattle.mk_paths.specs.World.{World}
use Rattle.pkg_path.specs.Paths.{PathValue, port_path}
use Rattle.port_rules.specs.Ports.{PortValue}
use Rattle.port_deps.specs.Roots.{RootValue, RootEdgeValue}
use Rattle.port_index.specs.Index.{roots, edges}
use Rattle.ports_query.specs.Conditions.{ConditionValue}
use Rattle.ports_query.specs.ListedPackages.{ListedValue, answer_of, admitted_of, root_named}
use Rattle.ports_query.specs.Kinds.{kinds_of}
use Rattle.ports_query.specs.Edges.{first_edges_of, edges_to_of}
use Rattle.ports_query.specs.Reach.{reached_of, reaching_of}
use Rattle.ports_query.specs.declared.kinds.Kinds.{Kinds}
use Rattle.serde_json.specs.Data.{Data}
use Rattle.ports_http.specs.Messages.{ReplyMessage}
use Rattle.plain_service.specs.declared.dependency_routes.Direction.{Direction}
use Rattle.plain_service.specs.declared.dependency_routes.Direction.TheVariants.{Dependencies, Dependents}
use Rattle.plain_service.specs.declared.dependency_routes.DependencyQuestion.{DependencyQuestion}
use Rattle.plain_service.specs.declared.depth.Depth.{Depth}
use Rattle.plain_service.specs.declared.depth.Depth.TheVariants.{Direct, All}
use Rattle.plain_service.specs.Parameters.{optional}
use Rattle.plain_service.specs.PathParameter.{path_in}
use Rattle.plain_service.specs.Subpackages.{has_named}
use Rattle.plain_service.specs.Replies.{json_reply, refusal, bad_parameter, no_port, no_subpackage, faulty}
use Rattle.plain_service.specs.ListBodies.{packages_body, dependencies_body, dependents_body, reached_body, reaching_body, faults_body}

-- refusals: the text is no query; it is no spec; it names no kinds of dependencies, or no depth
abbrev pub bad_query : ReplyMessage
bad_query = refusal 400 (codes "Query")

abbrev pub bad_spec : ReplyMessage
bad_spec = refusal 400 (codes "Spec")

abbrev pub bad_kind : ReplyMessage
bad_kind = refusal 400 (codes "Kind")

-- the reply that lists packages
abbrev pub packages_reply : List ListedValue → ReplyMessage
packages_reply packages = json_reply 200 (packages_body packages)

-- the packages that meet conditions
abbrev pub list_reply : World → List ConditionValue → ReplyMessage
list_reply world conditions = packages_reply (answer_of conditions (roots world))

-- the packages that a spec admits
abbrev pub match_reply : World → List ℕ → ReplyMessage
match_reply world spec = packages_reply (admitted_of spec (roots world))

-- the faults of all makefiles
abbrev pub faults_reply : World → ReplyMessage
faults_reply world = json_reply 200 (faults_body (roots world))

-- how far dependencies are followed: an empty text is `1`
abbrev pub depth_of : List ℕ → Option Depth
depth_of text =
    if bytes_eq text []
    || bytes_eq text (codes "1") then Some Direct else if bytes_eq text (codes "all") then Some All else None

-- the question about the dependencies of a path, or the refusal: the path is looked at first
abbrev pub question_on : Result PathValue ReplyMessage → Option Kinds → Option Depth → Result DependencyQuestion ReplyMessage
question_on (Err refused) kinds depth = Err refused
question_on (Ok path) (Some kinds) (Some depth) = Ok (record { path = path; kinds = kinds; depth = depth })
question_on (Ok path) (Some kinds) None = Err bad_kind
question_on (Ok path) None depth = Err bad_kind

-- the same of a path, given the texts that name kinds and a depth
abbrev pub question_about : PathValue → List ℕ → List ℕ → Result DependencyQuestion ReplyMessage
question_about path kind depth = question_on (Ok path) (kinds_of kind) (depth_of depth)

-- the same, given the texts of the parameters, if each is there once or not at all
abbrev pub question_of : Result PathValue ReplyMessage → Option (List ℕ) → Option (List ℕ) → Result DependencyQuestion ReplyMessage
question_of path (Some kind) (Some depth) = question_on path (kinds_of kind) (depth_of depth)
question_of path (Some kind) None = Err bad_parameter
question_of path None depth = Err bad_parameter

-- the question of a query: ?path=&kind=&depth=
abbrev pub question_of_query : List ℕ → Result DependencyQuestion ReplyMessage
question_of_query query = question_of (path_in query) (optional (codes "kind") query) (optional (codes "depth") query)

-- what a port depends on: its own dependencies, or all ports that are reached over those that are met
abbrev pub dependencies_at : List RootEdgeValue → PathValue → Kinds → Depth → Data
dependencies_at edges path kinds Direct = dependencies_body (first_edges_of kinds path edges)
dependencies_at edges path kinds All = reached_body (reached_of kinds (first_edges_of kinds path edges) edges)

-- what the port that a question names depends on, followed to this depth
abbrev pub dependencies_to_depth : List RootEdgeValue → DependencyQuestion → Depth → Data
dependencies_to_depth edges question depth = dependencies_at edges question.path question.kinds depth

abbrev pub dependencies_body_of : List RootEdgeValue → DependencyQuestion → Data
dependencies_body_of edges question = dependencies_at edges question.path question.kinds question.depth

-- the reply by the state of the root at the path, if there is one: it must be a port, and must have the
-- subpackage, if the path names one
abbrev pub dependencies_by : List RootEdgeValue → DependencyQuestion → Option (Result PortValue FaultAt) → ReplyMessage
dependencies_by edges question None = no_port
dependencies_by edges question (Some (Err fault)) = faulty fault
dependencies_by edges question (Some (Ok port)) =
    if has_named question.path.subpackage port
    then json_reply 200 (dependencies_body_of edges question) else no_subpackage

-- what the port that the question names depends on, by these roots
abbrev pub dependencies_in : List RootValue → List RootEdgeValue → DependencyQuestion → ReplyMessage
dependencies_in roots edges question =
    dependencies_by edges question (option_map (λ (root : RootValue). root.state) (root_named roots (port_path question.path)))

-- the same over a world
abbrev pub dependencies_over : World → DependencyQuestion → ReplyMessage
dependencies_over world question = dependencies_in (roots world) (edges world) question

-- what depends on a port: the dependencies that lead to it, of whatever status, or all ports that reach
-- it over those that are met
abbrev pub dependents_at : List RootEdgeValue → PathValue → Kinds → Depth → Data
dependents_at edges path kinds Direct = dependents_body (edges_to_of kinds path edges)
dependents_at edges path kinds All = reaching_body (reaching_of kinds path edges)

abbrev pub dependents_body_of : List RootEdgeValue → DependencyQuestion → Data
dependents_body_of edges question = dependents_at edges question.path question.kinds question.depth

-- the same over a world
abbrev pub dependents_over : World → DependencyQuestion → Data
dependents_over world question = dependents_body_of (edges world) question

-- the reply to a question about dependencies, or about dependents
abbrev pub reply_to : List RootValue → List RootEdgeValue → Direction → DependencyQuestion → ReplyMessage
reply_to roots edges Dependencies question = dependencies_in roots edges question
reply_to roots edges Dependents question = json_reply 200 (dependents_body_of edges question)

-- the same over a world
abbrev pub dependency_reply : World → Direction → DependencyQuestion → ReplyMessage
dependency_reply world direction question = reply_to (roots world) (edges world) direction question
