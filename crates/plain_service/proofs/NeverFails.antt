-- The plain service answers no failure of its own.
use Rattle.std.proofs.Common.{◌≡◌, ℕ, ◌==◌, true, false, List, Option, Some, None, option_map, refl}
use Rattle.std.specs.Prelude.{Result, Ok, Err, codes, if◌then◌else◌, is_some}
use Rattle.std.specs.Str.{is_utf8}
use Rattle.std.specs.FinMap.{get}
use Rattle.mk_paths.specs.World.{World, files_in}
use Rattle.mk_paths.specs.SearchPath.{search_path}
use Rattle.mk_paths.specs.Place.{place}
use Rattle.mk_paths.specs.declared.file_name.NameFault.{NameFault}
use Rattle.mk_eval.specs.Meaning.{means}
use Rattle.mk_eval.specs.Expanded.{Expanded}
use Rattle.mk_eval.specs.declared.outcome.Failed.{Failed}
use Rattle.mk_paths.specs.FileName.{resolved}
use Rattle.ports_http.specs.declared.method.Method.{Method}
use Rattle.ports_http.specs.declared.method.Method.TheVariants.{Get, Put, Delete}
use Rattle.plain_service.specs.declared.routes.Route.{Route}
use Rattle.plain_service.specs.declared.routes.Route.TheVariants.{Deps, Faults, File, List as AllPackages, Match, Path, Port}
use Rattle.plain_service.specs.declared.routes.Route.TheVariants.{Profile as Language, Rdeps, Var}
use Rattle.pkg_path.specs.Paths.{PathValue, path_of, port_path}
use Rattle.pkg_path.specs.declared.faults.PkgPathFault.{PkgPathFault}
use Rattle.port_rules.specs.declared.records.Recorded.{Recorded}
use Rattle.plain_service.specs.Routes.{route_of}
use Rattle.plain_service.specs.Target.{path_of_target as target_path, query_of as query_of_target}
use Rattle.plain_service.specs.Parameters.{parameter, optional}
use Rattle.plain_service.specs.Subpackages.{has_named}
use Rattle.plain_service.specs.IndexRoutes.{bad_spec, depth_of, dependencies_body_of, dependencies_by, reply_to, question_on}
use Rattle.plain_service.specs.IndexRoutes.{question_of as dependency_asked, question_of_query}
use Rattle.plain_service.specs.PathParameter.{path_or_refusal, path_of_parameter, path_in}
use Rattle.plain_service.specs.declared.dependency_routes.Direction.{Direction}
use Rattle.plain_service.specs.declared.dependency_routes.Direction.TheVariants.{Dependencies, Dependents}
use Rattle.plain_service.specs.declared.dependency_routes.DependencyQuestion.{DependencyQuestion}
use Rattle.plain_service.specs.declared.depth.Depth.{Depth}
use Rattle.ports_query.specs.Conditions.{ConditionValue, query_conditions}
use Rattle.ports_query.specs.Kinds.{kinds_of}
use Rattle.ports_query.specs.ListedPackages.{root_named}
use Rattle.ports_query.specs.declared.kinds.Kinds.{Kinds}
use Rattle.port_index.specs.Index.{roots, edges}
use Rattle.port_deps.specs.Roots.{RootValue, RootEdgeValue}
use Rattle.port_rules.specs.Ports.{PortValue}
use Rattle.pkg_spec.specs.Alternatives.{spec_of}
use Rattle.mk_base.specs.FaultAt.{FaultAt}
use Rattle.mk_text.specs.declared.profile.Profile.{Profile}
use Rattle.std.specs.Result.{is_ok}
use Rattle.ports_http.specs.Messages.{ReplyMessage}
use Rattle.plain_service.specs.Spaces.{trimmed}
use Rattle.plain_service.specs.Replies.{bad_parameter, bad_path, storage_full, json_reply, no_file, no_subpackage, removed, port_shown}
use Rattle.plain_service.specs.Requests.{PlainRequest, reply_alone}
use Rattle.plain_service.specs.SettingAnswers.{set_trees, set_path, profile_named, set_language}
use Rattle.plain_service.specs.PortReplies.{value_after, value_reply, variable_at, variable_of, record_after, port_reply, port_at}
use Rattle.plain_service.specs.PortReplies.{port_at_path}
use Rattle.plain_service.specs.Questions.{refused_question, question_or_refusal, with_parameter, named_file_question, resolved_question}
use Rattle.plain_service.specs.Questions.{conditions_question, spec_question, get_question, query_question, path_question, profile_question}
use Rattle.plain_service.specs.Questions.{question_on_route, question_of}
use Rattle.plain_service.specs.Answers.{content_shown, file_asked, file_answer, port_reply_to, index_reply, answer_to}
use Rattle.plain_service.specs.Plain.{plain}
use Rattle.plain_service.specs.declared.questions.Question.{Question}
use Rattle.plain_service.specs.declared.questions.Question.TheVariants.{Settled, OfFile, OfPort, OfIndex}
use Rattle.plain_service.specs.declared.file_route.FileQuestion.{FileQuestion}
use Rattle.plain_service.specs.declared.file_route.FileQuestion.TheVariants.{Show, Remove}
use Rattle.plain_service.specs.declared.port_routes.PortQuestion.{PortQuestion}
use Rattle.plain_service.specs.declared.port_routes.PortQuestion.TheVariants.{Variable, Record}
use Rattle.plain_service.specs.declared.index_questions.IndexQuestion.{IndexQuestion}
use Rattle.plain_service.specs.declared.index_questions.IndexQuestion.TheVariants as index
use Rattle.plain_service.specs.declared.change.Change.{Change}
use Rattle.plain_service.specs.declared.change.Change.TheVariants.{RemoveFile}
use Rattle.plain_service.specs.Change.{changed, overfills, settle_change}

content-fine : (content : Option (List ℕ)) → ((content_shown content).status == 503) ≡ false
content-fine (Some content) = refl
content-fine None = refl

set_trees-fine : (text : List ℕ) (trees : Option (List (List ℕ))) → ((set_trees text trees).0.status == 503) ≡ false
set_trees-fine text (Some trees) = refl
set_trees-fine text None = refl

set_path-fine : (body : List ℕ) → ((set_path body).0.status == 503) ≡ false
set_path-fine body =
    elim (is_utf8 (trimmed body)) as (λ b.
    ((if b then set_trees (trimmed body) (search_path (trimmed body)) else reply_alone bad_path).0.status == 503) ≡ false) [
      | true ↦ set_trees-fine (trimmed body) (search_path (trimmed body))
      | false ↦ refl
    ]

set_language-fine : (profile : Option Profile) → ((set_language profile).0.status == 503) ≡ false
set_language-fine (Some profile) = refl
set_language-fine None = refl

-- what was read of a query, or a refusal that isn't 503
RefusesFinely : {A : Type 0} → Result A ReplyMessage → Type 0
RefusesFinely (Ok value) = Unit {0}
RefusesFinely (Err reply) = (reply.status == 503) ≡ false

-- what is settled isn't answered 503
SettlesFinely : Question → Type 0
SettlesFinely (Settled prepared) = (prepared.reply.status == 503) ≡ false
SettlesFinely (OfFile asked) = Unit {0}
SettlesFinely (OfPort asked) = Unit {0}
SettlesFinely (OfIndex asked) = Unit {0}

read-fine : {A : Type 0} (question : A → Question) → ((value : A) → SettlesFinely (question value))
    → (read : Result A ReplyMessage) → RefusesFinely read
    → SettlesFinely (question_or_refusal question read)
unfolding RefusesFinely SettlesFinely
read-fine question fine (Ok value) refuses = fine value
read-fine question fine (Err reply) refuses = refuses

path-fine : (path : Result PathValue PkgPathFault) → RefusesFinely (path_or_refusal path)
unfolding RefusesFinely
path-fine (Ok path) = tt
path-fine (Err fault) = refl

path_in-fine : (text : Option (List ℕ)) → RefusesFinely (path_of_parameter text)
unfolding RefusesFinely
path_in-fine (Some text) = path-fine (path_of text)
path_in-fine None = refl

-- a parameter, or the refusal where it isn't as it must be
parameter-fine : (question : List ℕ → Question) → ((text : List ℕ) → SettlesFinely (question text)) → (text : Option (List ℕ))
    → SettlesFinely (with_parameter question text)
unfolding SettlesFinely
parameter-fine question fine (Some text) = fine text
parameter-fine question fine None = refl

value_reply-fine : (value : Result (Option Expanded) Failed) → ((value_reply value).status == 503) ≡ false
value_reply-fine (Ok value) = refl
value_reply-fine (Err failed) = refl

variable_at-fine : (world : World) (name : List ℕ) (flavors : Option (List (List ℕ))) (makefile : Option (List ℕ))
    → ((variable_at world name flavors makefile).status == 503) ≡ false
variable_at-fine world name flavors (Some makefile) = value_reply-fine (value_after makefile name (means world makefile flavors))
variable_at-fine world name flavors None = refl

variable_of-fine : (world : World) (name : List ℕ) (path : PathValue) → ((variable_of world name path).status == 503) ≡ false
variable_of-fine world name path = variable_at-fine world name path.flavors (place world path.directory)

port_reply-fine : (path : PathValue) (found : Result (Option Recorded) Failed) → ((port_reply path found).status == 503) ≡ false
port_reply-fine path (Ok (Some recorded)) =
    elim (has_named path.subpackage recorded.port) as (λ b. ((if b then port_shown path recorded.port else no_subpackage).status == 503) ≡
    false) [
      | true ↦ refl
      | false ↦ refl
    ]
port_reply-fine path (Ok None) = refl
port_reply-fine path (Err failed) = refl

port_at-fine : (world : World) (path : PathValue) (makefile : Option (List ℕ)) → ((port_at world path makefile).status == 503) ≡ false
port_at-fine world path (Some makefile) = port_reply-fine path (record_after makefile (means world makefile path.flavors))
port_at-fine world path None = refl

port_at_path-fine : (world : World) (path : PathValue) → ((port_at_path world path).status == 503) ≡ false
port_at_path-fine world path = port_at-fine world path (place world path.directory)

-- the lists

dependencies_by-fine : (edges : List RootEdgeValue) (question : DependencyQuestion) (state : Option (Result PortValue FaultAt))
    → ((dependencies_by edges question state).status == 503) ≡ false
dependencies_by-fine edges question None = refl
dependencies_by-fine edges question (Some (Err fault)) = refl
dependencies_by-fine edges question (Some (Ok port)) =
    elim (has_named question.path.subpackage port) as (λ b.
    ((if b then json_reply 200 (dependencies_body_of edges question) else no_subpackage).status == 503) ≡ false) [
      | true ↦ refl
      | false ↦ refl
    ]

reply_to-fine : (world : World) (direction : Direction) (question : DependencyQuestion)
    → ((reply_to (roots world) (edges world) direction question).status == 503) ≡ false
reply_to-fine world Dependencies question =
    dependencies_by-fine (edges world) question
    (option_map (λ (root : RootValue). root.state) (root_named (roots world) (port_path question.path)))
reply_to-fine world Dependents question = refl

question_on-fine : (path : Result PathValue ReplyMessage) (kinds : Option Kinds) (depth : Option Depth) → RefusesFinely path
    → RefusesFinely (question_on path kinds depth)
unfolding RefusesFinely
question_on-fine (Err reply) kinds depth refuses = refuses
question_on-fine (Ok path) (Some kinds) (Some depth) refuses = tt
question_on-fine (Ok path) (Some kinds) None refuses = refl
question_on-fine (Ok path) None depth refuses = refl

dependency_asked-fine : (path : Result PathValue ReplyMessage) (kind depth : Option (List ℕ)) → RefusesFinely path
    → RefusesFinely (dependency_asked path kind depth)
unfolding RefusesFinely
dependency_asked-fine path (Some kind) (Some depth) refuses = question_on-fine path (kinds_of kind) (depth_of depth) refuses
dependency_asked-fine path (Some kind) None refuses = refl
dependency_asked-fine path None depth refuses = refl

question_of_query-fine : (query : List ℕ) → RefusesFinely (question_of_query query)
question_of_query-fine query =
    dependency_asked-fine (path_in query) (optional (codes "kind") query) (optional (codes "depth") query)
    (path_in-fine (parameter (codes "path") query))

-- the questions

conditions-fine : (conditions : Option (List ConditionValue)) → SettlesFinely (conditions_question conditions)
unfolding SettlesFinely
conditions-fine (Some conditions) = tt
conditions-fine None = refl

spec-fine : (text : List ℕ) → SettlesFinely (spec_question text)
unfolding SettlesFinely
spec-fine text =
    elim (is_ok (spec_of text)) as (λ b. SettlesFinely (if b then OfIndex (index.Match text) else refused_question bad_spec)) [
      | true ↦ tt
      | false ↦ refl
    ]

named_file-fine : (method : Method) (body name : List ℕ) → SettlesFinely (named_file_question method body name)
unfolding SettlesFinely
named_file-fine Get body name = tt
named_file-fine Put body name = refl
named_file-fine Delete body name = tt

resolved-fine : (method : Method) (body : List ℕ) (name : Result (List ℕ) NameFault) → SettlesFinely (resolved_question method body name)
unfolding SettlesFinely
resolved-fine method body (Ok name) = named_file-fine method body name
resolved-fine method body (Err fault) = refl

variable-fine : (query name : List ℕ)
    → SettlesFinely (question_or_refusal (λ path. OfPort (Variable (record { path = path; name = name }))) (path_in query))
unfolding SettlesFinely
variable-fine query name =
    read-fine (λ path. OfPort (Variable (record { path = path; name = name }))) (λ path. tt) (path_in query)
    (path_in-fine (parameter (codes "path") query))

get-fine : (query : List ℕ) (route : Route) → SettlesFinely (get_question query route)
unfolding SettlesFinely
get-fine query Deps = read-fine (λ asked. OfIndex (index.Dependencies Dependencies asked)) (λ asked. tt) (question_of_query query)
    (question_of_query-fine query)
get-fine query Faults = tt
get-fine query File = refl
get-fine query AllPackages = parameter-fine (λ text. conditions_question (query_conditions text))
    (λ text. conditions-fine (query_conditions text)) (optional (codes "where") query)
get-fine query Match = parameter-fine spec_question spec-fine (parameter (codes "spec") query)
get-fine query Path = refl
get-fine query Port = read-fine (λ path. OfPort (Record path)) (λ path. tt) (path_in query) (path_in-fine (parameter (codes "path") query))
get-fine query Language = refl
get-fine query Rdeps = read-fine (λ asked. OfIndex (index.Dependencies Dependents asked)) (λ asked. tt) (question_of_query query)
    (question_of_query-fine query)
get-fine query Var =
    parameter-fine (λ name. question_or_refusal (λ path. OfPort (Variable (record { path = path; name = name }))) (path_in query))
    (variable-fine query)
    (parameter (codes "name") query)

query-fine : (query : List ℕ) (route : Route) (method : Method) → SettlesFinely (query_question query route method)
unfolding SettlesFinely
query-fine query route Get = get-fine query route
query-fine query route Put = refl
query-fine query route Delete = refl

path-question-fine : (body : List ℕ) (method : Method) → SettlesFinely (path_question body method)
unfolding SettlesFinely
path-question-fine body Put = set_path-fine body
path-question-fine body Get = refl
path-question-fine body Delete = refl

profile-question-fine : (body : List ℕ) (method : Method) → SettlesFinely (profile_question body method)
unfolding SettlesFinely
profile-question-fine body Put = set_language-fine (profile_named (trimmed body))
profile-question-fine body Get = refl
profile-question-fine body Delete = refl

route-fine : (request : PlainRequest) (route : Option Route) → SettlesFinely (question_on_route request route)
unfolding SettlesFinely
route-fine request None = refl
route-fine request (Some Deps) = query-fine (query_of_target request.target) Deps request.method
route-fine request (Some Faults) = query-fine (query_of_target request.target) Faults request.method
route-fine request (Some File) =
    parameter-fine (λ text. resolved_question request.method request.body (resolved text))
    (λ text. resolved-fine request.method request.body (resolved text))
    (parameter (codes "name") (query_of_target request.target))
route-fine request (Some AllPackages) = query-fine (query_of_target request.target) AllPackages request.method
route-fine request (Some Match) = query-fine (query_of_target request.target) Match request.method
route-fine request (Some Path) = path-question-fine request.body request.method
route-fine request (Some Language) = profile-question-fine request.body request.method
route-fine request (Some Port) = query-fine (query_of_target request.target) Port request.method
route-fine request (Some Rdeps) = query-fine (query_of_target request.target) Rdeps request.method
route-fine request (Some Var) = query-fine (query_of_target request.target) Var request.method

question-fine : (request : PlainRequest) → SettlesFinely (question_of request)
unfolding question_of
question-fine request = route-fine request (route_of (target_path request.target))

-- the answers

file-fine : (asked : FileQuestion) (content : Option (List ℕ)) → ((file_answer asked content).0.status == 503) ≡ false
file-fine (Show name) content = content-fine content
file-fine (Remove name) content =
    elim (is_some content) as (λ b. ((if b then (removed, Some (RemoveFile name)) else reply_alone no_file).0.status == 503) ≡ false) [
      | true ↦ refl
      | false ↦ refl
    ]

port-fine : (world : World) (asked : PortQuestion) → ((port_reply_to world asked).status == 503) ≡ false
port-fine world (Variable asked) = variable_of-fine world asked.name asked.path
port-fine world (Record path) = port_at_path-fine world path

index-fine : (world : World) (asked : IndexQuestion) → ((index_reply world asked).status == 503) ≡ false
index-fine world (index.List conditions) = refl
index-fine world (index.Match spec) = refl
index-fine world index.Faults = refl
index-fine world (index.Dependencies direction asked) = reply_to-fine world direction asked

answer_to-fine : (world : World) (question : Question) → SettlesFinely question → ((answer_to world question).0.status == 503) ≡ false
unfolding SettlesFinely
answer_to-fine world (Settled prepared) fine = fine
answer_to-fine world (OfFile asked) fine = file-fine asked (get (files_in world) (file_asked asked))
answer_to-fine world (OfPort asked) fine = port-fine world asked
answer_to-fine world (OfIndex asked) fine = index-fine world asked

settle_change-fine : (world : World) (reply : ReplyMessage) (change : Option Change) → (reply.status == 503) ≡ false
    → ((settle_change world reply change).0.status == 503) ≡ false
settle_change-fine world reply None fine = fine
settle_change-fine world reply (Some change) fine =
    elim (overfills world change) as (λ b.
    ((if◌then◌else◌ {A = ReplyMessage × World} b (storage_full, world) (reply, changed world change)).0.status == 503) ≡ false) [
      | true ↦ refl
      | false ↦ fine
    ]

pub never_503 : (world : World) (request : PlainRequest) → ((plain world request).0.status == 503) ≡ false
never_503 world request =
    settle_change-fine world (answer_to world (question_of request)).0 (answer_to world (question_of request)).1
    (answer_to-fine world (question_of request) (question-fine request))
