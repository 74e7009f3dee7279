-- The profile of a world after a request on another route than its own.
use Rattle.std.proofs.Common.{◌≡◌, refl, ℕ, true, false, if◌then◌else◌, List, Option, Some, None, Result, Ok, Err}
use Rattle.std.specs.FinMap.{get}
use Rattle.std.specs.Result.{is_ok}
use Rattle.std.specs.Str.{is_utf8}
use Rattle.mk_paths.specs.FileName.{resolved}
use Rattle.mk_paths.specs.SearchPath.{search_path}
use Rattle.mk_paths.specs.World.{World, files_in, profile_of}
use Rattle.mk_paths.specs.declared.file_name.NameFault.{NameFault}
use Rattle.ports_http.specs.Messages.{ReplyMessage}
use Rattle.ports_http.specs.declared.method.Method.{Method}
use Rattle.ports_http.specs.declared.method.Method.TheVariants.{Get, Put, Delete}
use Rattle.plain_service.specs.declared.change.Change.{Change}
use Rattle.plain_service.specs.declared.change.Change.TheVariants.{PutFile, RemoveFile, SetPath, SetProfile}
use Rattle.plain_service.specs.declared.routes.Route.{Route}
use Rattle.plain_service.specs.declared.routes.Route.TheVariants.{Deps, Faults, File, List as AllPackages, Match, Path, Port}
use Rattle.plain_service.specs.declared.routes.Route.TheVariants.{Profile as Language, Rdeps, Var}
use Rattle.plain_service.specs.Change.{changed, overfills, settle_change}
use Rattle.plain_service.specs.Parameters.{parameter, optional}
use Rattle.std.specs.Prelude.{codes, is_some}
use Rattle.plain_service.specs.Requests.{PlainRequest, Answer, reply_alone}
use Rattle.plain_service.specs.SettingAnswers.{set_trees, set_text}
use Rattle.pkg_spec.specs.Alternatives.{spec_of}
use Rattle.ports_query.specs.Conditions.{ConditionValue, query_conditions}
use Rattle.plain_service.specs.declared.dependency_routes.Direction.TheVariants.{Dependencies, Dependents}
use Rattle.plain_service.specs.declared.questions.Question.{Question}
use Rattle.plain_service.specs.declared.questions.Question.TheVariants.{Settled, OfPort, OfIndex}
use Rattle.plain_service.specs.declared.port_routes.PortQuestion.TheVariants.{Variable, Record}
use Rattle.plain_service.specs.declared.index_questions.IndexQuestion.TheVariants as index
use Rattle.plain_service.specs.IndexRoutes.{question_of_query, bad_spec}
use Rattle.plain_service.specs.PathParameter.{path_in}
use Rattle.plain_service.specs.Questions.{refused_question, question_or_refusal, with_parameter, named_file_question, resolved_question}
use Rattle.plain_service.specs.Questions.{file_question_in, conditions_question, spec_question, get_question, query_question, path_question}
use Rattle.plain_service.specs.Questions.{question_on_route, question_of}
use Rattle.plain_service.specs.Answers.{answer_to}
use Rattle.plain_service.specs.Replies.{bad_path, storage_full, no_file, removed}
use Rattle.plain_service.specs.Routes.{route_of}
use Rattle.plain_service.specs.Target.{path_of_target as target_path, query_of as target_query}
use Rattle.plain_service.specs.Spaces.{trimmed}
use Rattle.plain_service.specs.Languages.{is_of_profile, asks_profile, OthersKeepTheProfile}

-- a change that leaves the profile
abbrev KeepsIt : Option Change → Type 0
KeepsIt None = Unit {0}
KeepsIt (Some (PutFile name content)) = Unit {0}
KeepsIt (Some (RemoveFile name)) = Unit {0}
KeepsIt (Some (SetPath trees)) = Unit {0}
KeepsIt (Some (SetProfile profile)) = ⊥

after_change : (world : World) (change : Change) → KeepsIt (Some change) → profile_of (changed world change) ≡ profile_of world
after_change world (PutFile name content) keeps = refl
after_change world (RemoveFile name) keeps = refl
after_change world (SetPath trees) keeps = refl
after_change world (SetProfile profile) keeps = absurd keeps

settled-keeps : (world : World) (reply : ReplyMessage) (change : Option Change) → KeepsIt change
    → profile_of (settle_change world reply change).1 ≡ profile_of world
settled-keeps world reply None keeps = refl
settled-keeps world reply (Some change) keeps =
    elim (overfills world change) as (λ b. profile_of (if◌then◌else◌ {A = ReplyMessage × World} b (storage_full, world)
    (reply, changed world change)).1 ≡ profile_of world) [
      | true ↦ refl
      | false ↦ after_change world change keeps
    ]

trees-keeps : (text : List ℕ) (trees : Option (List (List ℕ))) → KeepsIt (set_trees text trees).1
trees-keeps text (Some trees) = tt
trees-keeps text None = tt

text-keeps : (text : List ℕ) → KeepsIt (set_text text).1
text-keeps text =
    elim (is_utf8 text) as (λ b. KeepsIt (if◌then◌else◌ {A = Answer} b (set_trees text (search_path text)) (reply_alone bad_path)).1) [
      | true ↦ trees-keeps text (search_path text)
      | false ↦ tt
    ]

-- the answer to a question leaves it over every world
module _ (world : World) where
  refusal-keeps : {A : Type 0} (question : A → Question) → ((value : A) → KeepsIt (answer_to world (question value)).1)
      → (read : Result A ReplyMessage) → KeepsIt (answer_to world (question_or_refusal question read)).1
  refusal-keeps question keeps (Ok value) = keeps value
  refusal-keeps question keeps (Err reply) = tt

  parameter-keeps : (question : List ℕ → Question) → ((text : List ℕ) → KeepsIt (answer_to world (question text)).1)
      → (text : Option (List ℕ)) → KeepsIt (answer_to world (with_parameter question text)).1
  parameter-keeps question keeps (Some text) = keeps text
  parameter-keeps question keeps None = tt

  named-keeps : (method : Method) (body name : List ℕ) → KeepsIt (answer_to world (named_file_question method body name)).1
  named-keeps Get body name = tt
  named-keeps Put body name = tt
  named-keeps Delete body name =
      elim (is_some (get (files_in world) name)) as (λ b. KeepsIt (if◌then◌else◌ {A = Answer} b (removed, Some (RemoveFile name))
      (reply_alone no_file)).1) [
        | true ↦ tt
        | false ↦ tt
      ]

  resolved-keeps : (method : Method) (body : List ℕ) (name : Result (List ℕ) NameFault)
      → KeepsIt (answer_to world (resolved_question method body name)).1
  resolved-keeps method body (Ok name) = named-keeps method body name
  resolved-keeps method body (Err fault) = tt

  file-keeps : (method : Method) (body query : List ℕ) → KeepsIt (answer_to world (file_question_in method body query)).1
  file-keeps method body query =
      parameter-keeps (λ text. resolved_question method body (resolved text)) (λ text. resolved-keeps method body (resolved text))
      (parameter (codes "name") query)

  conditions-keep : (conditions : Option (List ConditionValue)) → KeepsIt (answer_to world (conditions_question conditions)).1
  conditions-keep (Some conditions) = tt
  conditions-keep None = tt

  spec-keeps : (text : List ℕ) → KeepsIt (answer_to world (spec_question text)).1
  spec-keeps text =
      elim (is_ok (spec_of text)) as (λ b. KeepsIt
      (answer_to world (if b then OfIndex (index.Match text) else refused_question bad_spec)).1) [
        | true ↦ tt
        | false ↦ tt
      ]

  get-keeps : (query : List ℕ) (route : Route) → KeepsIt (answer_to world (get_question query route)).1
  get-keeps query Deps = refusal-keeps (λ asked. OfIndex (index.Dependencies Dependencies asked)) (λ asked. tt) (question_of_query query)
  get-keeps query Faults = tt
  get-keeps query File = tt
  get-keeps query AllPackages = parameter-keeps (λ text. conditions_question (query_conditions text))
      (λ text. conditions-keep (query_conditions text)) (optional (codes "where") query)
  get-keeps query Match = parameter-keeps spec_question spec-keeps (parameter (codes "spec") query)
  get-keeps query Path = tt
  get-keeps query Port = refusal-keeps (λ path. OfPort (Record path)) (λ path. tt) (path_in query)
  get-keeps query Language = tt
  get-keeps query Rdeps = refusal-keeps (λ asked. OfIndex (index.Dependencies Dependents asked)) (λ asked. tt) (question_of_query query)
  get-keeps query Var =
      parameter-keeps (λ name. question_or_refusal (λ path. OfPort (Variable (record { path = path; name = name }))) (path_in query))
      (λ name. refusal-keeps (λ path. OfPort (Variable (record { path = path; name = name }))) (λ path. tt) (path_in query))
      (parameter (codes "name") query)

  query-keeps : (query : List ℕ) (route : Route) (method : Method) → KeepsIt (answer_to world (query_question query route method)).1
  query-keeps query route Get = get-keeps query route
  query-keeps query route Put = tt
  query-keeps query route Delete = tt

  path-keeps : (body : List ℕ) (method : Method) → KeepsIt (answer_to world (path_question body method)).1
  path-keeps body Put = text-keeps (trimmed body)
  path-keeps body Get = tt
  path-keeps body Delete = tt

  route-keeps : (request : PlainRequest) (route : Option Route) → is_of_profile route ≡ false
      → KeepsIt (answer_to world (question_on_route request route)).1
  route-keeps request None other = tt
  route-keeps request (Some Deps) other = query-keeps (target_query request.target) Deps request.method
  route-keeps request (Some Faults) other = query-keeps (target_query request.target) Faults request.method
  route-keeps request (Some File) other = file-keeps request.method request.body (target_query request.target)
  route-keeps request (Some AllPackages) other = query-keeps (target_query request.target) AllPackages request.method
  route-keeps request (Some Match) other = query-keeps (target_query request.target) Match request.method
  route-keeps request (Some Path) other = path-keeps request.body request.method
  route-keeps request (Some Port) other = query-keeps (target_query request.target) Port request.method
  route-keeps request (Some Language) other = absurd cc
  route-keeps request (Some Rdeps) other = query-keeps (target_query request.target) Rdeps request.method
  route-keeps request (Some Var) other = query-keeps (target_query request.target) Var request.method

answer-keeps : (world : World) (request : PlainRequest) → asks_profile request ≡ false → KeepsIt (answer_to world (question_of request)).1
unfolding question_of
answer-keeps world request other = route-keeps world request (route_of (target_path request.target)) other

pub others_keep_the_profile : OthersKeepTheProfile
others_keep_the_profile world request other =
    settled-keeps world (answer_to world (question_of request)).0 (answer_to world (question_of request)).1
    (answer-keeps world request other)
