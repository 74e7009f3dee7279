-- What a request asks of a world, once its form was read. Every refusal that doesn't depend on the world is
-- already made.
use Rattle.std.specs.Prelude.{ℕ, if◌then◌else◌, List, Option, Some, None, Result, Ok, Err, codes}
use Rattle.std.specs.Option.{option_map_or}
use Rattle.std.specs.Result.{is_ok}
use Rattle.mk_paths.specs.FileName.{resolved}
use Rattle.mk_paths.specs.declared.file_name.NameFault.{NameFault}
use Rattle.pkg_spec.specs.Alternatives.{spec_of}
use Rattle.ports_query.specs.Conditions.{ConditionValue, query_conditions}
use Rattle.ports_http.specs.declared.method.Method.{Method}
use Rattle.ports_http.specs.declared.method.Method.TheVariants.{Get, Put, Delete}
use Rattle.ports_http.specs.Messages.{ReplyMessage}
use Rattle.plain_service.specs.declared.change.Change.TheVariants.{PutFile}
use Rattle.plain_service.specs.declared.dependency_routes.Direction.{Direction}
use Rattle.plain_service.specs.declared.dependency_routes.Direction.TheVariants.{Dependencies, Dependents}
use Rattle.plain_service.specs.declared.questions.Question.{Question}
use Rattle.plain_service.specs.declared.questions.Question.TheVariants.{Settled, OfFile, OfPort, OfIndex}
use Rattle.plain_service.specs.declared.file_route.FileQuestion.TheVariants.{Show, Remove}
use Rattle.plain_service.specs.declared.port_routes.PortQuestion.TheVariants.{Variable, Record}
use Rattle.plain_service.specs.declared.index_questions.IndexQuestion.TheVariants as index
use Rattle.plain_service.specs.declared.routes.Route.{Route}
use Rattle.plain_service.specs.declared.routes.Route.TheVariants.{Deps, Faults, File, List as AllPackages, Match}
use Rattle.plain_service.specs.declared.routes.Route.TheVariants.{Path, Port, Profile as Language, Rdeps, Var}
use Rattle.plain_service.specs.IndexRoutes.{question_of_query, bad_query, bad_spec}
use Rattle.plain_service.specs.Parameters.{parameter, optional}
use Rattle.plain_service.specs.PathParameter.{path_in}
use Rattle.plain_service.specs.Requests.{PlainRequest, Answer, reply_alone}
use Rattle.plain_service.specs.SettingAnswers.{set_path, set_profile}
use Rattle.plain_service.specs.Replies.{no_route, not_allowed, bad_parameter, bad_name, stored}
use Rattle.plain_service.specs.Routes.{route_of}
use Rattle.plain_service.specs.Target.{path_of_target as target_path, query_of as query_of_target}

-- the answer is this one over every world
abbrev pub settled : Answer → Question
settled answer = Settled (record { reply = answer.0; change = answer.1 })

-- it is this reply alone
abbrev pub refused_question : ReplyMessage → Question
refused_question reply = settled (reply_alone reply)

-- the question about what was read of a query, or the refusal
abbrev pub question_or_refusal : {A : Type 0} → (A → Question) → Result A ReplyMessage → Question
question_or_refusal question (Ok value) = question value
question_or_refusal question (Err reply) = refused_question reply

-- the question about a parameter that is as it must be
abbrev pub with_parameter : (List ℕ → Question) → Option (List ℕ) → Question
with_parameter question text = option_map_or question text (refused_question bad_parameter)

-- GET, PUT and DELETE of the file of a name: whether it is stored doesn't depend on the world
abbrev pub named_file_question : Method → List ℕ → List ℕ → Question
named_file_question Get body name = OfFile (Show name)
named_file_question Put body name = settled (stored, Some (PutFile name body))
named_file_question Delete body name = OfFile (Remove name)

abbrev pub resolved_question : Method → List ℕ → Result (List ℕ) NameFault → Question
resolved_question method body (Ok name) = named_file_question method body name
resolved_question method body (Err fault) = refused_question bad_name

-- /v1/file?name=
abbrev pub file_question : Method → List ℕ → Option (List ℕ) → Question
file_question method body name = with_parameter (λ text. resolved_question method body (resolved text)) name

-- the same, by the query
abbrev pub file_question_in : Method → List ℕ → List ℕ → Question
file_question_in method body query = file_question method body (parameter (codes "name") query)

-- GET /v1/var?path=&name=
abbrev pub variable_question : List ℕ → Question
variable_question query =
    with_parameter (λ name. question_or_refusal (λ path. OfPort (Variable (record { path = path; name = name }))) (path_in query))
    (parameter (codes "name") query)

-- GET /v1/port?path=
abbrev pub port_question : List ℕ → Question
port_question query = question_or_refusal (λ path. OfPort (Record path)) (path_in query)

-- GET /v1/list?where=
abbrev pub conditions_question : Option (List ConditionValue) → Question
conditions_question conditions = option_map_or (λ known. OfIndex (index.List known)) conditions (refused_question bad_query)

abbrev pub list_question : List ℕ → Question
list_question query = with_parameter (λ text. conditions_question (query_conditions text)) (optional (codes "where") query)

-- GET /v1/match?spec=
abbrev pub spec_question : List ℕ → Question
spec_question text = if is_ok (spec_of text) then OfIndex (index.Match text) else refused_question bad_spec

abbrev pub match_question : List ℕ → Question
match_question query = with_parameter spec_question (parameter (codes "spec") query)

-- GET /v1/deps and GET /v1/rdeps
abbrev pub dependency_question : Direction → List ℕ → Question
dependency_question direction query = question_or_refusal (λ asked. OfIndex (index.Dependencies direction asked)) (question_of_query query)

-- the question of a GET on a route, by the query; a file, the search path and the profile aren't asked for in this way
abbrev pub get_question : List ℕ → Route → Question
get_question query Deps = dependency_question Dependencies query
get_question query Faults = OfIndex index.Faults
get_question query File = refused_question (not_allowed File)
get_question query AllPackages = list_question query
get_question query Match = match_question query
get_question query Path = refused_question (not_allowed Path)
get_question query Port = port_question query
get_question query Language = refused_question (not_allowed Language)
get_question query Rdeps = dependency_question Dependents query
get_question query Var = variable_question query

-- the question on a route that is asked by a query, by the method
abbrev pub query_question : List ℕ → Route → Method → Question
query_question query route Get = get_question query route
query_question query route Put = refused_question (not_allowed route)
query_question query route Delete = refused_question (not_allowed route)

-- the question on the route of the search path, by the method
abbrev pub path_question : List ℕ → Method → Question
path_question body Put = settled (set_path body)
path_question body Get = refused_question (not_allowed Path)
path_question body Delete = refused_question (not_allowed Path)

-- the question on the route of the profile, by the method
abbrev pub profile_question : List ℕ → Method → Question
profile_question body Put = settled (set_profile body)
profile_question body Get = refused_question (not_allowed Language)
profile_question body Delete = refused_question (not_allowed Language)

-- the question on a route
abbrev pub question_on_route : PlainRequest → Option Route → Question
question_on_route request None = refused_question no_route
question_on_route request (Some File) = file_question_in request.method request.body (query_of_target request.target)
question_on_route request (Some Path) = path_question request.body request.method
question_on_route request (Some Language) = profile_question request.body request.method
question_on_route request (Some route) = query_question (query_of_target request.target) route request.method

-- What a request asks. The path is looked at first, then the method, then the parameters.
unfoldable pub question_of : PlainRequest → Question
question_of request = question_on_route request (route_of (target_path request.target))
