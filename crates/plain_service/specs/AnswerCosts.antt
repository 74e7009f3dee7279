-- What the answer to a request rests on: which makefiles are evaluated for it, and what that costs.
use Rattle.std.specs.Prelude.{◌≢◌, ℕ, ◌+◌, ◌*◌, ◌/◌, List, [], AllPairs, length, Option, Some, None, option_map}
use Rattle.std.specs.Prelude.{option_to_list, Result, Ok, Err, unwrap_or}
use Rattle.turn_amounts.specs.declared.TheConstants.{MOST_CHECKS, TURN_UNITS}
use Rattle.mk_paths.specs.Place.{place}
use Rattle.mk_paths.specs.SearchPath.{IsSearchPath}
use Rattle.mk_paths.specs.World.{World, search_path_of}
pub use Rattle.mk_eval.specs.Costs.{value_units}
use Rattle.mk_eval.specs.Meaning.{means, value_of_variable}
use Rattle.mk_eval.specs.declared.outcome.Evaluated.{Evaluated}
use Rattle.mk_eval.specs.declared.outcome.Failed.{Failed}
use Rattle.mk_eval.specs.declared.outcome.Kind.{Kind}
use Rattle.mk_eval.specs.declared.outcome.Kind.TheVariants as kinds
use Rattle.pkg_path.specs.Paths.{PathValue}
pub use Rattle.port_rules.specs.Records.{record_units}
use Rattle.port_rules.specs.Records.{record_of}
use Rattle.port_index.specs.PathOutcomes.{with_cost}
use Rattle.port_index.specs.Efforts.{cost_over}
use Rattle.port_index.specs.Index.{needed_paths}
use Rattle.port_index.specs.Pairs.{Pair, pair_in, pairs_at}
use Rattle.plain_service.specs.declared.questions.Question.{Question}
use Rattle.plain_service.specs.declared.questions.Question.TheVariants.{Settled, OfFile, OfPort, OfIndex}
use Rattle.plain_service.specs.declared.port_routes.PortQuestion.{PortQuestion}
use Rattle.plain_service.specs.declared.port_routes.PortQuestion.TheVariants.{Variable, Record}
use Rattle.plain_service.specs.Requests.{PlainRequest}
use Rattle.plain_service.specs.Questions.{question_of}

-- the makefile of a package path with the path's flavors, if it is there
abbrev pub pair_of : World → PathValue → Option Pair
pair_of world path = pair_in world path.directory path.flavors

-- the path of the port that a question is about
abbrev pub path_asked : PortQuestion → PathValue
path_asked (Variable asked) = asked.path
path_asked (Record path) = path

-- The makefiles, with flavors, on which the answer to a question rests, each once. Of the index these are those of its
-- roots, and those that items name.
abbrev pub rests_for : World → Question → List Pair
rests_for world (Settled prepared) = []
rests_for world (OfFile asked) = []
rests_for world (OfPort asked) = option_to_list (pair_of world (path_asked asked))
rests_for world (OfIndex asked) = pairs_at world (needed_paths world)

-- the units of an evaluated makefile of this kind, and then those of the record if it describes a port
abbrev pub with_record : Kind → ℕ → ℕ → ℕ
with_record kinds.Port spent more = with_cost spent more
with_record kinds.List spent more = spent
with_record kinds.Other spent more = spent

-- the units of an evaluation, and then those of what a question asks of the port: of the value, or of the record
abbrev pub cost_after : PortQuestion → List ℕ → Result Evaluated Failed → ℕ
cost_after question makefile (Err failed) = failed.cost
cost_after (Variable asked) makefile (Ok evaluated) =
    with_cost evaluated.cost (value_units (value_of_variable evaluated.env makefile asked.name))
cost_after (Record path) makefile (Ok evaluated) =
    with_record evaluated.kind evaluated.cost (record_units (record_of evaluated.env makefile))

-- the same over a world, of a port with this makefile
abbrev pub cost_by : World → PortQuestion → List ℕ → ℕ
cost_by world question makefile = cost_after question makefile (means world makefile (path_asked question).flavors)

-- the same of the port's own makefile; nothing if that isn't there
abbrev pub port_cost_at : World → PortQuestion → ℕ
port_cost_at world question = unwrap_or (option_map (cost_by world question) (place world (path_asked question).directory)) 0

-- The units of all evaluations on which the answer to a question rests, with those of the records, of the SUBDIRs
-- and of the value.
abbrev pub cost_for : World → Question → ℕ
cost_for world (Settled prepared) = 0
cost_for world (OfFile asked) = 0
cost_for world (OfPort asked) = port_cost_at world asked
cost_for world (OfIndex asked) = cost_over world (needed_paths world)

-- the makefiles, with flavors, on which the answer to a request rests, each once; their number; and the cost
abbrev pub rests : World → PlainRequest → List Pair
rests world request = rests_for world (question_of request)

abbrev pub evaluations : World → PlainRequest → ℕ
evaluations world request = length (rests world request)

abbrev pub cost : World → PlainRequest → ℕ
cost world request = cost_for world (question_of request)

-- Within so many of its tenant's own turns a request that asks this is told its reply. It is one for that, one for each
-- makefile that is evaluated, and one for as many units that it costs and answers that may be checked as a turn has units.
abbrev pub turns_for : World → Question → ℕ
turns_for world question =
    1 + length (rests_for world question)
    + (cost_for world question + MOST_CHECKS * length (rests_for world question)) / TURN_UNITS

-- the same of a request
abbrev pub most_turns : World → PlainRequest → ℕ
most_turns world request = turns_for world (question_of request)

-- along the trees of a search path, no makefile is twice, with the same flavors, among those on which an answer rests
abbrev pub RestsOnEachOnce : Type 0
RestsOnEachOnce =
    (world : World) (request : PlainRequest)
    → IsSearchPath (search_path_of world) → AllPairs (λ (one : Pair) (other : Pair). one ≢ other) (rests world request)
