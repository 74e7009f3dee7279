-- The answer to a question over a world.
use Rattle.std.specs.Prelude.{ℕ, Bool, true, false, if◌then◌else◌, List, Option, Some, None, Result, is_some}
use Rattle.std.specs.FinMap.{get}
use Rattle.mk_paths.specs.World.{World, files_in}
use Rattle.mk_eval.specs.declared.outcome.Evaluated.{Evaluated}
use Rattle.mk_eval.specs.declared.outcome.Failed.{Failed}
use Rattle.ports_http.specs.Messages.{ReplyMessage}
use Rattle.plain_service.specs.declared.change.Change.TheVariants.{RemoveFile}
use Rattle.plain_service.specs.declared.questions.Question.{Question}
use Rattle.plain_service.specs.declared.questions.Question.TheVariants.{Settled, OfFile, OfPort, OfIndex}
use Rattle.plain_service.specs.declared.file_route.FileQuestion.{FileQuestion}
use Rattle.plain_service.specs.declared.file_route.FileQuestion.TheVariants.{Show, Remove}
use Rattle.plain_service.specs.declared.port_routes.PortQuestion.{PortQuestion}
use Rattle.plain_service.specs.declared.port_routes.PortQuestion.TheVariants.{Variable, Record}
use Rattle.plain_service.specs.declared.dependency_routes.Direction.{Direction}
use Rattle.plain_service.specs.declared.dependency_routes.Direction.TheVariants.{Dependencies, Dependents}
use Rattle.plain_service.specs.declared.depth.Depth.{Depth}
use Rattle.plain_service.specs.declared.depth.Depth.TheVariants.{Direct, All}
use Rattle.plain_service.specs.declared.index_questions.IndexQuestion.{IndexQuestion}
use Rattle.plain_service.specs.declared.index_questions.IndexQuestion.TheVariants as index
use Rattle.plain_service.specs.IndexRoutes.{list_reply, match_reply, faults_reply, dependency_reply}
use Rattle.plain_service.specs.Requests.{Answer, reply_alone}
use Rattle.plain_service.specs.PortReplies.{value_after, value_reply, variable_of, record_after, port_reply, port_at_path}
use Rattle.plain_service.specs.Replies.{file_shown, no_file, removed}

-- the file that a question is about
abbrev pub file_asked : FileQuestion → List ℕ
file_asked (Show name) = name
file_asked (Remove name) = name

-- the content of a file, if it is there
abbrev pub content_shown : Option (List ℕ) → ReplyMessage
content_shown (Some content) = file_shown content
content_shown None = no_file

-- the answer to a question about a file with this content, if it is there
abbrev pub file_answer : FileQuestion → Option (List ℕ) → Answer
file_answer (Show name) content = reply_alone (content_shown content)
file_answer (Remove name) content = if is_some content then (removed, Some (RemoveFile name)) else reply_alone no_file

-- the reply to a question about a port
abbrev pub port_reply_to : World → PortQuestion → ReplyMessage
port_reply_to world (Variable asked) = variable_of world asked.name asked.path
port_reply_to world (Record path) = port_at_path world path

-- the same, after an evaluation of the port's makefile
abbrev pub reply_after : PortQuestion → List ℕ → Result Evaluated Failed → ReplyMessage
reply_after (Variable asked) makefile outcome = value_reply (value_after makefile asked.name outcome)
reply_after (Record path) makefile outcome = port_reply path (record_after makefile outcome)

-- the reply to a question about the index
abbrev pub index_reply : World → IndexQuestion → ReplyMessage
index_reply world (index.List conditions) = list_reply world conditions
index_reply world (index.Match spec) = match_reply world spec
index_reply world index.Faults = faults_reply world
index_reply world (index.Dependencies direction asked) = dependency_reply world direction asked

-- following dependencies this way, so far, takes those of all ports: but for those of one port itself
abbrev pub follows_all : Direction → Depth → Bool
follows_all Dependencies Direct = false
follows_all Dependencies All = true
follows_all Dependents depth = true

-- a question looks at the dependencies of all ports
abbrev pub follows_edges : IndexQuestion → Bool
follows_edges (index.List conditions) = false
follows_edges (index.Match spec) = false
follows_edges index.Faults = false
follows_edges (index.Dependencies direction asked) = follows_all direction asked.depth

-- the answer to a question over a world
abbrev pub answer_to : World → Question → Answer
answer_to world (Settled prepared) = (prepared.reply, prepared.change)
answer_to world (OfFile asked) = file_answer asked (get (files_in world) (file_asked asked))
answer_to world (OfPort asked) = reply_alone (port_reply_to world asked)
answer_to world (OfIndex asked) = reply_alone (index_reply world asked)
