-- What is told as spent on a request, in the turn that answers it and in the turns before.
use Rattle.std.specs.Prelude.{◌≡◌, ℕ, ◌+◌, ◌<◌, ◌≤◌, MatchBool, MatchOption, List, [], ◌∷◌, slice_get, Option, Some, None}
use Rattle.turn_amounts.specs.declared.TheConstants.{MOST_SPENT}
use Rattle.mk_paths.specs.World.{World}
use Rattle.turn_amounts.specs.declared.spent.Spent.{Spent}
use Rattle.turn_amounts.specs.Spent.{no_spending, spent_together}
use Rattle.port_index.specs.Spent.{ChecksFew}
use Rattle.ports_http.specs.Messages.{RequestMessage, ReplyMessage}
use Rattle.plain_service.specs.Questions.{question_of}
use Rattle.plain_service.specs.AnswerCosts.{evaluations, cost, most_turns}
use Rattle.plain_service.specs.Spent.{SpendsFor}
use Rattle.ports_core.specs.declared.event.Event.{Event}
use Rattle.ports_core.specs.declared.event.Event.TheVariants.{Open, Piece, End, Fault, Wrote, Turn}
use Rattle.ports_core.specs.declared.event.Told.{Told}
use Rattle.ports_core.specs.declared.event.Tell.{Tell}
use Rattle.ports_core.specs.Answers.{plain_request_of}
use Rattle.ports_core.specs.Slices.{Slice}
use Rattle.ports_core.specs.declared.job.Job.{Job}
use Rattle.ports_core.specs.Jobs.{TenantJob, had_by, spent_on, one_turn_more}
use Rattle.ports_core.specs.State.{State, slice_of, job_at}
use Rattle.ports_core.specs.Tell.{is_failure, spent_as_told, CountsNone}

-- what is spent on a request over a world, however much is kept
abbrev pub SpendsOnRequest : World → RequestMessage → Spent → Type 0
SpendsOnRequest world request spent = SpendsFor world (question_of (plain_request_of request)) spent

-- What a request over a world may have had, in all turns together, while it isn't answered. Its turns are fewer than
-- the most that its answer may take. Its units are no more than it costs, and its checks are few for each makefile on
-- which its answer rests. The most turns of a request that rests on no makefile are 1: so it is answered in its first turn.
pub record MayHaveHad (world : World) (request : RequestMessage) (had : Job) : Type 0 where
  pub turns : had.turns < most_turns world (plain_request_of request)
  pub units : had.units ≤ cost world (plain_request_of request)
  pub checks : ChecksFew (evaluations world (plain_request_of request)) had.checks

-- what one turn may spend, units and checks together
abbrev pub FitsTurn : Spent → Type 0
FitsTurn spent = spent.units + spent.checks ≤ MOST_SPENT

-- What is told as spent with a reply, if so much was spent before: nothing with 503. Else it is, with that together,
-- what is spent on the request.
abbrev pub Charges : World → RequestMessage → ReplyMessage → Spent → Spent → Type 0
Charges world request reply before spent =
    MatchBool (is_failure reply.status) (spent ≡ no_spending) (SpendsOnRequest world request (spent_together before spent))

-- the same of a request of this tenant
abbrev pub ChargesFor : ℕ → RequestMessage → ReplyMessage → Spent → Spent → List World → Type 0
ChargesFor t request reply before spent worlds =
    (world : World) → slice_get worlds t ≡ Some world → Charges world request reply before spent

-- A request of this tenant isn't answered yet: no world changes, and with this turn it has had no more than it may.
pub record LeavesUnanswered (t : ℕ) (request : RequestMessage) (before : Job) (spent : Spent) (old new : List World) : Type 0 where
  pub worlds : new ≡ old
  pub within : (world : World) → slice_get old t ≡ Some world → MayHaveHad world request (one_turn_more before spent)

-- What is told as spent in a turn of a tenant with this slice and this job, if there is such a tenant. If no reply is
-- told, the first request has had, with this turn, no more than it may.
abbrev pub TurnSpends : Option Slice → Option TenantJob → Told → Type 0
TurnSpends None job told = CountsNone told
TurnSpends (Some (world, [])) job told = CountsNone told
TurnSpends (Some (world, first ∷ rest)) job told =
    MatchOption told.reply (MayHaveHad world first.request (one_turn_more (had_by job) (spent_as_told told)))
    (λ (tell : Tell). Charges world first.request tell.reply (spent_on job) (spent_as_told told))

-- what is told as spent in an event: only a turn spends
abbrev pub EventSpends : Event → Told → State → Type 0
EventSpends (Turn t) told old = TurnSpends (slice_of t old) (job_at t old) told
EventSpends (Open c) told old = CountsNone told
EventSpends (Piece c bytes) told old = CountsNone told
EventSpends (End c) told old = CountsNone told
EventSpends (Fault c) told old = CountsNone told
EventSpends (Wrote c count) told old = CountsNone told
