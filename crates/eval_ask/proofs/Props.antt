-- What an evaluation that is asked for has come to has one proof at most.
use Rattle.std.proofs.Common.{ℕ, List, [], ◌∷◌}
use Rattle.std.proofs.Props.{props}
use Rattle.std.specs.Coded.{×_prop, Unit-prop}
use Rattle.mk_paths.specs.World.{FileMap}
use Rattle.mk_paths.specs.FilesView.{Question, Reply, Presence, Contents, IsReply}
use Rattle.mk_eval.specs.Agreement.{Agrees}
use Rattle.eval_cache.specs.Keys.{Key}
use Rattle.eval_ask.specs.declared.ask.Ask.{Ask}
use Rattle.eval_ask.specs.declared.ask.Asked.{Asked}
use Rattle.eval_ask.specs.declared.ask.AskTurned.{AskTurned}
use Rattle.eval_ask.specs.declared.ask.AskTurned.TheVariants.{More, Done}
use Rattle.eval_ask.specs.Ask.{HasComeTo, IsAnswerTo, IsAskIn}
use Rattle.eval_ask.proofs.Codes.{end_code, evaluation_code}

IsReply-prop : (files : FileMap) (name : List ℕ) (reply : Reply) → IsProp (IsReply files name reply)
IsReply-prop files name (Presence there) = hlevel props
IsReply-prop files name (Contents content) = hlevel props

pub Agrees-prop : (files : FileMap) (questions : List Question) → IsProp (Agrees files questions)
Agrees-prop files [] = Unit-prop
Agrees-prop files (question ∷ questions) = ×_prop (IsReply-prop files question.0 question.1) (Agrees-prop files questions)

IsAskIn-prop : (files : FileMap) (ask : Ask) → IsProp (IsAskIn files ask)
IsAskIn-prop files ask = hlevel (props, Agrees-prop, end_code)

IsAnswerTo-prop : (files : FileMap) (key : Key) (asked : Asked) → IsProp (IsAnswerTo files key asked)
IsAnswerTo-prop files key asked = hlevel (props, Agrees-prop, evaluation_code)

pub HasComeTo-prop : (files : FileMap) (key : Key) (turned : AskTurned) → IsProp (HasComeTo files key turned)
HasComeTo-prop files key (More ask) = hlevel (props, IsAskIn-prop)
HasComeTo-prop files key (Done asked) = IsAnswerTo-prop files key asked
