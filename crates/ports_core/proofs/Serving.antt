-- Requests answered one after another over some world.
use Rattle.std.proofs.Common.{◌≡◌, Bool, true, false, List, [], ◌∷◌, ◌++◌, refl, sym, ap, subst, ◌∙◌, inl, inr}
use Rattle.std.specs.Prelude.{if◌then◌else◌}
use Rattle.ports_core.specs.declared.event.Tell.{Tell}
use Rattle.ports_core.specs.declared.queue.QueuedRequest.{QueuedRequest}
use Rattle.ports_http.specs.Messages.{RequestMessage, ReplyMessage}
use Rattle.plain_service.specs.Plain.{Served}
use Rattle.mk_paths.specs.World.{World}
use Rattle.ports_core.specs.Answers.{AnswersRequest, plain_request_of, plain_answer}
use Rattle.ports_core.specs.Tell.{is_failure}
use Rattle.ports_core.specs.Plainly.{answers_of, own_of, plain_run, plain_world}
use Rattle.plain_service.proofs.NeverFails.{never_503}

-- the replies told answer the first of the requests that wait, one for one; the others wait still
abbrev pub Serves : World → List QueuedRequest → List Tell → World → List QueuedRequest → Type 0
Serves world queued_requests [] last rest = (last ≡ world) × (rest ≡ queued_requests)
Serves world [] (tell ∷ tells) last rest = ⊥
Serves world (queued_request ∷ queued_requests) (tell ∷ tells) last rest =
    (mid : World) × (tell.conn ≡ queued_request.conn) × AnswersRequest world queued_request.request tell.reply mid
    × Serves mid queued_requests tells last rest

-- the plain service fails nothing
pub answer-fine : (world : World) (request : RequestMessage) (reply : ReplyMessage) (after : World)
    → plain_answer world request ≡ (reply, after) → is_failure reply.status ≡ false
answer-fine world request reply after plainly = sym (ap (λ (a : Served). is_failure a.0.status) plainly)
    ∙ never_503 world (plain_request_of request)

-- What was told, and what the plain service would tell to those that wait, is what it would tell to the own list.
pub told_plainly : (world : World) (queued_requests : List QueuedRequest) (tells : List Tell) (last : World) (rest : List QueuedRequest)
    → Serves world queued_requests tells last rest
    → answers_of tells ++ plain_run last rest ≡ plain_run world (own_of queued_requests tells)
told_plainly world [] [] last rest serves = ap (λ f. plain_run f rest) serves.0 ∙ ap (plain_run world) serves.1
told_plainly world (queued_request ∷ queued_requests) [] last rest serves = ap (λ f. plain_run f rest) serves.0
    ∙ ap (plain_run world) serves.1
told_plainly world [] (tell ∷ tells) last rest serves = absurd serves
told_plainly world (queued_request ∷ queued_requests) (tell ∷ tells) last rest (mid, conn_is, inl plainly, serves) =
    let fine : is_failure tell.reply.status ≡ false = answer-fine world queued_request.request tell.reply mid plainly in
    let P : Bool → Type 0 = λ b. (if b then answers_of tells else (tell.conn, tell.reply) ∷ answers_of tells) ++ plain_run last rest ≡
    plain_run world (if b then own_of queued_requests tells else queued_request ∷ own_of queued_requests tells) in
    let both : P false =
    ap (λ xs. (tell.conn, tell.reply) ∷ xs) (told_plainly mid queued_requests tells last rest serves)
    ∙ ap (λ (a : Served). (tell.conn, a.0) ∷ plain_run a.1 (own_of queued_requests tells)) (sym plainly)
    ∙ ap (λ c. (c, (plain_answer world queued_request.request).0) ∷ plain_run (plain_answer world queued_request.request).1
    (own_of queued_requests tells)) conn_is in
    subst P (sym fine) both
told_plainly world (queued_request ∷ queued_requests) (tell ∷ tells) last rest (mid, conn_is, inr failed, serves) =
    let failure : is_failure tell.reply.status ≡ true = ap (λ r. is_failure r.status) failed.0 in
    let P : Bool → Type 0 = λ b. (if b then answers_of tells else (tell.conn, tell.reply) ∷ answers_of tells) ++ plain_run last rest ≡
    plain_run world (if b then own_of queued_requests tells else queued_request ∷ own_of queued_requests tells) in
    let both : P true = told_plainly mid queued_requests tells last rest serves
    ∙ ap (λ f. plain_run f (own_of queued_requests tells)) failed.1 in
    subst P (sym failure) both

-- the requests that were answered other than by 503
pub record IsAnsweredPlainly (world : World) (queued_requests : List QueuedRequest) (tells : List Tell) (last : World)
    (rest : List QueuedRequest) : Type 0 where
  pub answered : List QueuedRequest
  pub own : own_of queued_requests tells ≡ answered ++ rest
  pub own_on : (more : List QueuedRequest) (later : List Tell) → own_of (queued_requests ++ more) (tells ++ later) ≡ answered ++
      own_of (rest ++ more) later
  pub replies : answers_of tells ≡ plain_run world answered
  pub world_is : last ≡ plain_world world answered

pub answered_plainly : (world : World) (queued_requests : List QueuedRequest) (tells : List Tell) (last : World) (rest : List QueuedRequest)
    → Serves world queued_requests tells last rest
    → IsAnsweredPlainly world queued_requests tells last rest
answered_plainly world [] [] last rest serves =
    record {
      answered = [];
      own = sym serves.1;
      own_on = λ more later. ap (λ ws. own_of (ws ++ more) later) (sym serves.1);
      replies =
          refl;
      world_is = serves.0;
    }
answered_plainly world (queued_request ∷ queued_requests) [] last rest serves =
    record {
      answered = [];
      own = sym serves.1;
      own_on = λ more later. ap (λ ws. own_of (ws ++ more) later) (sym serves.1);
      replies =
          refl;
      world_is = serves.0;
    }
answered_plainly world [] (tell ∷ tells) last rest serves = absurd serves
answered_plainly world (queued_request ∷ queued_requests) (tell ∷ tells) last rest (mid, conn_is, inl plainly, serves) =
    let fine : is_failure tell.reply.status ≡ false = answer-fine world queued_request.request tell.reply mid plainly in
    let more = answered_plainly mid queued_requests tells last rest serves in
    record {
      answered = queued_request ∷ more.answered;
      own = ap (λ b. if b then own_of queued_requests tells else queued_request ∷ own_of queued_requests tells) fine
          ∙ ap (λ ws. queued_request ∷ ws) more.own;
      own_on = λ further later. ap (λ b. if b then own_of (queued_requests ++ further) (tells ++ later) else queued_request ∷ own_of
          (queued_requests ++ further) (tells ++ later)) fine ∙ ap (λ ws. queued_request ∷ ws) (more.own_on further later);
      replies = ap (λ b. if b then answers_of tells else (tell.conn, tell.reply) ∷ answers_of tells) fine
          ∙ ap (λ xs. (tell.conn, tell.reply) ∷ xs) more.replies
          ∙ ap (λ (a : Served). (tell.conn, a.0) ∷ plain_run a.1 more.answered) (sym plainly)
          ∙ ap (λ c. (c, (plain_answer world queued_request.request).0) ∷ plain_run
          (plain_answer world queued_request.request).1 more.answered) conn_is;
      world_is = more.world_is ∙ ap (λ (a : Served). plain_world a.1 more.answered) (sym plainly);
    }
answered_plainly world (queued_request ∷ queued_requests) (tell ∷ tells) last rest (mid, conn_is, inr failed, serves) =
    let failure : is_failure tell.reply.status ≡ true = ap (λ r. is_failure r.status) failed.0 in
    let more = answered_plainly mid queued_requests tells last rest serves in
    record {
      answered = more.answered;
      own = ap (λ b. if b then own_of queued_requests tells else queued_request ∷ own_of queued_requests tells) failure ∙ more.own;
      own_on = λ further later. ap (λ b. if b then own_of (queued_requests ++ further) (tells ++ later) else queued_request ∷ own_of
          (queued_requests ++ further) (tells ++ later)) failure ∙ more.own_on further later;
      replies = ap (λ b. if b then answers_of tells else (tell.conn, tell.reply) ∷ answers_of tells) failure ∙ more.replies
          ∙ ap (λ f. plain_run f more.answered) failed.1;
      world_is = more.world_is ∙ ap (λ f. plain_world f more.answered) failed.1;
    }
