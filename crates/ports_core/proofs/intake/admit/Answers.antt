use Rattle.std.proofs.Common.{[], ◌∷◌, ◌++◌, length, ap, sym, ◌∙◌, refl, arith}
use Rattle.std.proofs.lemmas.Option.{slice_get_read}
use Rattle.ports_http.specs.Messages.{RequestMessage}
use Rattle.ports_core.specs.Keys.{key_texts, tenant_of}
use Rattle.ports_core.specs.Slices.{Queue}
use Rattle.ports_core.proofs.TakingLemmas.{joins_at}
use Rattle.ports_core.proofs.intake.admit.Goals as goal

-- the request joins its tenant's queue
pub returns-clause-queues : goal.returns-clause-queues
returns-clause-queues c =
    joins_at (key_texts c.args.keys.now) c.args.conn c.args.queues.now c.args.request c.in-Some.place
    c.index-queues-place.result c.join.new.self
    (ap (λ (r : RequestMessage). tenant_of (key_texts c.args.keys.now) r.key) (sym c.request.view_is) ∙ sym c.in-Some.ensures.place)
    (omega (arith, c.in-Some.ensures.within, c.requires.keyed))
    (slice_get_read c.args.queues.now (length c.args.queues.now) c.in-Some.place c.index-queues-place.result refl
    (omega (arith, c.in-Some.ensures.within, c.requires.keyed)) c.index-queues-place.is)
    (c.join.ensures ∙ ap (λ (queue : Queue). queue ++ record { conn = c.args.conn; request = c.args.request } ∷ [])
    (sym c.index-queues-place.is))
