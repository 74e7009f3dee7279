use Rattle.std.proofs.Common.{◌<◌, length, refl, sym, subst, inl, inr, arith}
use Rattle.std.proofs.lemmas.List.{take_all}
use Rattle.ports_http.specs.Limits.{head_limit}
use Rattle.ports_http.specs.Streams.{BeginsOneMore}
use Rattle.ports_http.proofs.StreamLemmas.{head_waits}
use Rattle.ports_http.proofs.first.before_head.Goals.{then-unread-ge-HEAD_LIMIT-via-then-unread-ge-HEAD_LIMIT}
use Rattle.ports_http.proofs.first.before_head.Goals.{then-unread-ge-HEAD_LIMIT-via-else-unread-ge-HEAD_LIMIT+then-begins_one_more}
use Rattle.ports_http.proofs.first.before_head.Goals as goal

pub begins_one_more-requires : goal.begins_one_more-requires
unfolding head_limit
begins_one_more-requires c = omega (arith, c.if-unread-ge-HEAD_LIMIT.false)

pub returns-then-unread-ge-HEAD_LIMIT : goal.returns-then-unread-ge-HEAD_LIMIT
unfolding head_limit
returns-then-unread-ge-HEAD_LIMIT c =
    elim c.then-unread-ge-HEAD_LIMIT.branch [
      | then-unread-ge-HEAD_LIMIT-via-then-unread-ge-HEAD_LIMIT w ↦
          inr (inl (refl, inl (omega (arith, w.if-unread-ge-HEAD_LIMIT.true), c.requires)))
      | then-unread-ge-HEAD_LIMIT-via-else-unread-ge-HEAD_LIMIT+then-begins_one_more w ↦
          let all = take_all 8192 c.args.unread.now (omega (arith, w.if-unread-ge-HEAD_LIMIT.false)) in
          inr (inl (refl, inr (inr (subst BeginsOneMore (sym all) (w.begins_one_more.ensures.yes w.if-begins_one_more.true)))))
    ]

pub returns : goal.returns
unfolding head_limit
returns c =
    let short : length c.args.unread.now < 8192 = omega (arith, c.if-unread-ge-HEAD_LIMIT.false) in
    (head_waits c.args.unread.now short c.requires (c.begins_one_more.ensures.no c.if-begins_one_more.false), inl refl)
