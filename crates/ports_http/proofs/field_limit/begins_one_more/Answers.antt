use Rattle.std.proofs.Common.{arith}
use Rattle.ports_http.proofs.OneMoreLemmas.{begins_when, open_after, nothing_begins, return_begins}
use Rattle.ports_http.proofs.field_limit.begins_one_more.Goals.{then-at-eq0-via-then-at-eq0, then-at-eq0-via-else-at-eq0+then-at-bytes}
use Rattle.ports_http.proofs.field_limit.begins_one_more.Goals.{then-at-eq0-via-else-at-eq0+else-at-bytes+then-bytes-at-eq13}
use Rattle.ports_http.proofs.field_limit.begins_one_more.Goals as goal

pub returns-then-at-eq0-clause-no : goal.returns-then-at-eq0-clause-no
returns-then-at-eq0-clause-no c = λ no one.
    let at = c.after_last_feed-at in
    let bytes = c.args.bytes.now in
    let after = open_after bytes at.result at.ensures.within at.ensures.feed at.ensures.last one in
    elim c.then-at-eq0.branch [
      | then-at-eq0-via-then-at-eq0 w ↦ absurd (omega (arith, w.if-at-eq0.true, after.0))
      | then-at-eq0-via-else-at-eq0+then-at-bytes w ↦ nothing_begins bytes at.result w.if-at-bytes.true after.2
      | then-at-eq0-via-else-at-eq0+else-at-bytes+then-bytes-at-eq13 w ↦
          return_begins bytes at.result (omega (arith, at.ensures.within, w.if-at-bytes.false)) w.if-bytes-at-eq13.true after.2
    ]

pub returns-clause-yes : goal.returns-clause-yes
returns-clause-yes c = λ is.
    let at = c.after_last_feed-at in
    begins_when c.args.bytes.now at.result (omega (arith, c.if-at-eq0.false))
    (omega (arith, at.ensures.within, c.if-at-bytes.false)) (at.ensures.feed (omega (arith, c.if-at-eq0.false))) at.ensures.last
    c.if-bytes-at-eq13.false (c.is_full_with_feed.ensures.yes is)

pub returns-clause-no : goal.returns-clause-no
returns-clause-no c = λ is one.
    let at = c.after_last_feed-at in
    c.is_full_with_feed.ensures.no is
    (open_after c.args.bytes.now at.result at.ensures.within at.ensures.feed at.ensures.last one).1
