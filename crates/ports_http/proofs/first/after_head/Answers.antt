use Rattle.std.proofs.Common.{sym}
use Rattle.ports_http.proofs.StreamLemmas.{ready_request, ready_within, missing_body}
use Rattle.ports_http.proofs.first.after_head.Goals as goal

pub returns : goal.returns
returns c =
    let covers = c.requires.1 in
    let says = rw (c.of-word.ensures, c.in-Ok.is) at (sym c.announced.ensures) in (
      ready_request c.args.unread.now c.args.spans.now c.args.fields.now c.requires.0 c.in-Ok.told.0 c.in-Ok.told.1
          c.key_of.result c.closes.result covers says c.if-come-length.false c.key_of.ensures.value c.closes.ensures,
      ready_within c.args.unread.now c.args.spans.now c.args.fields.now c.requires.0 c.in-Ok.told.0 c.in-Ok.told.1
          c.key_of.result c.closes.result covers c.if-come-length.false c.key_of.ensures.within,
    )

pub returns-then-come-length : goal.returns-then-come-length
returns-then-come-length c =
    let says = rw (c.of-word.ensures, c.in-Ok.is) at (sym c.announced.ensures) in
    missing_body c.args.unread.now c.args.spans.now c.args.fields.now c.requires.0 c.in-Ok.told.0 c.in-Ok.told.1 c.requires.1
    says c.if-come-length.true
