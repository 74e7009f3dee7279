use Rattle.std.proofs.Common.{sym, ◌∙◌, ap, refl, subst, Err}
use Rattle.ports_http.specs.UnreadBytes.{Incoming, Removes, TakesOrLoses}
use Rattle.ports_http.specs.Streams.{Refuses}
use Rattle.ports_http.specs.Spans.{IsMissing}
use Rattle.ports_http.proofs.ConnLemmas.{slice_from, removes, waits_unless_over}
use Rattle.ports_http.proofs.conn.Conn.next_request.Goals as goal

pub returns-in-Ok : goal.returns-in-Ok
returns-in-Ok c =
    let unread = ap (λ (v : Incoming). v.unread) (sym c.self.view_is)
    ∙ sym (slice_from c.deref.result.now c.self.inside.buffer.items c.self.inside.start c.deref.ensures.value) in
    let begun = ap (λ (v : Incoming). v.over) (sym c.self.view_is) ∙ c.if-self.false in
    subst (λ r. Removes c.args.self.now r c.pass.new.self) (sym c.in-Ok.ensures)
    (removes c.args.self.now c.pass.new.self _ _ c.in-Ready.whole.body.end begun unread c.in-Ready.ensures.0 c.pass.ensures)

pub returns-in-Err : goal.returns-in-Err
returns-in-Err c =
    let unread = ap (λ (v : Incoming). v.unread) (sym c.self.view_is)
    ∙ sym (slice_from c.deref.result.now c.self.inside.buffer.items c.self.inside.start c.deref.ensures.value) in
    let begun = ap (λ (v : Incoming). v.over) (sym c.self.view_is) ∙ c.if-self.false in
    subst (λ e. TakesOrLoses c.args.self.now (Err e) c.pass.new.self) (sym c.lost.ensures) (
      _,
      removes c.args.self.now c.pass.new.self _ _ c.in-Ready.whole.body.end begun unread c.in-Ready.ensures.0 c.pass.ensures,
      refl,
    )

pub invariant_of-self : goal.invariant_of-self
invariant_of-self c =
    let same = slice_from c.deref.result.now c.self.inside.buffer.items c.self.inside.start c.deref.ensures.value in
    record {
      start = c.self.invariant.start;
      held = c.self.invariant.held;
      missing = subst (λ s. IsMissing s c.in-Waiting.missing) same c.in-Waiting.ensures.1;
      reserved = c.self.invariant.reserved;
    }

pub returns-in-Waiting : goal.returns-in-Waiting
returns-in-Waiting c =
    let unread = ap (λ (v : Incoming). v.unread) (sym c.self.view_is)
    ∙ sym (slice_from c.deref.result.now c.self.inside.buffer.items c.self.inside.start c.deref.ensures.value) in
    let begun = ap (λ (v : Incoming). v.over) (sym c.self.view_is) ∙ c.if-self.false in
    (c.self.view_is, waits_unless_over c.args.self.now _ begun unread c.in-Waiting.ensures.0)

pub returns-in-Refused : goal.returns-in-Refused
returns-in-Refused c =
    let unread = ap (λ (v : Incoming). v.unread) (sym c.self.view_is)
    ∙ sym (slice_from c.deref.result.now c.self.inside.buffer.items c.self.inside.start c.deref.ensures.value) in
    let begun = ap (λ (v : Incoming). v.over) (sym c.self.view_is) ∙ c.if-self.false in
    (begun, subst (λ s. Refuses s c.in-Refused.fault) (sym unread) c.in-Refused.ensures, c.close.ensures)
