use Rattle.std.proofs.Common.{◌≤◌, ◌∙◌, ap, length, arith, sym, subst}
use Rattle.ports_http.specs.UnreadBytes.{fed, room_of}
use Rattle.ports_http.proofs.ConnLemmas.{fed_within, unread_held, fed_view, fed_ok}
use Rattle.ports_http.proofs.conn.Conn.feed.Goals as goal

pub make_room-self-inside-requires-clause-fits : goal.make_room-self-inside-requires-clause-fits
make_room-self-inside-requires-clause-fits c =
    let fits = subst (λ v. length c.args.bytes.now ≤ room_of v) (sym c.self.view_is) c.requires in
    omega (
      arith,
      fed_within c.self.inside (length c.args.bytes.now) c.self.invariant fits,
      unread_held c.self.inside c.self.invariant,
      c.self.invariant.reserved,
    )

pub invariant_of-self : goal.invariant_of-self
invariant_of-self c =
    let fits = subst (λ v. length c.args.bytes.now ≤ room_of v) (sym c.self.view_is) c.requires in
    let items = rw c.unwrap.ensures at c.extend_from_slice.ensures.items in
    fed_ok c.self.inside c.make_room-self-inside.new.buffer c.extend_from_slice.new.self c.make_room-self-inside.result
    c.saturating_sub-self-inside.result c.args.bytes.now c.self.invariant
    fits c.make_room-self-inside.ensures.start c.make_room-self-inside.ensures.kept items
    (omega (arith, c.make_room-self-inside.ensures.room, c.extend_from_slice.ensures.capacity)) c.saturating_sub-self-inside.ensures

pub returns : goal.returns
returns c =
    let items = rw c.unwrap.ensures at c.extend_from_slice.ensures.items in
    fed_view c.self.inside c.make_room-self-inside.new.buffer c.extend_from_slice.new.self c.make_room-self-inside.result
    c.saturating_sub-self-inside.result c.args.bytes.now
    c.make_room-self-inside.ensures.start c.make_room-self-inside.ensures.kept items
    ∙ ap (λ v. fed v c.args.bytes.now) c.self.view_is
