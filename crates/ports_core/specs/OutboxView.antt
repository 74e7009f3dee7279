-- What a contract sees of an `Outbox`, and what is true of its fields.
use Rattle.std.specs.Prelude.{ℕ, ◌≤◌, List, length, drop, Option, Some, None, Vec, vec_capacity}
use Rattle.ports_http.specs.Limits.{fixed_limit}
use Rattle.ports_core.specs.declared.outbox.Outbox.TheInside.{Inside}

-- the bytes of the reply: its own, or those of the fixed one
abbrev pub reply_bytes : {Z : Type 0} → Option (Vec ℕ Z) → Vec ℕ Z → List ℕ
reply_bytes None fixed = fixed.items
reply_bytes (Some own) fixed = own.items

-- those of them that aren't written yet
abbrev pub unwritten : Inside → List ℕ
unwritten o = drop o.written (reply_bytes o.own o.fixed)

-- no more is written than there is, and a fixed reply has room
pub record IsOutbox (o : Inside) : Type 0 where
  pub written : o.written ≤ length (reply_bytes o.own o.fixed)
  pub room : fixed_limit ≤ vec_capacity o.fixed
