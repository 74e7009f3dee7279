-- What a contract sees of a `Conn`, and what is true of its fields.
use Rattle.std.specs.Prelude.{◌+◌, ◌≤◌, drop, vec_len, vec_capacity}
use Rattle.ports_http.specs.declared.conn.Conn.TheInside.{Inside}
use Rattle.ports_http.specs.UnreadBytes.{Incoming}
use Rattle.ports_http.specs.Spans.{IsMissing}
use Rattle.ports_http.specs.Limits.{unread_limit}

-- the unread bytes, and whether the stream is over
abbrev pub conn_view : Inside → Incoming
conn_view c = record { unread = drop c.start c.buffer.items; over = c.over }

-- the unread bytes are within their limit, and all that may come fits in what is reserved
pub record IsConn (c : Inside) : Type 0 where
  pub start : c.start ≤ vec_len c.buffer
  pub held : vec_len c.buffer ≤ c.start + unread_limit
  pub missing : IsMissing (drop c.start c.buffer.items) c.missing
  pub reserved : unread_limit + unread_limit ≤ vec_capacity c.buffer
