-- What a connection holds at most, in bytes, and the field lines of a head.
use Rattle.std.specs.Prelude.{ℕ}

-- the bytes of a request's head, with the empty lines before it
unfoldable pub head_limit : ℕ
head_limit = 8192

-- the field lines of a head
unfoldable pub field_limit : ℕ
field_limit = 32

-- the bytes of a body
unfoldable pub body_limit : ℕ
body_limit = 131072

-- the bytes that a connection holds unread: a greatest head and a greatest body
unfoldable pub unread_limit : ℕ
unread_limit = 139264

-- the bytes that a fixed reply takes at most
unfoldable pub fixed_limit : ℕ
fixed_limit = 256
