-- The path and the query of a request's target (RFC 9112, 3.2).
use Rattle.std.specs.Prelude.{ℕ, ◌==◌, nat_eq, if◌then◌else◌, Bool, List, ◌∷◌, drop, length, codes}
use Rattle.std.specs.List.{starts_with, before_first, after_first}
use Rattle.general_facts.specs.Ascii.{slash, question_mark}

abbrev pub is_slash : ℕ → Bool
is_slash byte = byte == slash

abbrev pub is_question_mark : ℕ → Bool
is_question_mark byte = byte == question_mark

-- what comes before the host of a target in absolute form
abbrev pub scheme : List ℕ
scheme = codes "http://"

-- the target without scheme and host: a slash, and what follows the first slash after the scheme
abbrev pub local_part : List ℕ → List ℕ
local_part target = if starts_with nat_eq target scheme then slash ∷ after_first is_slash (drop (length scheme) target) else target

-- the path is what precedes the first question mark, as it is written
abbrev pub path_of_target : List ℕ → List ℕ
path_of_target target = before_first is_question_mark (local_part target)

-- the query is what follows that mark, and is empty if there is none
abbrev pub query_of : List ℕ → List ℕ
query_of target = after_first is_question_mark (local_part target)
