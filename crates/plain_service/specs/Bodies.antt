-- The bodies of replies: JSON values, the members of an object in the order of
-- their names' bytes (RFC 8259).
use Rattle.std.specs.Prelude.{ℕ, true, List, [], Option, is_some, unwrap_or, codes}
use Rattle.serde_json.specs.Data.{Data, boolean, number, unsigned, string, object, no_members, member}

-- `{"stored":true}`
abbrev pub stored_body : Data
stored_body = object (member (codes "stored") (boolean true) no_members)

-- `{"removed":true}`
abbrev pub removed_body : Data
removed_body = object (member (codes "removed") (boolean true) no_members)

-- a search path, as it is written
abbrev pub path_body : List ℕ → Data
path_body path = object (member (codes "path") (string path) no_members)

-- a profile, by its number
abbrev pub profile_body : ℕ → Data
profile_body profile = object (member (codes "profile") (number (unsigned profile)) no_members)

-- a refusal, by its word
abbrev pub error_body : List ℕ → Data
error_body word = object (member (codes "error") (string word) no_members)

-- a fault of a makefile: the number of its kind, and the line and the file where it arose
abbrev pub fault_body : ℕ → ℕ → List ℕ → Data
fault_body kind line name =
    object (member (codes "error") (string (codes "Fault"))
    (member (codes "kind") (number (unsigned kind))
    (member (codes "line") (number (unsigned line))
    (member (codes "name") (string name) no_members))))

-- a variable: whether it is defined, and its value, which is the empty text if it isn't
abbrev pub variable_body : Option (List ℕ) → Data
variable_body value =
    object (member (codes "defined") (boolean (is_some value))
    (member (codes "value") (string (unwrap_or value [])) no_members))
