-- The parameters of a query (URL Standard, application/x-www-form-urlencoded).
use Rattle.std.specs.Prelude.{ℕ, if◌then◌else◌, List, [], ◌∷◌, Option, Some, None, filter_map}
use Rattle.std.specs.Str.{bytes_eq}
use Rattle.std.specs.Str.Lossy.{utf8_lossy}
use Rattle.form_urlencoded.specs.Form.{raw_pairs, decode}

-- the text that a name or a value of a form encodes: `+` is a blank, `%` and two digits are a byte, and
-- what is no UTF-8 becomes U+FFFD
abbrev pub decoded : List ℕ → List ℕ
decoded written = utf8_lossy (decode written)

-- the value of a pair, if the pair has this name
abbrev pub value_under : List ℕ → List ℕ × List ℕ → Option (List ℕ)
value_under name pair = if bytes_eq (decoded pair.0) name then Some (decoded pair.1) else None

-- the values that a query has under a name, in their order
abbrev pub values_under : List ℕ → List ℕ → List (List ℕ)
values_under name query = filter_map (value_under name) (raw_pairs query)

-- how often a query has a parameter: never, once with its value, or more often
pub data Times : Type 0 where
  Never : Times
  Once : List ℕ → Times
  Often : Times

abbrev pub times : List (List ℕ) → Times
times [] = Never
times (value ∷ []) = Once value
times (value ∷ other ∷ more) = Often

-- a parameter that must be there: its value, if it is there once and isn't empty
abbrev pub required : Times → Option (List ℕ)
required (Once (first ∷ rest)) = Some (first ∷ rest)
required (Once []) = None
required Never = None
required Often = None

-- a parameter that may be left out: its value, if it isn't there more than once; it
-- is empty if it isn't there
abbrev pub allowed : Times → Option (List ℕ)
allowed Never = Some []
allowed (Once value) = Some value
allowed Often = None

-- the parameter of this name: one that must be there, and one that may be left out
abbrev pub parameter : List ℕ → List ℕ → Option (List ℕ)
parameter name query = required (times (values_under name query))

abbrev pub optional : List ℕ → List ℕ → Option (List ℕ)
optional name query = allowed (times (values_under name query))
