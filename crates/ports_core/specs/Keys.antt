-- The keys by which requests name their tenants.
use Rattle.std.specs.Prelude.{ℕ, Bool, true, ◌&&◌, nat_le, not, List, [], ◌∷◌, length, map, Option, Some, None, bytes_eq, position, String}
use Rattle.std.specs.List.{list_all, list_any}
use Rattle.std.specs.String.{string_bytes}
use Rattle.general_facts.specs.Ascii.{bang, tilde}
use Rattle.ports_core.specs.declared.keys.Config.{Config}

-- printable ASCII that isn't a blank
abbrev pub is_key_byte : ℕ → Bool
is_key_byte byte = nat_le bang byte && nat_le byte tilde

-- a number of keys, or of bytes of a key, that is allowed
abbrev pub is_count : ℕ → Bool
is_count n = nat_le 1 n && nat_le n 64

-- a text that can be a key: 1 to 64 such bytes
abbrev pub is_key : List ℕ → Bool
is_key key = is_count (length key) && list_all is_key_byte key

-- no key is there twice
unfoldable pub are_apart : List (List ℕ) → Bool
are_apart [] = true
are_apart (key ∷ keys) = not (list_any (λ other. bytes_eq other key) keys) && are_apart keys

-- a size that a cache may have
abbrev pub is_size : ℕ → Bool
is_size size = nat_le 1 size && nat_le size 65536

-- the keys of a service: 1 to 64, none of them twice
abbrev pub are_keys : List (List ℕ) → Bool
are_keys keys = is_count (length keys) && list_all is_key keys && are_apart keys

-- the texts of the keys
abbrev pub key_texts : {Z : Type 0} → List (String Z) → List (List ℕ)
key_texts keys = map string_bytes keys

-- a service can begin with these keys and sizes
abbrev pub is_fit : Config → Bool
is_fit config = is_size config.parses && is_size config.evals && are_keys (key_texts config.keys.items)

-- the tenant whose key a request has: the place of the key among the keys
abbrev pub tenant_of : List (List ℕ) → Option (List ℕ) → Option ℕ
tenant_of keys None = None
tenant_of keys (Some key) = position (λ known. bytes_eq known key) keys
