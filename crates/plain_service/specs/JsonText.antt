-- What is added to a JSON text as it is written, in tokens.
use Rattle.std.specs.Prelude.{◌≡◌, ℕ, List, [], ◌∷◌, ◌++◌, map, flat_map, Result, OnOk}
use Rattle.std.specs.Borrow.{Bor}
use Rattle.json.specs.Token.{Token, begin_object, begin_array, key}
use Rattle.json.specs.Tree.{json_tokens}
use Rattle.json.specs.Written.{Written}
use Rattle.serde_json.specs.Data.{Data, string, number, unsigned, array, object, Members, no_members, member}
use Rattle.serde_json.specs.View.{items_of}
use Rattle.serde_json.specs.Written.{outline}
use Rattle.plain_service.specs.declared.json_text.Scalar.{Scalar}
use Rattle.plain_service.specs.declared.json_text.Scalar.TheVariants.{Number, Text}

-- the tokens of a value
abbrev pub value_tokens : Data → List Token
value_tokens value = json_tokens (outline value)

-- to what was written, these tokens are added
pub record AddsTokens (old new : Written) (more : List Token) : Type 0 where
  pub start : new.before ≡ old.before
  pub grown : new.tokens ≡ old.tokens ++ more

-- to what was written, a value is added
abbrev pub AddsValue : Written → Written → Data → Type 0
AddsValue old new value = AddsTokens old new (value_tokens value)

-- to what was written, these items of a list are added
abbrev pub AddsItems : Written → Written → List Data → Type 0
AddsItems old new items = AddsTokens old new (flat_map value_tokens items)

-- the value that a scalar is
abbrev pub scalar_value : Scalar → Data
scalar_value (Number value) = number (unsigned value)
scalar_value (Text text) = string text.now

-- the members with these names and values
abbrev pub members_of : List (Bor (List ℕ) × Scalar) → Members
members_of [] = no_members
members_of (first ∷ others) = member first.0.now (scalar_value first.1) (members_of others)

-- so far the text is an object with one member, a list, which has these items
pub record HasItems (text : Written) (name : List ℕ) (items : List Data) : Type 0 where
  pub start : text.before ≡ []
  pub so_far : text.tokens ≡ (begin_object ∷ key name ∷ begin_array ∷ []) ++ flat_map value_tokens items

-- a member of an object: its name and its value
abbrev pub Member : Type 0
Member = List ℕ × Data

-- the tokens of a member
abbrev pub tokens_of_member : Member → List Token
tokens_of_member one = key one.0 ∷ value_tokens one.1

-- to what was written, a member is added
abbrev pub AddsMember : Written → Written → List ℕ → Data → Type 0
AddsMember old new name value = AddsTokens old new (tokens_of_member (name, value))

-- where a function succeeds, it adds a member of this name, which is the list of these items
abbrev pub AddsList : {A R E : Type 0} → Result R E → Written → List ℕ → (A → Data) → List A → Written → Type 0
AddsList result old name body items new = OnOk result (AddsMember old new name (array (items_of (map body items))))

-- so far the text is an object that isn't ended, which has these members
pub record HasMembers (text : Written) (members : List Member) : Type 0 where
  pub start : text.before ≡ []
  pub so_far : text.tokens ≡ begin_object ∷ flat_map tokens_of_member members

-- these members
abbrev pub in_object : List Member → Members
in_object [] = no_members
in_object (first ∷ others) = member first.0 first.1 (in_object others)

-- the object of these members
abbrev pub object_of : List Member → Data
object_of members = object (in_object members)
