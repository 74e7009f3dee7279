-- Modifiers as clauses see them: their texts as bytes.
use Rattle.std.specs.Prelude.{ℕ, Bool, List, [], ◌∷◌, map, string_bytes}
use Rattle.std.specs.List.{flat_map}
use Rattle.mk_mods.specs.declared.modifiers.Part.{Part}
use Rattle.mk_mods.specs.declared.modifiers.Part.TheVariants as parts
use Rattle.mk_mods.specs.declared.modifiers.Substitution.{Substitution}
use Rattle.mk_mods.specs.declared.modifiers.Modifier.{Modifier}
use Rattle.mk_mods.specs.declared.modifiers.Modifier.TheVariants as modifiers
use Rattle.mk_mods.specs.declared.modifiers.WordMap.{WordMap}

-- what a text of `:S` is made of: bytes that mean themselves, the whole old text, and references by their
-- source
pub data Symbol : Type 0 where
  Byte : ℕ → Symbol
  Whole : Symbol
  Reference : List ℕ → Symbol

-- what `:S` puts in place of what
pub record Replacement : Type 0 where
  pub old : List Symbol
  pub new : List Symbol
  pub starts : Bool
  pub ends : Bool
  pub every : Bool
  pub once : Bool

-- what a modifier does; `Suffix` has the text that words end in, and the text that is put there
pub data Action : Type 0 where
  Match : List ℕ → Action
  Exclude : List ℕ → Action
  Substitute : Replacement → Action
  Change : WordMap → Action
  Suffix : List ℕ → List ℕ → Action

-- the symbols of a part: a text is a row of bytes
abbrev pub symbols_of : Part → List Symbol
symbols_of (parts.Text text) = map Byte (string_bytes text)
symbols_of parts.Whole = Whole ∷ []
symbols_of (parts.Reference source) = Reference (string_bytes source) ∷ []

abbrev pub replacement_of : Substitution → Replacement
replacement_of s = record {
  old = flat_map symbols_of s.old.items;
  new = flat_map symbols_of s.new.items;
  starts = s.starts;
  ends = s.ends;
  every = s.every;
  once = s.once;
}

abbrev pub action_of : Modifier → Action
action_of (modifiers.Match pattern) = Match (string_bytes pattern)
action_of (modifiers.Exclude pattern) = Exclude (string_bytes pattern)
action_of (modifiers.Substitute substitution) = Substitute (replacement_of substitution)
action_of (modifiers.Change word_map) = Change word_map
action_of (modifiers.Suffix old new) = Suffix (string_bytes old) (string_bytes new)

-- a symbol that is no reference
abbrev pub IsPlain : Symbol → Type 0
IsPlain (Byte b) = Unit {0}
IsPlain Whole = Unit {0}
IsPlain (Reference source) = ⊥

-- symbols without a reference
abbrev pub AllPlain : List Symbol → Type 0
AllPlain [] = Unit {0}
AllPlain (symbol ∷ symbols) = IsPlain symbol × AllPlain symbols

-- a modifier in which no reference is left
abbrev pub IsExpanded : Action → Type 0
IsExpanded (Match pattern) = Unit {0}
IsExpanded (Exclude pattern) = Unit {0}
IsExpanded (Substitute s) = AllPlain s.old × AllPlain s.new
IsExpanded (Change word_map) = Unit {0}
IsExpanded (Suffix old new) = Unit {0}
