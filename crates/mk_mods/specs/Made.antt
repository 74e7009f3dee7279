-- What functions give that make texts: the text, or why there is none. If they fail, memory may have run out, and
-- that says nothing about the text.
use Rattle.std.specs.Prelude.{◌≡◌, ◌≤◌, ℕ, zero, Bool, List, ◌++◌, length, filter, map, Option, Some, option_map, Result}
use Rattle.std.specs.Prelude.{IfOk, IfErr, String, string_bytes}
use Rattle.std.specs.declared.alloc.Global.{Global}
use Rattle.std.specs.Option.{option_and_then}
use Rattle.mk_text.specs.Words.{words_of}
use Rattle.mk_text.specs.declared.limits.TheConstants.{TEXT_LIMIT}
use Rattle.mk_text.specs.declared.limits.TextFault.{TextFault}
use Rattle.mk_text.specs.TextLimit.{IsTooLong}
use Rattle.mk_glob.specs.Matcher.{fits}
use Rattle.mk_mods.specs.declared.modifiers.Substitution.{Substitution}
use Rattle.mk_mods.specs.declared.word_maps.WordChange.{WordChange}
use Rattle.mk_mods.specs.Actions.{replacement_of}
use Rattle.mk_mods.specs.Joined.{joined, within_limit, with_word, IsMadeText, IsUnmade, IsOverlong}
use Rattle.mk_mods.specs.Substituted.{replaced, substituted, all_replaced}
use Rattle.mk_mods.specs.Applied.{keeps_word, words_substituted}
use Rattle.mk_mods.specs.Views.{changed_word}

-- if it succeeds, it made this text, which isn't too long
abbrev pub MakesText : {F : Type 0} → Result (String Global) F → List ℕ → Type 0
MakesText result text = IfOk result (IsMadeText text)

-- if it fails, this text is too long
abbrev pub FailsTooLong : {R : Type 0} → Result R TextFault → List ℕ → Type 0
FailsTooLong result text = IfErr result (IsTooLong text)

-- if it succeeds, there is this value, and it made that
abbrev pub MakesValue : {F : Type 0} → Result (String Global) F → Option (List ℕ) → Type 0
MakesValue result value = IfOk result (λ made. value ≡ Some (string_bytes made))

-- if it fails, there is no value within the limit
abbrev pub FailsUnmade : {R : Type 0} → Result R TextFault → Option (List ℕ) → Type 0
FailsUnmade result value = IfErr result (IsUnmade value)

-- if it succeeds, it made this word, or there is none because the word given doesn't match
abbrev pub MakesWord : {F : Type 0} → Result (Option (String Global)) F → Option (List ℕ) → Type 0
MakesWord result word = IfOk result (λ made. word ≡ option_map string_bytes made)

-- if it fails, there is this word, and it is too long
abbrev pub FailsOverlong : {R : Type 0} → Result R TextFault → Option (List ℕ) → Type 0
FailsOverlong result word = IfErr result (IsOverlong word)

-- if it succeeds, it added this word to the words that are joined, and the whole isn't too long
abbrev pub AddsWord : {R F : Type 0} → Result R F → String Global → String Global → List ℕ → Type 0
AddsWord result before after word =
    IfOk result (λ _. (length (string_bytes after) ≤ TEXT_LIMIT) × (string_bytes after ≡ with_word (string_bytes before) word))

-- if it fails, the words that are joined are too long with this one added
abbrev pub FailsToAdd : {R : Type 0} → Result R TextFault → String Global → List ℕ → Type 0
FailsToAdd result before word = IfErr result (IsTooLong (with_word (string_bytes before) word))

-- the words of a value that match a pattern, or those that don't
abbrev pub kept_words : Bool → List ℕ → List ℕ → List (List ℕ)
kept_words matching pattern value = filter (λ word. keeps_word matching (fits pattern word)) (words_of value)

-- what a change makes of each word of a value
abbrev pub changed_words : WordChange → List ℕ → List (List ℕ)
changed_words change value = map (changed_word change) (words_of value)

-- a word with the new text in place of the old one; None if it doesn't match
abbrev pub word_replaced : Substitution → List ℕ → List ℕ → List ℕ → Option (List ℕ)
word_replaced substitution old new word = replaced (replacement_of substitution) old new word

-- the words of a value with the new text in place of the old one, joined
abbrev pub words_replaced : Substitution → List ℕ → List ℕ → List ℕ → List ℕ
words_replaced substitution old new value = joined (substituted (replacement_of substitution) old new (words_of value))

-- the same, unless it is too long
abbrev pub value_replaced : Substitution → List ℕ → List ℕ → List ℕ → Option (List ℕ)
value_replaced substitution old new value = within_limit (words_replaced substitution old new value)

-- a word with the new text in place of each old one, of which the first is between these two parts
abbrev pub all_from_first : List ℕ → List ℕ → List ℕ → List ℕ → List ℕ
all_from_first old new front behind = front ++ (new ++ all_replaced old new zero behind)

-- what a substitution makes of a value; None if a text would be too long
abbrev pub value_substituted : Substitution → List ℕ → Option (List ℕ)
value_substituted substitution value =
    option_and_then (λ words. within_limit (joined words)) (words_substituted (replacement_of substitution) (words_of value))
