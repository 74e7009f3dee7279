-- What a modifier makes of a value (make(1), "VARIABLES"): of its words, which are joined again.
use Rattle.std.specs.Prelude.{ℕ, Bool, not, List, [], filter, map, Option, Some, option_map, true, false, if◌then◌else◌}
use Rattle.std.specs.Option.{option_and_then}
use Rattle.mk_text.specs.Words.{words_of}
use Rattle.mk_glob.specs.Matcher.{fits}
use Rattle.mk_mods.specs.Joined.{joined, within_limit}
use Rattle.mk_mods.specs.WordChanges.{word_change, with_suffix}
use Rattle.mk_mods.specs.Actions.{Action, Match, Exclude, Substitute, Change, Suffix, Replacement}
use Rattle.mk_mods.specs.Substituted.{text_of, substituted}

-- whether a word is kept, by whether it fits: `:M` keeps one that fits, and `:N` one that doesn't
abbrev pub keeps_word : Bool → Bool → Bool
keeps_word matching is = if matching then is else not is

-- first the old text, then the new one in which `&` means the old one, each within the limit; and then the
-- words with the new text in place of the old one
abbrev pub words_substituted : Replacement → List (List ℕ) → Option (List (List ℕ))
words_substituted s words =
    option_and_then (λ old. option_map (λ new. substituted s old new words) (within_limit (text_of old s.new)))
    (within_limit (text_of [] s.old))

-- what a modifier makes of words: `:M` and `:N` are filters, the others maps
abbrev pub words_changed : Action → List (List ℕ) → Option (List (List ℕ))
words_changed (Match pattern) words = Some (filter (λ word. keeps_word true (fits pattern word)) words)
words_changed (Exclude pattern) words = Some (filter (λ word. keeps_word false (fits pattern word)) words)
words_changed (Substitute s) words = words_substituted s words
words_changed (Change word_map) words = Some (map (word_change word_map) words)
words_changed (Suffix old new) words = Some (map (with_suffix old new) words)

-- what a modifier makes of a value; None if a text would be too long
unfoldable pub applied : Action → List ℕ → Option (List ℕ)
applied action value = option_and_then (λ words. within_limit (joined words)) (words_changed action (words_of value))
