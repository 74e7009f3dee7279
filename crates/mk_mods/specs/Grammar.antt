-- The modifiers that a text reads as: one or more, with a colon between (make(1), "VARIABLES"). The profile
-- says whether `old=new` is one of them.
use Rattle.std.specs.Prelude.{ℕ, zero, suc, Bool, true, false, not, ◌==◌, ◌&&◌, ◌||◌, List, [], ◌∷◌, ◌++◌, length, Option}
use Rattle.std.specs.Prelude.{Some, None, option_map, if◌then◌else◌}
use Rattle.std.specs.List.{flat_map}
use Rattle.std.specs.Option.{option_and_then, option_or}
use Rattle.general_facts.specs.Ascii.{digit_one, colon, equals_sign, capital_e, capital_h, capital_l, capital_m}
use Rattle.general_facts.specs.Ascii.{capital_n, capital_r, capital_s, capital_t, capital_u, backslash, small_g}
use Rattle.mk_text.specs.declared.profile.Profile.{Profile}
use Rattle.mk_text.specs.declared.profile.Profile.TheVariants.{One, Two}
use Rattle.mk_mods.specs.declared.modifiers.WordMap.{WordMap}
use Rattle.mk_mods.specs.declared.modifiers.WordMap.TheVariants as maps
use Rattle.mk_mods.specs.Actions.{Action, Match, Exclude, Substitute, Change, Suffix, Replacement}
use Rattle.mk_mods.specs.Marks.{TextMark, Char, EscapedDollar, Written, marks_of, is_char, mark_source}
use Rattle.mk_mods.specs.Signs.{TextSign, signs_before, without_start, without_end, sign_symbols}

-- a mark before a pattern that was read
abbrev pub in_pattern : TextMark → List ℕ × List TextMark → List ℕ × List TextMark
in_pattern mark read = (mark_source mark ++ read.0, read.1)

-- A pattern, and what follows it. The pattern ends before the first colon outside references that has
-- no backslash directly before it. The first argument says whether there is one directly before the
-- marks.
abbrev pub pattern_from : Bool → List TextMark → List ℕ × List TextMark
pattern_from escaped [] = ([], [])
pattern_from escaped (mark ∷ marks) =
    if is_char colon mark && not escaped then ([], mark ∷ marks) else in_pattern mark (pattern_from (is_char backslash mark) marks)

-- the flags of `:S`, and what follows them
pub record Flags : Type 0 where
  pub every : Bool
  pub once : Bool
  pub behind : List TextMark

-- any run of `g` and `1`
abbrev pub flags_of : List TextMark → Flags
flags_of [] = record { every = false; once = false; behind = [] }
flags_of (mark ∷ marks) =
    if is_char small_g mark then record (flags_of marks) { every = true }
    else if is_char digit_one mark then record (flags_of marks) { once = true }
    else record { every = false; once = false; behind = mark ∷ marks }

-- the substitution of an old and a new text with flags
abbrev pub replacement_by : List TextSign → List TextSign → Flags → Replacement
replacement_by old new flags =
    let front = without_start old in
    let middle = without_end front.1 in
    record {
      old = flat_map (sign_symbols false) middle.1;
      new = flat_map (sign_symbols true) new;
      starts = front.0;
      ends = middle.0;
      every = flags.every;
      once = flags.once;
    }

-- the new text and the flags, which follow an old text
abbrev pub after_new : List TextSign → Option (List TextSign × List TextMark) → Option (Replacement × List TextMark)
after_new old None = None
after_new old (Some new) = Some (replacement_by old new.0 (flags_of new.1), (flags_of new.1).behind)

-- the old text, and what follows it
abbrev pub after_old : ℕ → Option (List TextSign × List TextMark) → Option (Replacement × List TextMark)
after_old delimiter None = None
after_old delimiter (Some old) = after_new old.0 (signs_before delimiter old.1)

-- what follows the letter of `:S`, and what follows the flags; any character is a delimiter
abbrev pub substitution_from : List TextMark → Option (Replacement × List TextMark)
substitution_from [] = None
substitution_from (Char delimiter ∷ marks) = after_old delimiter (signs_before delimiter marks)
substitution_from (EscapedDollar ∷ marks) = None
substitution_from (Written source ∷ marks) = None

-- the modifiers of one letter: R, E, H, T, L, U
abbrev pub word_map_of : ℕ → Option WordMap
word_map_of c =
    if c == capital_r then Some maps.Root
    else if c == capital_e then Some maps.Extension
    else if c == capital_h then Some maps.Head
    else if c == capital_t then Some maps.Tail
    else if c == capital_l then Some maps.Lower
    else if c == capital_u then Some maps.Upper
    else None

-- the modifier that begins with this letter, and what follows it: M, N, S, or one of one
-- letter
abbrev pub modifier_at : ℕ → List TextMark → Option (Action × List TextMark)
modifier_at letter marks =
    if letter == capital_m then (let read = pattern_from false marks in Some (Match read.0, read.1))
    else if letter == capital_n then (let read = pattern_from false marks in Some (Exclude read.0, read.1))
    else if letter == capital_s then option_map (λ read. (Substitute read.0, read.1)) (substitution_from marks)
    else option_map (λ word_map. (Change word_map, marks)) (word_map_of letter)

-- the first modifier, if it begins with a letter of its own, and what follows it
abbrev pub lettered_modifier : List TextMark → Option (Action × List TextMark)
lettered_modifier [] = None
lettered_modifier (Char letter ∷ marks) = modifier_at letter marks
lettered_modifier (EscapedDollar ∷ marks) = None
lettered_modifier (Written source ∷ marks) = None

-- the marks before the first that is this character, and that one with what follows it
abbrev pub cut_before : ℕ → List TextMark → List TextMark × List TextMark
cut_before c [] = ([], [])
cut_before c (mark ∷ marks) = if is_char c mark then ([], mark ∷ marks) else (let cut = cut_before c marks in (mark ∷ cut.0, cut.1))

-- the replacement of one end of words by another, by the marks before its `=`, and that sign with those after it;
-- None if there is no such sign
abbrev pub suffix_by : List TextMark × List TextMark → Option Action
suffix_by (old, []) = None
suffix_by (old, sign ∷ new) = Some (Suffix (flat_map mark_source old) (flat_map mark_source new))

-- the modifier `old=new`, which ends before the first colon outside references, and what follows it
abbrev pub suffix_modifier : List TextMark → Option (Action × List TextMark)
suffix_modifier marks =
    let cut = cut_before colon marks in option_map (λ action. (action, cut.1)) (suffix_by (cut_before equals_sign cut.0))

-- whether marks begin with M, N or S, after which `=` is a character like any other
abbrev pub takes_text : List TextMark → Bool
takes_text [] = false
takes_text (mark ∷ marks) = is_char capital_m mark || is_char capital_n mark || is_char capital_s mark

-- `old=new` wherever it can be, and else a modifier that begins with a letter of its own
abbrev pub suffix_or_lettered : List TextMark → Option (Action × List TextMark)
suffix_or_lettered marks =
    if takes_text marks then lettered_modifier marks
    else option_or (suffix_modifier marks) (lettered_modifier marks)

-- the first modifier, and what follows it
abbrev pub first_modifier : Profile → List TextMark → Option (Action × List TextMark)
first_modifier One marks = lettered_modifier marks
first_modifier Two marks = suffix_or_lettered marks

-- the modifiers that `later` reads after a colon, if anything follows
abbrev pub after_colon : (List TextMark → Option (List Action)) → List TextMark → Option (List Action)
after_colon later [] = Some []
after_colon later (mark ∷ marks) = if is_char colon mark then later marks else None

-- a modifier, and those that follow it
abbrev pub and_later : (List TextMark → Option (List Action)) → Option (Action × List TextMark) → Option (List Action)
and_later later None = None
and_later later (Some read) = option_map (λ actions. read.0 ∷ actions) (after_colon later read.1)

-- the modifiers of marks, at most as many as the number says
abbrev pub modifiers_by : Profile → ℕ → List TextMark → Option (List Action)
modifiers_by profile zero marks = None
modifiers_by profile (suc fuel) marks = and_later (modifiers_by profile fuel) (first_modifier profile marks)

-- all of them: there are no more than marks
abbrev pub modifiers_in : Profile → List TextMark → Option (List Action)
modifiers_in profile marks = modifiers_by profile (length marks) marks

-- the modifiers of a text; None if it isn't one or more modifiers
unfoldable pub modifiers_of : Profile → List ℕ → Option (List Action)
modifiers_of profile text = option_and_then (modifiers_in profile) (marks_of text)
