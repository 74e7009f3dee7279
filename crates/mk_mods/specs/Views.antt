-- Marks, signs and changes of words in the code, as clauses see them.
use Rattle.std.specs.Prelude.{◌≡◌, ℕ, Bool, false, List, ◌++◌, map, Option, Some, None, option_map, Result, IfOk, OnOk, String}
use Rattle.std.specs.Prelude.{string_bytes, Vec}
use Rattle.std.specs.Borrow.{Bor}
use Rattle.std.specs.List.{flat_map}
use Rattle.std.specs.declared.alloc.Global.{Global}
use Rattle.mk_mods.specs.declared.modifiers.Modifier.{Modifier}
use Rattle.mk_mods.specs.declared.modifiers.Part.{Part}
use Rattle.mk_mods.specs.declared.modifier_lists.Mods.{Mods}
use Rattle.mk_mods.specs.declared.word_maps.WordChange.{WordChange}
use Rattle.mk_mods.specs.declared.word_maps.WordChange.TheVariants as changes
use Rattle.mk_mods.specs.WordChanges.{word_change, with_suffix}
use Rattle.mk_mods.specs.declared.marks.Mark.{Mark}
use Rattle.mk_mods.specs.declared.marks.Mark.TheVariants as marks
use Rattle.mk_mods.specs.declared.substitution_signs.SubstitutionSign.{SubstitutionSign}
use Rattle.mk_mods.specs.declared.substitution_signs.SubstitutionSign.TheVariants as signs
use Rattle.mk_mods.specs.declared.modifier_lists.ModsFault.{ModsFault}
use Rattle.mk_mods.specs.declared.modifier_lists.ModsFault.TheVariants as faults
use Rattle.mk_ref.specs.declared.pieces_of_text.PiecesFault.{PiecesFault}
use Rattle.mk_ref.specs.declared.pieces_of_text.PiecesFault.TheVariants as pieces_faults
use Rattle.mk_mods.specs.Actions.{Action, Symbol, Byte, action_of, symbols_of}
use Rattle.mk_mods.specs.Marks.{TextMark, Char, EscapedDollar, Written, mark_source}
use Rattle.mk_mods.specs.Signs.{TextSign, Plain, Bare, Inner, escaped, sign_at, sign_symbols}
use Rattle.mk_mods.specs.Grammar.{Flags, pattern_from, suffix_modifier}

abbrev pub shown_mark : Mark → TextMark
shown_mark (marks.Char c) = Char c
shown_mark marks.EscapedDollar = EscapedDollar
shown_mark (marks.Reference source) = Written source.now

abbrev pub shown_sign : SubstitutionSign → TextSign
shown_sign (signs.Plain c) = Plain c
shown_sign (signs.Bare c) = Bare c
shown_sign (signs.Reference source) = Inner source.now

-- why a text wasn't read: it can't be, or memory ran out, which says nothing about the text
abbrev pub IsUnread : {X : Type 0} → Option X → ModsFault → Type 0
IsUnread read faults.BadMod = read ≡ None
IsUnread read (faults.Memory _) = Unit {0}

-- how a text without pieces is reported: if a reference doesn't end, the text isn't modifiers
abbrev pub unread_by : PiecesFault → ModsFault
unread_by (pieces_faults.Unclosed at) = faults.BadMod
unread_by (pieces_faults.Memory refused) = faults.Memory refused

-- what a change makes of a word
abbrev pub changed_word : WordChange → List ℕ → List ℕ
changed_word (changes.Map word_map) word = word_change word_map word
changed_word (changes.Suffix old new) word = with_suffix old.now new.now word

-- if it succeeds, it added this text
abbrev pub AddsText : {R F : Type 0} → Result R F → String Global → String Global → List ℕ → Type 0
AddsText result before after text = OnOk result (string_bytes after ≡ string_bytes before ++ text)

-- if it succeeds, it added these marks
abbrev pub AddsMarks : {R F : Type 0} → Result R F → Vec Mark Global → Vec Mark Global → List TextMark → Type 0
AddsMarks result before after marks = OnOk result (map shown_mark after.items ≡ map shown_mark before.items ++ marks)

-- what marks of the code are written as
abbrev pub source_of_marks : List Mark → List ℕ
source_of_marks marks = flat_map mark_source (map shown_mark marks)

-- if it succeeds, it read what marks begin with, and the marks after that, as this reading says
abbrev pub ReadsFirst : {R F X : Type 0} → (R → X) → Result (R × Bor (List Mark)) F → (List TextMark → Option (X × List TextMark))
    → List Mark → Type 0
ReadsFirst shown result reading marks =
    IfOk result (λ read. reading (map shown_mark marks) ≡ Some (shown read.0, map shown_mark read.1.now))

-- if it succeeds, it read the pattern that marks begin with, and the marks after that
abbrev pub ReadsPattern : {F : Type 0} → Result (String Global × Bor (List Mark)) F → List Mark → Type 0
ReadsPattern result marks =
    IfOk result (λ read. pattern_from false (map shown_mark marks) ≡ (string_bytes read.0, map shown_mark read.1.now))

-- if it succeeds, it told whether marks begin with `old=new`, and read that and the marks after it
abbrev pub ReadsSuffix : {F : Type 0} → Result (Option (Modifier × Bor (List Mark))) F → List Mark → Type 0
ReadsSuffix result marks =
    IfOk result
    (λ read. suffix_modifier (map shown_mark marks) ≡ option_map (λ it. (action_of it.0, map shown_mark it.1.now)) read)

-- if it succeeds, there are these modifiers, and it read them
abbrev pub ReadsModifiers : {F : Type 0} → Result (Vec Modifier Global) F → Option (List Action) → Type 0
ReadsModifiers result reading = IfOk result (λ modifiers. reading ≡ Some (map action_of modifiers.items))

abbrev pub ReadsMods : {F : Type 0} → Result Mods F → Option (List Action) → Type 0
ReadsMods result reading = IfOk result (λ mods. reading ≡ Some (map action_of mods.modifiers.items))

-- two runs of marks
abbrev pub shown_cut : Bor (List Mark) × Bor (List Mark) → List TextMark × List TextMark
shown_cut cut = (map shown_mark cut.0.now, map shown_mark cut.1.now)

-- the flags of `:S`, and the marks after them
abbrev pub shown_flags : Bool × Bool × Bor (List Mark) → Flags
shown_flags read = record { every = read.0; once = read.1; behind = map shown_mark read.2.now }

-- the signs that were read
abbrev pub shown_signs : Vec SubstitutionSign Global → List TextSign
shown_signs signs = map shown_sign signs.items

-- it is the plain character that two marks are, if the first is a backslash that makes the second plain
abbrev pub IsEscape : Option SubstitutionSign → ℕ → Mark → Mark → Type 0
IsEscape sign delimiter mark next = option_map shown_sign sign ≡ escaped delimiter (shown_mark mark) (shown_mark next)

-- it is the sign that a mark begins, with the number of its marks
abbrev pub IsSignAt : SubstitutionSign × ℕ → ℕ → Mark → List Mark → Type 0
IsSignAt sign delimiter mark behind = (shown_sign sign.0, sign.1) ≡ sign_at delimiter (shown_mark mark) (map shown_mark behind)

-- the symbols of parts, and of the text that follows them
abbrev pub symbols_with : Vec Part Global → String Global → List Symbol
symbols_with parts text = flat_map symbols_of parts.items ++ map Byte (string_bytes text)

-- if it succeeds, these parts have these symbols
abbrev pub LeavesSymbols : {R F : Type 0} → Result R F → Vec Part Global → List Symbol → Type 0
LeavesSymbols result parts symbols = OnOk result (flat_map symbols_of parts.items ≡ symbols)

-- if it succeeds, it made the parts that signs give, in the old text or in the new one
abbrev pub MakesParts : {F : Type 0} → Result (Vec Part Global) F → Bool → List SubstitutionSign → Type 0
MakesParts result in_new signs =
    IfOk result (λ parts. flat_map symbols_of parts.items ≡ flat_map (sign_symbols in_new) (map shown_sign signs))

-- if it succeeds, it added a sign to these symbols, and gave the text that follows the parts
abbrev pub AddsSign : {F : Type 0} → Result (String Global) F → List Symbol → Vec Part Global → Bool → SubstitutionSign → Type 0
AddsSign result before parts in_new sign =
    IfOk result (λ text. symbols_with parts text ≡ before ++ sign_symbols in_new (shown_sign sign))
