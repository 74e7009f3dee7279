-- The truth of the parts of conditions: calls, comparisons, and sides alone (make(1), "CONDITIONALS").
-- What is a number, that no target is asked for or defined, and which comparisons texts have, is this
-- project's choice.
use Rattle.std.specs.Prelude.{ℕ, ℤ, pos, ◌==◌, Bool, true, false, not, if◌then◌else◌, is_some, List, [], ◌∷◌, length}
use Rattle.std.specs.Prelude.{Option, Some, None, Result, Ok, Err}
use Rattle.std.specs.List.{list_any}
use Rattle.std.specs.Str.{bytes_eq}
use Rattle.mk_base.specs.declared.faults.FaultKind.{FaultKind}
use Rattle.mk_base.specs.declared.faults.FaultKind.TheVariants as kinds
use Rattle.mk_base.specs.Meter.{Meter}
use Rattle.mk_base.specs.Outcome.{Work, give, fail, ◌>>=◌}
use Rattle.mk_text.specs.Words.{words_of, span_text}
use Rattle.mk_ref.specs.declared.pieces_of_text.Piece.{Piece}
use Rattle.mk_ref.specs.declared.pieces_of_text.Piece.TheVariants as pieces
use Rattle.mk_ref.specs.Atoms.{atoms_of, left_of}
use Rattle.mk_ref.specs.Pieces.{TextPiece, LiteralPiece, EscapedDollarPiece, ReferencePiece, pieces_of}
use Rattle.mk_env.specs.Texts.{Variables, text_in}
use Rattle.mk_env.specs.Expansion.{expand, inside_meaning}
use Rattle.mk_paths.specs.declared.file_name.NameFault.{NameFault}
use Rattle.mk_paths.specs.FileName.{name_under, directory_of, resolved}
use Rattle.mk_paths.specs.World.{FileMap}
use Rattle.mk_files.specs.Questions.{Account, quietly, ask_has}
use Rattle.mk_cond_tree.specs.declared.tokens.Call.{Call}
use Rattle.mk_cond_tree.specs.declared.tokens.Call.TheVariants.{Defined, Empty, Exists, Make, Target}
use Rattle.mk_cond_tree.specs.declared.tokens.Comparison.{Comparison}
use Rattle.mk_cond_tree.specs.declared.tokens.Comparison.TheVariants as signs
use Rattle.mk_cond_tree.specs.declared.tokens.Side.{Side}
use Rattle.mk_cond_tree.specs.declared.tokens.Side.TheVariants.{Quoted, Bare}
use Rattle.mk_cond.specs.Numbers.{hex_or_decimal, numbers_compare, isnt_zero}
use Rattle.mk_cond.specs.declared.setting.Setting.{Setting}

-- the surroundings of a condition: the variables, the files, the makefile's name, the condition's own text,
-- and what a lone word of it asks
pub record Surroundings : Type 0 where
  pub variables : Variables
  pub files : FileMap
  pub makefile : List ℕ
  pub text : List ℕ
  pub word : Call

-- the surroundings that the code's setting gives, among these files
abbrev pub surroundings_of : Setting → FileMap → Surroundings
surroundings_of setting files =
    record {
      variables = setting.variables.now;
      files = files;
      makefile = setting.makefile.now;
      text = setting.text.now;
      word = setting.form.word;
    }

-- `defined(N)`: N, expanded, is the name of a variable
abbrev pub is_defined : Variables → List ℕ → Work Meter FaultKind Bool
is_defined variables argument = expand variables argument >>= λ name. give (is_some (text_in variables name))

-- `empty(N:M)`: what a reference to N with these modifiers means has no word
abbrev pub has_no_word : Variables → List ℕ → Work Meter FaultKind Bool
has_no_word variables argument = inside_meaning variables argument >>= λ value. give (length (words_of value) == 0)

-- the question about a file; if a text names none, the file isn't there, and nothing is asked
abbrev pub ask_if_there : FileMap → Result (List ℕ) NameFault → Work Account FaultKind Bool
ask_if_there files (Ok name) = ask_has files name
ask_if_there files (Err fault) = give false

-- `exists(F)`: the file F, expanded, is there; a name that isn't absolute is under the makefile's directory
abbrev pub exists : Surroundings → List ℕ → Work Account FaultKind Bool
exists s argument =
    quietly (expand s.variables argument)
    >>= λ file. ask_if_there s.files (resolved (name_under (directory_of s.makefile) file))

-- what a call asks of its argument; no target is asked for or defined, and then the argument isn't looked at
abbrev pub call_holds : Surroundings → Call → List ℕ → Work Account FaultKind Bool
call_holds s Defined argument = quietly (is_defined s.variables argument)
call_holds s Empty argument = quietly (has_no_word s.variables argument)
call_holds s Exists argument = exists s argument
call_holds s Make argument = give false
call_holds s Target argument = give false

-- the text of a side, as it is written
abbrev pub side_source : List ℕ → Side → List ℕ
side_source text (Quoted span) = span_text text span
side_source text (Bare span) = span_text text span

-- the number that a text is; an empty one is 0
abbrev pub number_or_zero : List ℕ → Option ℤ
number_or_zero [] = Some (pos 0)
number_or_zero (b ∷ rest) = hex_or_decimal (b ∷ rest)

-- the number that an expanded side is: a quoted one is text
abbrev pub side_number : Side → List ℕ → Option ℤ
side_number (Quoted span) found = None
side_number (Bare span) found = number_or_zero found

-- two texts are equal or aren't; they have no order
abbrev pub texts_compare : Comparison → List ℕ → List ℕ → Option Bool
texts_compare signs.Equal left right = Some (bytes_eq left right)
texts_compare signs.Unequal left right = Some (not (bytes_eq left right))
texts_compare comparison left right = None

-- two sides, expanded, are compared as numbers if both are numbers, and otherwise as texts
abbrev pub sides_compare : Comparison → Option ℤ → Option ℤ → List ℕ → List ℕ → Option Bool
sides_compare comparison (Some one) (Some other) left right = Some (numbers_compare comparison one other)
sides_compare comparison (Some one) None left right = texts_compare comparison left right
sides_compare comparison None other left right = texts_compare comparison left right

-- what is known; if nothing is known, that is a fault
abbrev pub known : Option Bool → Work Meter FaultKind Bool
known None = fail kinds.Condition
known (Some held) = give held

-- a comparison: both sides are expanded first, the left one before the right one
abbrev pub compared : Variables → List ℕ → Side → Comparison → Side → Work Meter FaultKind Bool
compared variables text one comparison other =
    expand variables (side_source text one) >>= λ left. expand variables (side_source text other)
    >>= λ right. known (sides_compare comparison (side_number one left) (side_number other right) left right)

-- a quoted side alone holds if it isn't empty once it is expanded
abbrev pub has_text : Variables → List ℕ → Work Meter FaultKind Bool
has_text variables source = expand variables source >>= λ found. give (not (length found == 0))

-- a value alone holds if it is neither empty nor the number 0
abbrev pub is_true : List ℕ → Bool
is_true [] = false
is_true (b ∷ rest) = isnt_zero (hex_or_decimal (b ∷ rest))

abbrev pub has_true : Variables → List ℕ → Work Meter FaultKind Bool
has_true variables source = expand variables source >>= λ found. give (is_true found)

-- whether a piece is a reference, and the same of the code's pieces
abbrev pub is_reference : TextPiece → Bool
is_reference (LiteralPiece bytes) = false
is_reference EscapedDollarPiece = false
is_reference (ReferencePiece written name modifiers) = true

abbrev pub is_reference_piece : Piece → Bool
is_reference_piece (pieces.Literal span) = false
is_reference_piece (pieces.EscapedDollar span) = false
is_reference_piece (pieces.Reference reference) = true

-- whether there is a reference in a text; if some of the text is left, it begins one that doesn't end
abbrev pub refers : List ℕ → List TextPiece → Bool
refers [] found = list_any is_reference found
refers (b ∷ left) found = true

unfoldable pub has_reference : List ℕ → Bool
has_reference text = refers (left_of text) (pieces_of (atoms_of text))

-- a word alone, without a reference: a number holds unless it is 0, and any other word is the argument of
-- what the directive asks
abbrev pub lone : Surroundings → List ℕ → Option ℤ → Work Account FaultKind Bool
lone s word None = call_holds s s.word word
lone s word (Some number) = give (isnt_zero (Some number))

-- a side without quotes alone
abbrev pub bare : Surroundings → List ℕ → Work Account FaultKind Bool
bare s word = if has_reference word then quietly (has_true s.variables word) else lone s word (hex_or_decimal word)

-- a side alone
abbrev pub side_alone : Surroundings → Side → Work Account FaultKind Bool
side_alone s (Quoted span) = quietly (has_text s.variables (span_text s.text span))
side_alone s (Bare span) = bare s (span_text s.text span)
