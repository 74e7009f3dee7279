-- The kinds of logical lines of a makefile, as make(1) has them: commands, directives, assignments and
-- dependencies. Where exactly an assignment's name ends, and that a line may be none of these, is this
-- project's choice.
use Rattle.std.specs.Prelude.{ℕ, ◌+◌, ◌-◌, ◌==◌, ◌&&◌, ◌||◌, not, nat_lt, Bool, List, [], ◌∷◌, length, take, drop}
use Rattle.std.specs.Prelude.{Option, Some, None, option_map, unwrap_or, slice_index, codes, if◌then◌else◌}
use Rattle.std.specs.Char.{is_ascii_alphabetic}
use Rattle.std.specs.List.{list_any, position, prefix_len}
use Rattle.std.specs.Option.{option_and_then}
use Rattle.std.specs.Str.{bytes_eq}
use Rattle.general_facts.specs.Ascii.{tab, bang, plus_sign, dot, colon, equals_sign, question_mark}
use Rattle.mk_text.specs.Blanks.{is_blank, skip_blanks, trim_blanks}
use Rattle.mk_ast.specs.declared.kinds.Directive.{Directive}
use Rattle.mk_ast.specs.declared.kinds.Directive.TheVariants as words
use Rattle.mk_ast.specs.declared.kinds.Operator.{Operator}
use Rattle.mk_ast.specs.declared.kinds.Operator.TheVariants as operators
use Rattle.mk_ast.specs.declared.kinds.LineKind.{LineKind}
use Rattle.mk_ast.specs.declared.kinds.LineKind.TheVariants as kinds
use Rattle.mk_ref.specs.Outside.{outside}

-- a kind with its texts: of a directive, its word and what follows it; of an assignment, its operator, the
-- name and the value
pub data TextLineKind : Type 0 where
  CommandLine : TextLineKind
  BlankLine : TextLineKind
  DirectiveLine : Directive → List ℕ → TextLineKind
  AssignmentLine : Operator → List ℕ → List ℕ → TextLineKind
  DependencyLine : TextLineKind
  BadLine : TextLineKind

-- the kind that the code has
abbrev pub shown_kind : LineKind → TextLineKind
shown_kind kinds.Command = CommandLine
shown_kind kinds.Blank = BlankLine
shown_kind (kinds.Directive word rest) = DirectiveLine word rest.now
shown_kind (kinds.Assignment operator name value) = AssignmentLine operator name.now value.now
shown_kind kinds.Dependency = DependencyLine
shown_kind kinds.Bad = BadLine

-- a command line begins with a tab (9)
abbrev pub is_command : List ℕ → Bool
is_command text = slice_index text 0 == tab

-- a blank line is empty without the blanks at its ends
abbrev pub is_blank_line : List ℕ → Bool
is_blank_line text = length (trim_blanks text) == 0

-- the directive with a word
abbrev pub directive_named : List ℕ → Option Directive
directive_named word =
    if bytes_eq word (codes "if") then Some words.If
    else if bytes_eq word (codes "ifdef") then Some words.Ifdef
    else if bytes_eq word (codes "ifndef") then Some words.Ifndef
    else if bytes_eq word (codes "ifmake") then Some words.Ifmake
    else if bytes_eq word (codes "ifnmake") then Some words.Ifnmake
    else if bytes_eq word (codes "elif") then Some words.Elif
    else if bytes_eq word (codes "elifdef") then Some words.Elifdef
    else if bytes_eq word (codes "elifndef") then Some words.Elifndef
    else if bytes_eq word (codes "elifmake") then Some words.Elifmake
    else if bytes_eq word (codes "elifnmake") then Some words.Elifnmake
    else if bytes_eq word (codes "else") then Some words.Else
    else if bytes_eq word (codes "endif") then Some words.Endif
    else if bytes_eq word (codes "for") then Some words.For
    else if bytes_eq word (codes "endfor") then Some words.Endfor
    else if bytes_eq word (codes "include") then Some words.Include
    else if bytes_eq word (codes "sinclude") then Some words.Sinclude
    else if bytes_eq word (codes "undef") then Some words.Undef
    else None

-- the directive whose word is the longest run of ASCII letters that a text begins with, and what follows it
abbrev pub directive_after_dot : List ℕ → Option TextLineKind
directive_after_dot text =
    let end = prefix_len is_ascii_alphabetic text in
    option_map (λ word. DirectiveLine word (drop end text)) (directive_named (take end text))

-- the directive that a line is: it follows a dot, which begins the line, and any blanks
abbrev pub directive_in : List ℕ → Option TextLineKind
directive_in [] = None
directive_in (b ∷ rest) = if b == dot then directive_after_dot (skip_blanks rest) else None

-- the marks that make a dependency if they are outside references: `:` and `!`
abbrev pub is_mark : ℕ → Bool
is_mark b = b == colon || b == bang

-- the signs that belong to the operator if they come directly before the `=`: `?`, `+`, `:` and
-- `!`
abbrev pub is_operator_sign : ℕ → Bool
is_operator_sign b = b == question_mark || b == plus_sign || is_mark b

-- the operator of a `=` after a byte
abbrev pub operator_of : ℕ → Operator
operator_of b =
    if b == question_mark then operators.Default
    else if b == plus_sign then operators.Append
    else if b == colon then operators.Expand
    else if b == bang then operators.Shell
    else operators.Set

-- the byte before the `=` at an index; if the `=` comes first, the `=` itself, which isn't a sign
abbrev pub in_front : List ℕ → ℕ → ℕ
in_front text at = slice_index text (at - 1)

-- the place where an operator begins whose `=` is at an index
abbrev pub operator_start : List ℕ → ℕ → ℕ
operator_start text at = if is_operator_sign (in_front text at) then at - 1 else at

-- a word: at least one byte, and no blank
abbrev pub is_word : List ℕ → Bool
is_word text = nat_lt 0 (length text) && not (list_any is_blank text)

-- the assignment whose `=` is at an index: before the operator is one word, maybe with blanks around it,
-- and no mark outside references; the value is what follows the `=` and the blanks there
abbrev pub assignment_at : List ℕ → ℕ → Option TextLineKind
assignment_at text at =
    let start = operator_start text at in
    let name = trim_blanks (take start text) in
    if is_word name && not (list_any is_mark (take start (outside text)))
    then Some (AssignmentLine (operator_of (in_front text at)) name (skip_blanks (drop (at + 1) text)))
    else None

-- the assignment that a line is: that of its first `=` outside references
abbrev pub assignment_in : List ℕ → Option TextLineKind
assignment_in text = option_and_then (assignment_at text) (position (λ b. b == equals_sign) (outside text))

-- the kind of a line: an assignment if it is one; else a dependency if it has a mark outside references;
-- else bad
abbrev pub kind_among : Option TextLineKind → Bool → TextLineKind
kind_among (Some assignment) has_mark = assignment
kind_among None has_mark = if has_mark then DependencyLine else BadLine

-- the kind of a line that can be neither a command nor a directive, such as a line of a loop's body into
-- which words were put
unfoldable pub plain_kind : List ℕ → TextLineKind
plain_kind text = if is_blank_line text then BlankLine else kind_among (assignment_in text) (list_any is_mark (outside text))

-- the kind of a line: a command, else a directive, else a plain kind; no directive is blank, since it
-- begins with a dot
unfoldable pub line_kind : List ℕ → TextLineKind
line_kind text = if is_command text then CommandLine else unwrap_or (directive_in text) (plain_kind text)
