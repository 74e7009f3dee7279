-- What a line of a makefile that is neither a block nor an include does to its variables (make(1),
-- "VARIABLES"). The cost, the limits, and that an assignment of a command's output is a fault, are this
-- project's choice.
use Rattle.std.specs.Prelude.{ℕ, is_some, Bool, true, false, if◌then◌else◌, List, [], ◌∷◌, ◌++◌, Option, Some, None, unwrap_or}
use Rattle.mk_base.specs.declared.faults.FaultKind.{FaultKind}
use Rattle.mk_base.specs.declared.faults.FaultKind.TheVariants as kinds
use Rattle.mk_base.specs.Meter.{Meter, pay}
use Rattle.mk_base.specs.Outcome.{Work, give, fail, ◌>>=◌}
use Rattle.mk_text.specs.Words.{words_of}
use Rattle.mk_ast.specs.declared.kinds.Directive.{Directive}
use Rattle.mk_ast.specs.declared.kinds.Directive.TheVariants as words
use Rattle.mk_ast.specs.declared.kinds.Operator.{Operator}
use Rattle.mk_ast.specs.declared.kinds.Operator.TheVariants as operators
use Rattle.mk_ast.specs.Kinds.{TextLineKind, CommandLine, BlankLine, DirectiveLine, AssignmentLine, DependencyLine}
use Rattle.mk_ast.specs.Kinds.{BadLine, is_word, line_kind, plain_kind}
use Rattle.mk_env.specs.Texts.{Variables, appended, text_in, with_text, without_text}
use Rattle.mk_env.specs.Expansion.{bounded, expand, expand_now}
use Rattle.mk_loop.specs.LoopWords.{LoopWords}
use Rattle.mk_loop.specs.BodyLine.{put_words}

-- the variables with this text stored under a name; it is a fault if the text is too long
abbrev pub store : Variables → List ℕ → List ℕ → Work Meter FaultKind Variables
store variables name text = bounded text >>= λ stored. give (with_text variables name stored)

-- what an operator does with a name and the text after it: under `?=` a variable that is defined keeps its
-- text, and nothing is looked at
abbrev pub assign : Variables → Operator → List ℕ → List ℕ → Work Meter FaultKind Variables
assign variables operators.Set name text = store variables name text
assign variables operators.Default name text = if is_some (text_in variables name) then give variables else store variables name text
assign variables operators.Append name text = store variables name (appended (text_in variables name) text)
assign variables operators.Expand name text = expand_now variables text >>= λ found. store variables name found
assign variables operators.Shell name text = fail kinds.Shell

-- an assignment to a name that is already expanded: the name has to be one word
abbrev pub assign_to : Variables → Operator → List ℕ → List ℕ → Work Meter FaultKind Variables
assign_to variables operator text name = if is_word name then assign variables operator name text else fail kinds.Line

-- the variables without those of these names
abbrev pub without_variables : Variables → List (List ℕ) → Variables
without_variables variables [] = variables
without_variables variables (name ∷ names) = without_variables (without_text variables name) names

-- a file that a line asks for: the line's text, expanded, and whether the file may be missing
pub record Request : Type 0 where
  pub text : List ℕ
  pub optional : Bool

-- what a line leaves: the variables, and the file that it asks for, if any
abbrev pub Performed : Type 0
Performed = Variables × Option Request

-- a line that asks for no file
abbrev pub alone : Variables → Work Meter FaultKind Performed
alone variables = give (variables, None)

-- `.undef` removes the variable of each word of its expanded text; the two forms of `.include` ask for a
-- file; any other directive belongs to a block, and is a fault here
abbrev pub direct : Variables → Directive → List ℕ → Work Meter FaultKind Performed
direct variables words.Undef text = expand variables text >>= λ found. alone (without_variables variables (words_of found))
direct variables words.Include text = expand variables text >>= λ found. give (variables, Some (record { text = found; optional = false }))
direct variables words.Sinclude text = expand variables text >>= λ found. give (variables, Some (record { text = found; optional = true }))
direct variables word text = fail kinds.Line

-- what a line of a kind does
abbrev pub execute_kind : Variables → TextLineKind → Work Meter FaultKind Performed
execute_kind variables CommandLine = alone variables
execute_kind variables BlankLine = alone variables
execute_kind variables (DirectiveLine word text) = direct variables word text
execute_kind variables (AssignmentLine operator name text) = expand variables name >>= assign_to variables operator text >>= alone
execute_kind variables DependencyLine = alone variables
execute_kind variables BadLine = fail kinds.Line

-- The loops around a line, if there are any: their variables with their words, those of the
-- innermost loop first.
abbrev pub Loops : Type 0
Loops = Option LoopWords

-- the loops around a line of a loop's body, in the iteration with these words
abbrev pub inside_iteration : Loops → LoopWords → Loops
inside_iteration loops iteration = Some (iteration ++ unwrap_or loops [])

-- a text with the words of the loops around it put in; if no loop is around it, it isn't looked at
abbrev pub put_in : Variables → Loops → List ℕ → Work Meter FaultKind (List ℕ)
put_in variables None text = give text
put_in variables (Some words) text = put_words words variables text

-- What a line of a loop's body is once words are put in, if its text as written was of this kind. A
-- directive stays a directive, with words put into what follows its word, and a command stays a command. Any
-- other line is read anew, and isn't a directive even if it looks like one.
abbrev pub read_again : Variables → LoopWords → List ℕ → TextLineKind → Work Meter FaultKind TextLineKind
read_again variables words text (DirectiveLine word rest) = put_words words variables rest >>= λ put. give (DirectiveLine word put)
read_again variables words text CommandLine = put_words words variables text >>= λ put. give CommandLine
read_again variables words text kind = put_words words variables text >>= λ put. give (plain_kind put)

-- what a line of a loop's body does once words are put in, if its text as written is of this kind
abbrev pub execute_again : Variables → LoopWords → List ℕ → TextLineKind → Work Meter FaultKind Performed
execute_again variables words text kind = read_again variables words text kind >>= execute_kind variables

-- the same for a line with these loops around it, or with none
abbrev pub execute_in : Variables → Loops → List ℕ → TextLineKind → Work Meter FaultKind Performed
execute_in variables None text kind = execute_kind variables kind
execute_in variables (Some words) text kind = execute_again variables words text kind

-- What a line does whose text is of this kind. A line that isn't blank costs a unit, before anything else.
abbrev pub perform_kind : Variables → Loops → List ℕ → TextLineKind → Work Meter FaultKind Performed
perform_kind variables loops text BlankLine = alone variables
perform_kind variables loops text kind = pay >>= λ _. execute_in variables loops text kind

-- what a line with this text does, if it doesn't begin, part or end a block
abbrev pub perform : Variables → Loops → List ℕ → Work Meter FaultKind Performed
perform variables loops text = perform_kind variables loops text (line_kind text)
