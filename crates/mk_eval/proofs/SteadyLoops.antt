-- What becomes of lines in loops, and what lines do to variables, is the same under a lower limit that isn't reached.
use Rattle.std.proofs.Common.{◌%◌, ◌==◌, is_some, ℕ, suc, zero, List, [], ◌∷◌, length, Option, Some, None}
use Rattle.mk_base.specs.declared.faults.FaultKind.TheVariants as kinds
use Rattle.mk_text.specs.Words.{words_of, word_spans}
use Rattle.mk_ast.specs.declared.kinds.Directive.{Directive}
use Rattle.mk_ast.specs.declared.kinds.Directive.TheVariants as words
use Rattle.mk_ast.specs.declared.kinds.Operator.{Operator}
use Rattle.mk_ast.specs.declared.kinds.Operator.TheVariants as operators
use Rattle.mk_ast.specs.Kinds.{TextLineKind, CommandLine, BlankLine, DirectiveLine, AssignmentLine, DependencyLine, BadLine, is_word}
use Rattle.mk_ast.specs.Kinds.{line_kind}
use Rattle.mk_ref.specs.Atoms.{TextAtom, Byte, EscapedDollar, Reference, atoms_of, left_of}
use Rattle.mk_env.specs.Texts.{Variables, appended, text_in}
use Rattle.mk_loop.specs.LoopWords.{LoopWords, word_named}
use Rattle.mk_loop.specs.BodyLine.{SoFar, Puts, nothing, with_loop_word, finished, modified_word, put_reference, put_atom, put_by, put}
use Rattle.mk_loop.specs.BodyLine.{where_closed, put_words}
use Rattle.mk_loop.specs.Header.{header_parts, formed, header}
use Rattle.mk_eval.specs.Lines.{Loops, store, assign, assign_to, direct, execute_kind, put_in, read_again, execute_in, perform_kind}
use Rattle.mk_eval.specs.Lines.{perform}
use Rattle.mk_eval.specs.Heads.{head_text, iterations}
use Rattle.mk_eval.proofs.Steady.{Steady, steady-give, steady-fail, steady-pay, bind, either, over}
use Rattle.mk_eval.proofs.SteadyTexts.{steady-bounded, steady-expand, steady-expand_now, steady-modified_by}

steady-with_word : (so_far : SoFar) (word : List ℕ) → Steady (with_loop_word so_far word)
steady-with_word so_far word = bind (steady-bounded _) (λ text. steady-give _)

steady-finished : (so_far : SoFar) → Steady (finished so_far)
steady-finished so_far = either so_far.replaced (steady-bounded so_far.text) (steady-give so_far.text)

-- what puts words into texts, and is so
record PutsSteadily (puts : Puts) : Type 0 where
  pub all : (so_far : SoFar) (text : List ℕ) → Steady (puts so_far text)

module _ (words : LoopWords) (variables : Variables) (puts : Puts) (does : PutsSteadily puts) where
  steady-changed : (modifiers : Option (List ℕ)) (word : List ℕ) → Steady (modified_word variables puts modifiers word)
  steady-changed None word = steady-give word
  steady-changed (Some modifiers) word = bind (bind (does.all nothing modifiers) steady-finished)
      (λ text. steady-modified_by variables text word)

  steady-put_reference : (so_far : SoFar) (written : List ℕ) (modifiers : Option (List ℕ)) (word : Option (List ℕ))
      → Steady (put_reference variables puts so_far written modifiers word)
  steady-put_reference so_far written modifiers None = bind (does.all _ _) (λ found. steady-give _)
  steady-put_reference so_far written modifiers (Some word) =
      bind steady-pay (λ _. bind (steady-changed modifiers word) (λ found. steady-with_word so_far found))

  steady-put_atom : (so_far : SoFar) (atom : TextAtom) → Steady (put_atom words variables puts so_far atom)
  steady-put_atom so_far (Byte b) = steady-give _
  steady-put_atom so_far EscapedDollar = steady-give _
  steady-put_atom so_far (Reference written name modifiers) = steady-put_reference so_far written modifiers (word_named words name)

put_by-steadily : (words : LoopWords) (variables : Variables) (levels : ℕ) → PutsSteadily (put_by words variables levels)
unfolding put_by
put_by-steadily words variables zero = record { all = λ so_far text. steady-give so_far }
put_by-steadily words variables (suc levels) = record {
  all = λ so_far text. over (steady-put_atom words variables (put_by words variables levels) (put_by-steadily words variables levels))
      so_far (atoms_of text);
}

steady-put : (words : LoopWords) (variables : Variables) (so_far : SoFar) (text : List ℕ) → Steady (put words variables so_far text)
unfolding put
steady-put words variables so_far text = (put_by-steadily words variables (length text)).all so_far text

steady-where_closed : (words : LoopWords) (variables : Variables) (line left : List ℕ) → Steady (where_closed words variables line left)
steady-where_closed words variables line [] = bind (steady-put words variables nothing line) steady-finished
steady-where_closed words variables line (b ∷ left) = steady-fail kinds.Reference

pub steady-put_words : (words : LoopWords) (variables : Variables) (line : List ℕ) → Steady (put_words words variables line)
steady-put_words words variables line = steady-where_closed words variables line (left_of line)

steady-formed : (parts : Option (List (List ℕ) × List ℕ)) → Steady (formed parts)
steady-formed None = steady-fail kinds.For
steady-formed (Some ([], rest)) = steady-fail kinds.For
steady-formed (Some (name ∷ names, rest)) = steady-give (name ∷ names, rest)

pub steady-header : (variables : Variables) (text : List ℕ) → Steady (header variables text)
steady-header variables text =
    bind (steady-formed (header_parts text (word_spans text))) (λ parts. bind (steady-expand variables parts.1)
    (λ found. either (length (words_of found) % length parts.0 == 0) (steady-give _) (steady-fail kinds.For)))

steady-store : (variables : Variables) (name text : List ℕ) → Steady (store variables name text)
steady-store variables name text = bind (steady-bounded text) (λ stored. steady-give _)

steady-assign : (variables : Variables) (operator : Operator) (name text : List ℕ) → Steady (assign variables operator name text)
steady-assign variables operators.Set name text = steady-store variables name text
steady-assign variables operators.Default name text = either (is_some (text_in variables name)) (steady-give variables)
    (steady-store variables name text)
steady-assign variables operators.Append name text = steady-store variables name (appended (text_in variables name) text)
steady-assign variables operators.Expand name text = bind (steady-expand_now variables text) (λ found. steady-store variables name found)
steady-assign variables operators.Shell name text = steady-fail kinds.Shell

steady-assign_to : (variables : Variables) (operator : Operator) (text name : List ℕ) → Steady (assign_to variables operator text name)
steady-assign_to variables operator text name = either (is_word name) (steady-assign variables operator name text) (steady-fail kinds.Line)

steady-direct : (variables : Variables) (word : Directive) (text : List ℕ) → Steady (direct variables word text)
steady-direct variables words.Undef text = bind (steady-expand variables text) (λ found. steady-give _)
steady-direct variables words.Include text = bind (steady-expand variables text) (λ found. steady-give _)
steady-direct variables words.Sinclude text = bind (steady-expand variables text) (λ found. steady-give _)
steady-direct variables words.If text = steady-fail kinds.Line
steady-direct variables words.Ifdef text = steady-fail kinds.Line
steady-direct variables words.Ifndef text = steady-fail kinds.Line
steady-direct variables words.Ifmake text = steady-fail kinds.Line
steady-direct variables words.Ifnmake text = steady-fail kinds.Line
steady-direct variables words.Elif text = steady-fail kinds.Line
steady-direct variables words.Elifdef text = steady-fail kinds.Line
steady-direct variables words.Elifndef text = steady-fail kinds.Line
steady-direct variables words.Elifmake text = steady-fail kinds.Line
steady-direct variables words.Elifnmake text = steady-fail kinds.Line
steady-direct variables words.Else text = steady-fail kinds.Line
steady-direct variables words.Endif text = steady-fail kinds.Line
steady-direct variables words.For text = steady-fail kinds.Line
steady-direct variables words.Endfor text = steady-fail kinds.Line

steady-execute_kind : (variables : Variables) (kind : TextLineKind) → Steady (execute_kind variables kind)
steady-execute_kind variables CommandLine = steady-give _
steady-execute_kind variables BlankLine = steady-give _
steady-execute_kind variables (DirectiveLine word text) = steady-direct variables word text
steady-execute_kind variables (AssignmentLine operator name text) =
    bind (bind (steady-expand variables name) (steady-assign_to variables operator text)) (λ found. steady-give _)
steady-execute_kind variables DependencyLine = steady-give _
steady-execute_kind variables BadLine = steady-fail kinds.Line

pub steady-put_in : (variables : Variables) (loops : Loops) (text : List ℕ) → Steady (put_in variables loops text)
steady-put_in variables None text = steady-give text
steady-put_in variables (Some words) text = steady-put_words words variables text

steady-read_again : (variables : Variables) (words : LoopWords) (text : List ℕ) (kind : TextLineKind)
    → Steady (read_again variables words text kind)
steady-read_again variables words text (DirectiveLine word rest) = bind (steady-put_words words variables rest) (λ put. steady-give _)
steady-read_again variables words text CommandLine = bind (steady-put_words words variables text) (λ put. steady-give _)
steady-read_again variables words text BlankLine = bind (steady-put_words words variables text) (λ put. steady-give _)
steady-read_again variables words text (AssignmentLine operator name rest) =
    bind (steady-put_words words variables text) (λ put. steady-give _)
steady-read_again variables words text DependencyLine = bind (steady-put_words words variables text) (λ put. steady-give _)
steady-read_again variables words text BadLine = bind (steady-put_words words variables text) (λ put. steady-give _)

pub steady-execute_in : (variables : Variables) (loops : Loops) (text : List ℕ) (kind : TextLineKind)
    → Steady (execute_in variables loops text kind)
steady-execute_in variables None text kind = steady-execute_kind variables kind
steady-execute_in variables (Some words) text kind = bind (steady-read_again variables words text kind) (steady-execute_kind variables)

steady-perform_kind : (variables : Variables) (loops : Loops) (text : List ℕ) (kind : TextLineKind)
    → Steady (perform_kind variables loops text kind)
steady-perform_kind variables loops text BlankLine = steady-give _
steady-perform_kind variables loops text CommandLine = bind steady-pay (λ _. steady-execute_in variables loops text CommandLine)
steady-perform_kind variables loops text (DirectiveLine word rest) =
    bind steady-pay (λ _. steady-execute_in variables loops text (DirectiveLine word rest))
steady-perform_kind variables loops text (AssignmentLine operator name rest) =
    bind steady-pay (λ _. steady-execute_in variables loops text (AssignmentLine operator name rest))
steady-perform_kind variables loops text DependencyLine = bind steady-pay (λ _. steady-execute_in variables loops text DependencyLine)
steady-perform_kind variables loops text BadLine = bind steady-pay (λ _. steady-execute_in variables loops text BadLine)

pub steady-perform : (variables : Variables) (loops : Loops) (text : List ℕ) → Steady (perform variables loops text)
steady-perform variables loops text = steady-perform_kind variables loops text (line_kind text)

pub steady-head_text : (variables : Variables) (loops : Loops) (kind : TextLineKind) → Steady (head_text variables loops kind)
steady-head_text variables loops (DirectiveLine word rest) = bind steady-pay (λ _. steady-put_in variables loops rest)
steady-head_text variables loops CommandLine = steady-fail kinds.Block
steady-head_text variables loops BlankLine = steady-fail kinds.Block
steady-head_text variables loops (AssignmentLine operator name rest) = steady-fail kinds.Block
steady-head_text variables loops DependencyLine = steady-fail kinds.Block
steady-head_text variables loops BadLine = steady-fail kinds.Block

pub steady-iterations : (variables : Variables) (loops : Loops) (line : List ℕ) → Steady (iterations variables loops line)
steady-iterations variables loops line = bind (steady-head_text variables loops (line_kind line)) (steady-header variables)
