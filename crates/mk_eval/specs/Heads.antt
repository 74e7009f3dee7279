-- The lines that begin blocks and their branches (make(1), "CONDITIONALS" and "FOR LOOPS"). Each costs a
-- unit before anything else.
use Rattle.std.specs.Prelude.{ℕ, Bool, true, false, List, Option, Some, None, option_map}
use Rattle.mk_base.specs.declared.faults.FaultKind.{FaultKind}
use Rattle.mk_base.specs.declared.faults.FaultKind.TheVariants as kinds
use Rattle.mk_base.specs.Meter.{Meter, pay}
use Rattle.mk_base.specs.Outcome.{Work, fail, ◌>>=◌}
use Rattle.mk_ast.specs.declared.kinds.Directive.{Directive}
use Rattle.mk_ast.specs.declared.kinds.Directive.TheVariants as words
use Rattle.mk_ast.specs.Kinds.{TextLineKind, DirectiveLine, line_kind}
use Rattle.mk_env.specs.Texts.{Variables}
use Rattle.mk_paths.specs.World.{FileMap}
use Rattle.mk_files.specs.Questions.{Account, quietly}
use Rattle.mk_cond.specs.declared.forms.Form.{Form}
use Rattle.mk_cond.specs.Truth.{parts_truth}
use Rattle.mk_cond_tree.specs.declared.tokens.Call.TheVariants.{Defined, Make}
use Rattle.mk_loop.specs.LoopWords.{LoopWords}
use Rattle.mk_loop.specs.Header.{header}
use Rattle.mk_eval.specs.Lines.{Loops, put_in}

-- what a directive makes of its condition; None if it has none
abbrev pub form_of : Directive → Option Form
form_of words.If = Some (record { word = Defined; negated = false })
form_of words.Ifdef = Some (record { word = Defined; negated = false })
form_of words.Ifndef = Some (record { word = Defined; negated = true })
form_of words.Ifmake = Some (record { word = Make; negated = false })
form_of words.Ifnmake = Some (record { word = Make; negated = true })
form_of words.Elif = Some (record { word = Defined; negated = false })
form_of words.Elifdef = Some (record { word = Defined; negated = false })
form_of words.Elifndef = Some (record { word = Defined; negated = true })
form_of words.Elifmake = Some (record { word = Make; negated = false })
form_of words.Elifnmake = Some (record { word = Make; negated = true })
form_of word = None

-- the same of the directive that a line of this kind is
abbrev pub form_in : TextLineKind → Option Form
form_in (DirectiveLine word rest) = form_of word
form_in kind = None

-- what follows the word of the line that begins a block, with the words of the loops around it put in; no
-- other line begins one
abbrev pub head_text : Variables → Loops → TextLineKind → Work Meter FaultKind (List ℕ)
head_text variables loops (DirectiveLine word rest) = pay >>= λ _. put_in variables loops rest
head_text variables loops kind = fail kinds.Block

-- whether the condition of a line holds, in the makefile of this name
abbrev pub condition_holds : FileMap → List ℕ → Variables → Loops → List ℕ → Work Account FaultKind Bool
condition_holds files makefile variables loops line =
    quietly (head_text variables loops (line_kind line))
    >>= λ text. parts_truth variables files makefile (option_map (λ form. (form, text)) (form_in (line_kind line)))

-- the iterations of the loop that begins with a line
abbrev pub iterations : Variables → Loops → List ℕ → Work Meter FaultKind (List LoopWords)
iterations variables loops line = head_text variables loops (line_kind line) >>= header variables
