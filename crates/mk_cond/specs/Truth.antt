-- The truth of a condition under its directive.
use Rattle.std.specs.Prelude.{ℕ, Bool, not, if◌then◌else◌, List, [], ◌∷◌, Option, Some, None}
use Rattle.mk_base.specs.declared.faults.FaultKind.{FaultKind}
use Rattle.mk_base.specs.declared.faults.FaultKind.TheVariants as kinds
use Rattle.mk_base.specs.Outcome.{Work, give, fail, ◌>>=◌}
use Rattle.mk_ref.specs.Atoms.{left_of}
use Rattle.mk_ref.specs.Outside.{outside}
use Rattle.mk_env.specs.Texts.{Variables}
use Rattle.mk_paths.specs.World.{FileMap}
use Rattle.mk_files.specs.Questions.{Account}
use Rattle.mk_cond_tree.specs.Trees.{OrTree}
use Rattle.mk_cond_tree.specs.Conditions.{tree_in}
use Rattle.mk_cond.specs.declared.forms.Form.{Form}
use Rattle.mk_cond.specs.Forms.{parted}
use Rattle.mk_cond.specs.Leaves.{Surroundings}
use Rattle.mk_cond.specs.Truths.{or_truth}

-- the tree of a condition; if there is none, that is a fault
abbrev pub readable : Option OrTree → Work Account FaultKind OrTree
readable None = fail kinds.Condition
readable (Some tree) = give tree

-- the tree of a text of which this is left; if a reference doesn't end, that is the fault, whatever
-- else is wrong
abbrev pub tree_read : List ℕ → List ℕ → Work Account FaultKind OrTree
tree_read text [] = readable (tree_in (outside text))
tree_read text (b ∷ left) = fail kinds.Reference

-- a condition in its surroundings: it is read whole before any of it is looked at
unfoldable pub condition_truth : Surroundings → Work Account FaultKind Bool
condition_truth s a = (tree_read s.text (left_of s.text) >>= or_truth s) a

-- the same under a directive of this form, which may negate it
abbrev pub directive_truth : Form → Surroundings → Work Account FaultKind Bool
directive_truth form s = condition_truth s >>= λ held. give (if form.negated then not held else held)

-- the same of a form and a condition, if there are any, in the makefile of this name
abbrev pub parts_truth : Variables → FileMap → List ℕ → Option (Form × List ℕ) → Work Account FaultKind Bool
parts_truth variables files makefile None = fail kinds.Condition
parts_truth variables files makefile (Some (form, text)) =
    directive_truth form (record { variables = variables; files = files; makefile = makefile; text = text; word = form.word })

-- the truth of a text that is a directive's word, a blank and a condition, in the makefile of this name
abbrev pub truth : Variables → FileMap → List ℕ → List ℕ → Work Account FaultKind Bool
truth variables files makefile text = parts_truth variables files makefile (parted text)
