-- What conditions ask, and how they end, depends on the meter alone, and is shared by every world that answers the same.
use Rattle.std.proofs.Common.{ℕ, ℤ, Bool, true, false, not, List, [], ◌∷◌, Option, Some, None, Result, Ok, Err}
use Rattle.mk_base.specs.declared.faults.FaultKind.TheVariants as kinds
use Rattle.mk_text.specs.Words.{span_text}
use Rattle.mk_ref.specs.Outside.{outside}
use Rattle.mk_ref.specs.Atoms.{left_of}
use Rattle.mk_env.specs.Texts.{Variables}
use Rattle.mk_paths.specs.declared.file_name.NameFault.{NameFault}
use Rattle.mk_paths.specs.FileName.{name_under, directory_of, resolved}
use Rattle.mk_paths.specs.World.{FileMap}
use Rattle.mk_cond_tree.specs.declared.tokens.Call.{Call}
use Rattle.mk_cond_tree.specs.declared.tokens.Call.TheVariants.{Defined, Empty, Exists, Make, Target}
use Rattle.mk_cond_tree.specs.declared.tokens.Comparison.{Comparison}
use Rattle.mk_cond_tree.specs.declared.tokens.Side.{Side}
use Rattle.mk_cond_tree.specs.declared.tokens.Side.TheVariants.{Quoted, Bare}
use Rattle.mk_cond_tree.specs.Trees.{OrTree, OrOf, LaterAnds, NoAnds, MoreAnds, AndTree, AndOf, LaterNots, NoNots, MoreNots, NotTree}
use Rattle.mk_cond_tree.specs.Trees.{Negated, Grouped, Called, Compared, Alone}
use Rattle.mk_cond_tree.specs.Conditions.{tree_in}
use Rattle.mk_cond.specs.Numbers.{hex_or_decimal}
use Rattle.mk_cond.specs.Leaves.{Surroundings, ask_if_there, call_holds, known, compared, has_reference, lone, bare, side_alone}
use Rattle.mk_cond.specs.Truths.{or_truth, later_ands_truth, and_truth, later_nots_truth, not_truth}
use Rattle.mk_cond.specs.Truth.{readable, tree_read, condition_truth, parts_truth}
use Rattle.mk_eval.proofs.Steady as steady
use Rattle.mk_eval.proofs.Steady.{Steady, steady-give, steady-fail}
use Rattle.mk_eval.proofs.SteadyTexts.{steady-expand, steady-inside}
use Rattle.mk_eval.proofs.Shared.{Shared, shared-quietly, shared-give, shared-fail, shared-ask_has, bind, either}

steady-known : (held : Option Bool) → Steady (known held)
steady-known None = steady-fail kinds.Condition
steady-known (Some held) = steady-give held

steady-compared : (variables : Variables) (text : List ℕ) (one : Side) (comparison : Comparison) (other : Side)
    → Steady (compared variables text one comparison other)
steady-compared variables text one comparison other =
    steady.bind (steady-expand variables _) (λ left. steady.bind (steady-expand variables _) (λ right. steady-known _))

module _ (files other : FileMap) where
  shared-is_there : (name : Result (List ℕ) NameFault) → Shared other (ask_if_there files name) (ask_if_there other name)
  shared-is_there (Ok name) = shared-ask_has files other name
  shared-is_there (Err fault) = shared-give other false

-- the same surroundings among other files
abbrev among : FileMap → Surroundings → Surroundings
among other s = record s { files = other }

module _ (other : FileMap) (s : Surroundings) where
  shared-called : (call : Call) (argument : List ℕ) → Shared other (call_holds s call argument) (call_holds (among other s) call argument)
  shared-called Defined argument = shared-quietly other (steady.bind (steady-expand s.variables argument) (λ name. steady-give _))
  shared-called Empty argument = shared-quietly other (steady.bind (steady-inside s.variables argument) (λ value. steady-give _))
  shared-called Exists argument =
      bind (shared-quietly other (steady-expand s.variables argument))
      (λ file. shared-is_there s.files other (resolved (name_under (directory_of s.makefile) file)))
  shared-called Make argument = shared-give other false
  shared-called Target argument = shared-give other false

  shared-lone : (word : List ℕ) (number : Option ℤ) → Shared other (lone s word number) (lone (among other s) word number)
  shared-lone word None = shared-called s.word word
  shared-lone word (Some number) = shared-give other _

  shared-bare : (word : List ℕ) → Shared other (bare s word) (bare (among other s) word)
  shared-bare word =
      either (has_reference word) (shared-quietly other (steady.bind (steady-expand s.variables word) (λ found. steady-give _)))
      (shared-lone word (hex_or_decimal word))

  shared-alone : (side : Side) → Shared other (side_alone s side) (side_alone (among other s) side)
  shared-alone (Quoted span) = shared-quietly other (steady.bind (steady-expand s.variables _) (λ found. steady-give _))
  shared-alone (Bare span) = shared-bare (span_text s.text span)

  mutual
    shared-or : (tree : OrTree) → Shared other (or_truth s tree) (or_truth (among other s) tree)
    shared-or (OrOf and more) = bind (shared-and and) (shared-later_ands more)

    shared-later_ands : (more : LaterAnds) (held : Bool) → Shared other (later_ands_truth s more held)
        (later_ands_truth (among other s) more held)
    shared-later_ands NoAnds held = shared-give other held
    shared-later_ands (MoreAnds and more) held = either held (shared-give other true) (bind (shared-and and) (shared-later_ands more))

    shared-and : (tree : AndTree) → Shared other (and_truth s tree) (and_truth (among other s) tree)
    shared-and (AndOf term more) = bind (shared-not term) (shared-later_nots more)

    shared-later_nots : (more : LaterNots) (held : Bool) → Shared other (later_nots_truth s more held)
        (later_nots_truth (among other s) more held)
    shared-later_nots NoNots held = shared-give other held
    shared-later_nots (MoreNots term more) held = either held (bind (shared-not term) (shared-later_nots more)) (shared-give other false)

    shared-not : (tree : NotTree) → Shared other (not_truth s tree) (not_truth (among other s) tree)
    shared-not (Negated term) = bind (shared-not term) (λ held. shared-give other (not held))
    shared-not (Grouped or) = shared-or or
    shared-not (Called call argument) = shared-called call (span_text s.text argument)
    shared-not (Compared left comparison right) = shared-quietly other (steady-compared s.variables s.text left comparison right)
    shared-not (Alone side) = shared-alone side

shared-readable : (other : FileMap) (tree : Option OrTree) → Shared other (readable tree) (readable tree)
shared-readable other None = shared-fail other kinds.Condition
shared-readable other (Some tree) = shared-give other tree

shared-tree_read : (other : FileMap) (text left : List ℕ) → Shared other (tree_read text left) (tree_read text left)
shared-tree_read other text [] = shared-readable other (tree_in (outside text))
shared-tree_read other text (b ∷ left) = shared-fail other kinds.Reference

shared-condition : (other : FileMap) (s : Surroundings) → Shared other (condition_truth s) (condition_truth (among other s))
unfolding condition_truth
shared-condition other s = bind (shared-tree_read other s.text (left_of s.text)) (shared-or other s)

module _ (files other : FileMap) (variables : Variables) (makefile : List ℕ) where
  pub shared-parts : (parts : Option (_ × List ℕ)) → Shared other (parts_truth variables files makefile parts)
      (parts_truth variables other makefile parts)
  shared-parts None = shared-fail other kinds.Condition
  shared-parts (Some (form, text)) =
      bind (shared-condition other (record { variables = variables; files = files; makefile = makefile; text = text; word = form.word }))
      (λ held. shared-give other _)
