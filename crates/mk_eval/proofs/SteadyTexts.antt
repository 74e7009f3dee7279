-- What texts mean among variables is the same under a lower limit that isn't reached.
use Rattle.std.proofs.Common.{◌++◌, ℕ, suc, zero, nat_lt, List, [], ◌∷◌, length, Option, Some, None}
use Rattle.mk_base.specs.declared.faults.FaultKind.TheVariants as kinds
use Rattle.mk_base.specs.Outcome.{give, fail}
use Rattle.mk_ref.specs.Atoms.{atoms_of, left_of, TextAtom}
use Rattle.mk_ref.specs.Pieces.{TextPiece, LiteralPiece, EscapedDollarPiece, ReferencePiece, pieces_of}
use Rattle.mk_text.specs.declared.limits.TheConstants.{TEXT_LIMIT}
use Rattle.mk_mods.specs.Actions.{Symbol, Byte, Whole, Reference, Action, Match, Exclude, Substitute, Change, Suffix}
use Rattle.mk_mods.specs.Grammar.{modifiers_of}
use Rattle.mk_env.specs.Texts.{Variables, language_of, text_in}
use Rattle.mk_env.specs.Expansion.{References, bounded, piece_meaning, where_whole, text_meaning, symbol_meaning, symbols_meaning, made}
use Rattle.mk_env.specs.Expansion.{modified, actions_of, readable, value_meaning, is_among, named_meaning, is_kept, by_name, reference}
use Rattle.mk_env.specs.Expansion.{expand, expand_now, by_inside, inside_meaning, modified_by, variable}
use Rattle.mk_eval.proofs.Steady.{Steady, steady-give, steady-fail, steady-choice, steady-pay, bind, either, over}

-- references that are all so
pub record AreSteady (references : References) : Type 0 where
  pub all : (written name : List ℕ) (modifiers : Option (List ℕ)) → Steady (references written name modifiers)

pub steady-bounded : (text : List ℕ) → Steady (bounded text)
steady-bounded text = steady-choice (nat_lt TEXT_LIMIT (length text)) (fail kinds.Length) (give text)
    (steady-fail kinds.Length) (steady-give text)

pub steady-made : (text : Option (List ℕ)) → Steady (made text)
steady-made None = steady-fail kinds.Length
steady-made (Some text) = steady-give text

pub steady-readable : (actions : Option (List Action)) → Steady (readable actions)
steady-readable None = steady-fail kinds.Modifier
steady-readable (Some actions) = steady-give actions

module _ (references : References) (are : AreSteady references) where
  steady-piece : (piece : TextPiece) → Steady (piece_meaning references piece)
  steady-piece (LiteralPiece bytes) = steady-give bytes
  steady-piece EscapedDollarPiece = steady-give (36 ∷ [])
  steady-piece (ReferencePiece written name modifiers) = are.all written name modifiers

  steady-where : (left : List ℕ) (pieces : List TextPiece) → Steady (where_whole references left pieces)
  steady-where [] pieces = over (λ text piece. bind (steady-piece piece) (λ found. steady-bounded (text ++ found))) [] pieces
  steady-where (b ∷ left) pieces = steady-fail kinds.Reference

  pub steady-text : (text : List ℕ) → Steady (text_meaning references text)
  unfolding text_meaning
  steady-text text = steady-where (left_of text) (pieces_of (atoms_of text))

  steady-symbol : (old : List ℕ) (symbol : Symbol) → Steady (symbol_meaning references old symbol)
  steady-symbol old (Byte b) = steady-give (b ∷ [])
  steady-symbol old Whole = steady-give old
  steady-symbol old (Reference source) = steady-text source

  steady-symbols : (old : List ℕ) (symbols : List Symbol) → Steady (symbols_meaning references old symbols)
  steady-symbols old symbols = over (λ text symbol. bind (steady-symbol old symbol) (λ found. steady-bounded (text ++ found))) [] symbols

  pub steady-modified : (value : List ℕ) (action : Action) → Steady (modified references value action)
  steady-modified value (Match pattern) = bind (steady-text pattern) (λ found. steady-made _)
  steady-modified value (Exclude pattern) = bind (steady-text pattern) (λ found. steady-made _)
  steady-modified value (Substitute s) = bind (steady-symbols [] s.old) (λ old. bind (steady-symbols old s.new) (λ new. steady-made _))
  steady-modified value (Change word_map) = steady-made _
  steady-modified value (Suffix old new) = bind (steady-text old) (λ old. bind (steady-text new) (λ new. steady-made _))

  pub steady-value : (value : Option (List ℕ)) → Steady (value_meaning references value)
  steady-value None = steady-give []
  steady-value (Some value) = steady-text value

  pub steady-by_inside : (text : List ℕ) (atoms : List TextAtom) (left : List ℕ) → Steady (by_inside references text atoms left)
  steady-by_inside text atoms [] = are.all text _ _
  steady-by_inside text atoms (b ∷ left) = steady-fail kinds.Reference

module _ (references : List (List ℕ) → References) (are : (active : List (List ℕ)) → AreSteady (references active)) (variables : Variables)
    (active : List (List ℕ)) where
  pub steady-named : (name : List ℕ) (modifiers : Option (List ℕ)) → Steady (named_meaning references variables active name modifiers)
  steady-named name modifiers =
      bind (either (is_among name active) (steady-fail kinds.Recursive) (steady-readable (actions_of (language_of variables) modifiers)))
      (λ actions. bind (steady-value (references (name ∷ active)) (are (name ∷ active)) (text_in variables name))
      (λ value. over (steady-modified (references active) (are active)) value actions))

  pub steady-by_name : (undefined_gives : _) (written : List ℕ) (modifiers : Option (List ℕ)) (name : List ℕ)
      → Steady (by_name undefined_gives references variables active written modifiers name)
  steady-by_name undefined_gives written modifiers name =
      either (is_kept undefined_gives (text_in variables name)) (steady-give written) (steady-named name modifiers)

pub are-steady : (undefined_gives : _) (levels : ℕ) (variables : Variables) (active : List (List ℕ))
    → AreSteady (reference undefined_gives levels variables active)
unfolding reference
are-steady undefined_gives zero variables active = record { all = λ written name modifiers. bind steady-pay (λ _. steady-fail kinds.Depth) }
are-steady undefined_gives (suc levels) variables active = record {
  all = λ written name modifiers. bind steady-pay (λ _. bind (steady-text _ (are-steady _ levels variables active) name)
      (steady-by_name _ (are-steady _ levels variables) variables active undefined_gives written modifiers));
}

pub steady-expand : (variables : Variables) (text : List ℕ) → Steady (expand variables text)
steady-expand variables text = steady-text _ (are-steady _ 32 variables []) text

pub steady-expand_now : (variables : Variables) (text : List ℕ) → Steady (expand_now variables text)
steady-expand_now variables text = steady-text _ (are-steady _ 32 variables []) text

pub steady-inside : (variables : Variables) (text : List ℕ) → Steady (inside_meaning variables text)
steady-inside variables text = steady-by_inside _ (are-steady _ 32 variables []) text (atoms_of text) (left_of text)

pub steady-modified_by : (variables : Variables) (modifiers text : List ℕ) → Steady (modified_by variables modifiers text)
steady-modified_by variables modifiers text =
    bind (steady-readable (modifiers_of (language_of variables) modifiers))
    (λ actions. over (steady-modified _ (are-steady _ 31 variables [])) text actions)

pub steady-variable : (variables : Variables) (name : List ℕ) → Steady (variable variables name)
steady-variable variables name = bind steady-pay (λ _. steady-named _ (are-steady _ 31 variables) variables [] name None)
