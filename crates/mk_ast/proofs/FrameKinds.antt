-- Only a directive frames a block, so a line's part is known from its directive.
use Rattle.std.proofs.Common.{◌≡◌, ◌==◌, ◌&&◌, not, ◌+◌, drop, Bool, true, false, cond, ℕ, List, [], ◌∷◌, take, Option, Some, None}
use Rattle.std.proofs.Common.{unwrap_or, refl, sym, subst}
use Rattle.std.specs.List.{list_any, position}
use Rattle.std.specs.Option.{option_and_then}
use Rattle.std.proofs.lemmas.Bool.{eqb-true}
use Rattle.mk_text.specs.Blanks.{skip_blanks, trim_blanks}
use Rattle.mk_ref.specs.Outside.{outside}
use Rattle.mk_text.specs.Lines.{LogicalLine}
use Rattle.mk_ast.specs.Kinds.{TextLineKind, CommandLine, BlankLine, AssignmentLine, is_blank_line, is_command, directive_in}
use Rattle.mk_ast.specs.Kinds.{directive_after_dot, is_mark, is_word, in_front, operator_of, operator_start, assignment_at, assignment_in}
use Rattle.mk_ast.specs.Kinds.{kind_among, plain_kind, line_kind}
use Rattle.mk_ast.specs.Parts.{Part, PlainPart, part_by, part_of}

-- a kind that frames no block
abbrev FramesNone : TextLineKind → Type 0
FramesNone kind = (line : LogicalLine) → part_by line kind ≡ PlainPart line

abbrev IfFramesNone : Option TextLineKind → Type 0
IfFramesNone None = Unit {0}
IfFramesNone (Some kind) = FramesNone kind

none-at : (text : List ℕ) (at : ℕ) → IfFramesNone (assignment_at text at)
none-at text at =
    let start = operator_start text at in
    let name = trim_blanks (take start text) in
    elim (is_word name && not (list_any is_mark (take start (outside text)))) as (λ b. IfFramesNone
    (cond b (Some (AssignmentLine (operator_of (in_front text at)) name (skip_blanks (drop (at + 1) text)))) None))
    [ true ↦ λ line. refl | false ↦ tt ]

none-after : (text : List ℕ) (at : Option ℕ) → IfFramesNone (option_and_then (assignment_at text) at)
none-after text None = tt
none-after text (Some at) = none-at text at

none-among : (assignment : Option TextLineKind) (mark : Bool) → IfFramesNone assignment → FramesNone (kind_among assignment mark)
none-among (Some kind) mark is = is
none-among None true is = λ line. refl
none-among None false is = λ line. refl

none-plain : (text : List ℕ) → FramesNone (plain_kind text)
unfolding plain_kind
none-plain text =
    elim (is_blank_line text) as (λ b. FramesNone (cond b BlankLine (kind_among (assignment_in text) (list_any is_mark (outside text))))) [
      | true ↦ λ line. refl
      | false ↦ none-among (assignment_in text) (list_any is_mark (outside text)) (none-after text (position (λ b. b == 61) (outside text)))
    ]

-- the part of a line by its directive
abbrev pub part_among : LogicalLine → Option TextLineKind → Part
part_among line None = PlainPart line
part_among line (Some kind) = part_by line kind

part-or : (line : LogicalLine) (text : List ℕ) (directive : Option TextLineKind) → part_by line (unwrap_or directive (plain_kind text)) ≡
    part_among line directive
part-or line text None = none-plain text line
part-or line text (Some kind) = refl

no-directive : (line : LogicalLine) (text : List ℕ) → (is_command text ≡ true) → PlainPart line ≡ part_among line (directive_in text)
no-directive line [] is = refl
no-directive line (b ∷ rest) is =
    let tab : b ≡ 9 = eqb-true b 9 is in
    subst (λ c. PlainPart line ≡ part_among line (cond (c == 46) (directive_after_dot (skip_blanks rest)) None)) (sym tab) refl

by-kind : (line : LogicalLine) (text : List ℕ) → part_by line (line_kind text) ≡ part_among line (directive_in text)
unfolding line_kind
by-kind line text =
    let cases : (b : Bool) → is_command text ≡ b → part_by line (cond b CommandLine (unwrap_or (directive_in text) (plain_kind text))) ≡
    part_among line (directive_in text) =
    λ b. elim b as (λ b. is_command text ≡ b → part_by line (cond b CommandLine (unwrap_or (directive_in text) (plain_kind text))) ≡
    part_among line (directive_in text))
    [ true ↦ λ is. no-directive line text is | false ↦ λ is. part-or line text (directive_in text) ] in
    cases (is_command text) refl

pub part-directive : (line : LogicalLine) → part_of line ≡ part_among line (directive_in line.text)
unfolding part_of
part-directive line = by-kind line line.text
