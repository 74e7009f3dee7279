-- Which lines are blank.
use Rattle.std.proofs.Common.{◌≡◌, ◌∙◌, ◌==◌, ℕ, Bool, true, false, List, [], ◌∷◌, ◌++◌, length, reverse, Option, Some, None, option_map}
use Rattle.std.proofs.Common.{unwrap_or, cond, refl, sym, ap, subst, arith}
use Rattle.std.proofs.lemmas.Bool.Decides.{nat_tests}
use Rattle.std.proofs.lemmas.List.{reverse-append, length-reverse}
use Rattle.std.specs.List.{list_any, position}
use Rattle.std.specs.Option.{option_and_then}
use Rattle.mk_ref.specs.Outside.{outside}
use Rattle.mk_text.specs.Blanks.{is_blank, skip_blanks, trim_blanks}
use Rattle.mk_ast.specs.declared.kinds.Directive.{Directive}
use Rattle.mk_ast.specs.declared.kinds.Operator.{Operator}
use Rattle.mk_ast.specs.Kinds.{TextLineKind, CommandLine, BlankLine, DirectiveLine, AssignmentLine, DependencyLine, BadLine, is_command}
use Rattle.mk_ast.specs.Kinds.{is_blank_line, directive_after_dot, directive_in, assignment_at, assignment_in, is_mark, kind_among}
use Rattle.mk_ast.specs.Kinds.{plain_kind, line_kind}

abbrev NotBlank : TextLineKind → Type 0
NotBlank BlankLine = ⊥
NotBlank CommandLine = Unit {0}
NotBlank (DirectiveLine word rest) = Unit {0}
NotBlank (AssignmentLine operator name rest) = Unit {0}
NotBlank DependencyLine = Unit {0}
NotBlank BadLine = Unit {0}

abbrev NotBlankIn : Option TextLineKind → Type 0
NotBlankIn None = Unit {0}
NotBlankIn (Some kind) = NotBlank kind

named : (rest : Directive → List ℕ) (word : Option Directive) → NotBlankIn (option_map (λ word. DirectiveLine word (rest word)) word)
named rest None = tt
named rest (Some word) = tt

pub directive : (text : List ℕ) → NotBlankIn (directive_in text)
directive [] = tt
directive (b ∷ rest) = elim (b == 46) as (λ test. NotBlankIn (cond test (directive_after_dot (skip_blanks rest)) None))
    [ true ↦ named _ _ | false ↦ tt ]

found : (text : List ℕ) (at : ℕ) (test : Bool) (operator : Operator) (name value : List ℕ)
    → NotBlankIn (cond test (Some (AssignmentLine operator name value)) None)
found text at true operator name value = tt
found text at false operator name value = tt

assignment : (text : List ℕ) (at : Option ℕ) → NotBlankIn (option_and_then (assignment_at text) at)
assignment text None = tt
assignment text (Some at) = found text at _ _ _ _

among : (found : Option TextLineKind) (mark : Bool) → NotBlankIn found → NotBlank (kind_among found mark)
among None true found = tt
among None false found = tt
among (Some kind) mark found = found

plain-kind : (text : List ℕ) (blank : Bool) → is_blank_line text ≡ blank → plain_kind text ≡ cond blank BlankLine
    (kind_among (assignment_in text) (list_any is_mark (outside text)))
unfolding plain_kind
plain-kind text blank is = ap (λ b. cond b BlankLine (kind_among (assignment_in text) (list_any is_mark (outside text)))) is

plainly : (text : List ℕ) → is_blank_line text ≡ false → NotBlank (plain_kind text)
plainly text is = subst NotBlank (sym (plain-kind text false is))
    (among (assignment_in text) _ (assignment text (position (λ b. b == 61) (outside text))))

either : (found : Option TextLineKind) (kind : TextLineKind) → NotBlankIn found → NotBlank kind → NotBlank (unwrap_or found kind)
either None kind found other = other
either (Some one) kind found other = found

line-kind : (text : List ℕ) (command : Bool) → is_command text ≡ command → line_kind text ≡ cond command CommandLine
    (unwrap_or (directive_in text) (plain_kind text))
unfolding line_kind
line-kind text command is = ap (λ b. cond b CommandLine (unwrap_or (directive_in text) (plain_kind text))) is

isn't : (kind : TextLineKind) → NotBlank kind → kind ≡ BlankLine → ⊥
isn't kind other is = subst NotBlank is other

-- a command isn't blank
pub command-isn't : (text : List ℕ) → is_command text ≡ true → line_kind text ≡ BlankLine → ⊥
command-isn't text is = isn't (line_kind text) (subst NotBlank (sym (line-kind text true is)) tt)

-- a line with something other than blanks isn't blank
pub other-isn't : (text : List ℕ) → is_blank_line text ≡ false → line_kind text ≡ BlankLine → ⊥
other-isn't text is =
    let cases : (command : Bool) → is_command text ≡ command → NotBlank (line_kind text) =
    λ command. elim command as (λ command. is_command text ≡ command → NotBlank (line_kind text)) [
      | true ↦ λ same. subst NotBlank (sym (line-kind text true same)) tt
      | false ↦ λ same. subst NotBlank (sym (line-kind text false same))
          (either (directive_in text) (plain_kind text) (directive text) (plainly text is))
    ] in
    isn't (line_kind text) (cases (is_command text) refl)

-- a byte that isn't blank stays
kept : (x : ℕ) (rest : List ℕ) (blank : Bool) → (length (skip_blanks rest) ≡ 0 → ⊥) → length (cond blank (skip_blanks rest) (x ∷ rest)) ≡ 0
    → ⊥
kept x rest true left = left
kept x rest false left = λ is. omega (arith, is)

skip-last : (xs : List ℕ) (b : ℕ) → is_blank b ≡ false → length (skip_blanks (xs ++ b ∷ [])) ≡ 0 → ⊥
skip-last [] b other = subst (λ test. length (cond test (skip_blanks []) (b ∷ [])) ≡ 0 → ⊥) (sym other) (λ is. omega (arith, is))
skip-last (x ∷ xs) b other = kept x (xs ++ b ∷ []) (is_blank x) (skip-last xs b other)

is-zero : (text : List ℕ) → length (reverse text) ≡ 0 → length text ≡ 0
is-zero text is = sym (length-reverse text) ∙ is

dotted : (rest : List ℕ) → length (trim_blanks (46 ∷ rest)) ≡ 0 → ⊥
unfolding trim_blanks
dotted rest is =
    skip-last (reverse rest) 46 refl (subst (λ (s : List ℕ). length (skip_blanks s) ≡ 0) (reverse-append (46 ∷ []) rest) (is-zero _ is))

equal : (a b : ℕ) → (a == b) ≡ true → a ≡ b
equal a b is = grind (arith, nat_tests)

-- a line with nothing but blanks is blank, unless it is a command
pub blank-is : (text : List ℕ) → is_command text ≡ false → is_blank_line text ≡ true → line_kind text ≡ BlankLine
blank-is [] command is = line-kind [] false command ∙ plain-kind [] true is
blank-is (b ∷ rest) command is =
    let cases : (dot : Bool) → (b == 46) ≡ dot → unwrap_or (directive_in (b ∷ rest)) (plain_kind (b ∷ rest)) ≡ BlankLine =
    λ dot. elim dot as (λ dot. (b == 46) ≡ dot → unwrap_or (directive_in (b ∷ rest)) (plain_kind (b ∷ rest)) ≡ BlankLine) [
      | true ↦ λ same. absurd (dotted rest (subst (λ (b : ℕ). length (trim_blanks (b ∷ rest)) ≡ 0) (equal b 46 same) (equal _ 0 is)))
      | false ↦ λ same. ap (λ test. unwrap_or (cond test (directive_after_dot (skip_blanks rest)) None) (plain_kind (b ∷ rest))) same
          ∙ plain-kind (b ∷ rest) true is
    ] in
    line-kind (b ∷ rest) false command ∙ cases (b == 46) refl
