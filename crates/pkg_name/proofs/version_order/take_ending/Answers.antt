-- Digits end the text, and the byte before them, if there is one, is the letter or it isn't.
use Rattle.std.proofs.Common.{◌≡◌, ◌==◌, [], ◌∷◌, sym, ap, ◌∙◌}
use Rattle.std.proofs.lemmas.Bool.{and_left, and_right, ne_eqb}
use Rattle.std.specs.List.{list_all}
use Rattle.std.specs.Char.{is_ascii_digit}
use Rattle.pkg_name.specs.Version.{has_short_numbers}
use Rattle.pkg_name.specs.Order.{ended_by, is_number, number_written}
use Rattle.pkg_name.proofs.ShortNumbers.{short-front, short-take, short-drop, short-digits}
use Rattle.pkg_name.proofs.Endings.{whole, ending_at, ending_none, ending_taken, ending_kept, number-some, number-none}
use Rattle.pkg_name.proofs.version_order.take_ending.Goals as goal
use Rattle.pkg_name.proofs.version_order.take_ending.Goals.{else-last-letter-via-then-last-letter+else-not-is_empty}
use Rattle.pkg_name.proofs.version_order.take_ending.Goals.{else-last-letter-via-else-last-letter}

pub returns-in_default-clause-before : goal.returns-in_default-clause-before
returns-in_default-clause-before c =
    sym (ap (λ ended. ended.before) (ending_none c.args.letter c.final_digits.result c.args.text.now
    c.split_at.result.0.now c.requires.no_digit
    c.final_digits.ensures.digits c.split_at.ensures.front_len c.in_default.ensures.cases))

pub returns-in_default-clause-number : goal.returns-in_default-clause-number
returns-in_default-clause-number c =
    sym (ap (λ ended. ended.number) (ending_none c.args.letter c.final_digits.result c.args.text.now
    c.split_at.result.0.now c.requires.no_digit
    c.final_digits.ensures.digits c.split_at.ensures.front_len c.in_default.ensures.cases))

pub number-requires-clause-few : goal.number-requires-clause-few
number-requires-clause-few c =
    rw c.split_at.ensures.back
    (short-digits _ c.final_digits.ensures.digits (short-drop c.final_digits.result c.args.text.now c.requires.short))

-- the end that is taken off
taken : (c : goal.After-number) → ended_by c.args.letter c.args.text.now ≡ record {
  before = c.in-Some.before.now;
  number =
      number_written c.split_at.result.1.now;
}
taken c =
    let at = ending_at c.args.letter c.final_digits.result c.in-Some.last.now c.args.text.now c.split_at.result.0.now
    c.split_at.result.1.now c.in-Some.before.now
    c.requires.no_digit c.final_digits.ensures.digits c.final_digits.ensures.before c.split_at.ensures.front c.split_at.ensures.back
    c.split_at.ensures.front_len
    c.in-Some.ensures.cases.0 in
    let digits = ap (list_all is_ascii_digit) c.split_at.ensures.back ∙ c.final_digits.ensures.digits in
    ending_taken c.args.letter c.in-Some.last.now c.args.text.now c.split_at.result.1.now c.in-Some.before.now at c.if-last-letter.true
    (number-some c.split_at.result.1.now digits (sym c.is_empty.ensures ∙ c.if-not-is_empty.true))

pub returns-then-not-is_empty-clause-before : goal.returns-then-not-is_empty-clause-before
returns-then-not-is_empty-clause-before c = sym (ap (λ ended. ended.before) (taken c))

pub returns-then-not-is_empty-clause-number : goal.returns-then-not-is_empty-clause-number
returns-then-not-is_empty-clause-number c = c.number.ensures ∙ sym (ap (λ ended. ended.number) (taken c))

pub returns-then-not-is_empty-clause-short : goal.returns-then-not-is_empty-clause-short
returns-then-not-is_empty-clause-short c =
    let front = short-take c.final_digits.result c.args.text.now c.requires.short in
    short-front c.in-Some.before.now (c.in-Some.last.now ∷ [])
    (ap has_short_numbers (sym c.in-Some.ensures.cases.0 ∙ c.split_at.ensures.front) ∙ front)

-- no end is taken off
kept : (c : goal.Joined-else-last-letter) → ended_by c.args.letter c.args.text.now ≡ whole c.args.text.now
kept c =
    let at = ending_at c.args.letter c.final_digits.result c.in-Some.last.now c.args.text.now c.split_at.result.0.now
    c.split_at.result.1.now c.in-Some.before.now
    c.requires.no_digit c.final_digits.ensures.digits c.final_digits.ensures.before c.split_at.ensures.front c.split_at.ensures.back
    c.split_at.ensures.front_len
    c.in-Some.ensures.cases.0 in
    let behind = c.split_at.result.1.now in
    ending_kept c.args.letter c.in-Some.last.now c.args.text.now behind c.in-Some.before.now at
    (elim c.else-last-letter.branch [
      | else-last-letter-via-then-last-letter+else-not-is_empty w ↦
          and_right (c.in-Some.last.now == c.args.letter) (is_number behind)
          (number-none behind (sym w.is_empty.ensures ∙ w.if-not-is_empty.false))
      | else-last-letter-via-else-last-letter w ↦
          and_left (c.in-Some.last.now == c.args.letter) (is_number behind) (ne_eqb c.in-Some.last.now c.args.letter w.if-last-letter.false)
    ])

pub returns-else-last-letter-clause-before : goal.returns-else-last-letter-clause-before
returns-else-last-letter-clause-before c = sym (ap (λ ended. ended.before) (kept c))

pub returns-else-last-letter-clause-number : goal.returns-else-last-letter-clause-number
returns-else-last-letter-clause-number c = sym (ap (λ ended. ended.number) (kept c))
