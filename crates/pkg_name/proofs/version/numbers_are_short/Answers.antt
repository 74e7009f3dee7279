-- One byte is read: a digit counts with those before it, and another byte begins anew.
use Rattle.std.proofs.Common.{◌+◌, drop, get_or, sym, ap, ◌∙◌, arith}
use Rattle.std.proofs.lemmas.List.{at_drop_more, at_drop_all}
use Rattle.pkg_name.proofs.ShortNumbers.{fits_after, fits_after-none, fits_after-digit, fits_after-other, fits_after-end}
use Rattle.pkg_name.proofs.version.numbers_are_short.Goals as goal
use Rattle.pkg_name.proofs.version.numbers_are_short.Goals.{then-is_ascii_digit, else-is_ascii_digit}

pub loop-byte-init : goal.loop-byte-init
loop-byte-init c = (sym (fits_after-none c.args.text.now), omega arith)

pub loop-byte-preserved : goal.loop-byte-preserved
loop-byte-preserved c =
    let text = c.args.text.now in
    let at = c.loop-byte.byte-index in
    let behind = drop (at + 1) text in
    let read = c.loop-byte.invariant.0 ∙ at_drop_more (λ rest. fits_after c.loop-byte.digits rest) text at 0 c.loop-byte-test.true in
    elim c.if-is_ascii_digit.branch [
      | then-is_ascii_digit w ↦ (
        read ∙ fits_after-digit c.loop-byte.digits (get_or text at 0) behind (sym c.is_ascii_digit.ensures.value ∙ w.if-is_ascii_digit.true)
            ∙ ap (λ digits. fits_after digits behind) (sym w.digits-is),
        c.if-digits-gt-MOST_DIGITS.false,
      )
      | else-is_ascii_digit w ↦ (
        read ∙ fits_after-other c.loop-byte.digits (get_or text at 0) behind (sym c.is_ascii_digit.ensures.value
            ∙ w.if-is_ascii_digit.false) c.loop-byte.invariant.1
            ∙ ap (λ digits. fits_after digits behind) (sym w.digits-is),
        c.if-digits-gt-MOST_DIGITS.false,
      )
    ]

pub returns : goal.returns
returns c =
    sym (c.loop-byte.invariant.0 ∙ at_drop_all (λ rest. fits_after c.loop-byte.digits rest) c.args.text.now
    c.loop-byte.byte-index c.loop-byte-test.false
    ∙ fits_after-end c.loop-byte.digits c.loop-byte.invariant.1)
