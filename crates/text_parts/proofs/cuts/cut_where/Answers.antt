-- A mark is one byte of a text, so that a character begins after it.
use Rattle.std.proofs.Common.{◌≡◌, ◌+◌, ◌<◌, ℕ, List, length, get_or, sym, ap, ◌∙◌, arith}
use Rattle.std.proofs.lemmas.Str.{IsCharBoundary-after_ascii}
use Rattle.std.specs.Str.{IsCharBoundary, IsUtf8}
use Rattle.text_parts.specs.Cuts.{IsMarkAt}
use Rattle.text_parts.proofs.cuts.cut_where.Goals as goal

after_mark : (mark : ℕ) (bytes text : List ℕ) (at : ℕ) → mark < 128 → IsUtf8 text → bytes ≡ text → IsMarkAt mark bytes at
    → IsCharBoundary text (at + 1)
after_mark mark bytes text at low utf8 same is =
    let long = ap length same in
    let inside = is.inside in
    let stands : get_or text at 0 ≡ mark = ap (λ t. get_or t at 0) (sym same) ∙ is.is_mark in
    IsCharBoundary-after_ascii text at utf8 (omega (arith, long, inside)) (omega (arith, stands, low))

pub range_from-requires : goal.range_from-requires
range_from-requires g c = λ _. after_mark c.args.mark c.as_bytes.result.now c.args.text.now c.in_ok-at.at c.requires.ascii c.utf8.text
    c.as_bytes.ensures.value c.in_ok-at.ensures.at
