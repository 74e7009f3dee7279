-- Without a number sign no comment is cut.
use Rattle.std.proofs.Common.{◌≡◌, string_bytes, sym, subst, lit<}
use Rattle.std.proofs.lemmas.Bool.{both_ways}
use Rattle.std.proofs.lemmas.Str.Pattern.{contains_char}
use Rattle.std.specs.Result.{IfOk}
use Rattle.mk_text.specs.Blanks.{trim_blanks}
use Rattle.mk_text.specs.Lines.{without_comment}
use Rattle.mk_text.proofs.CutComments.{without_comment-none}
use Rattle.mk_text.proofs.lines.plain_text.Goals as goal

pub returns : goal.returns
returns c =
    let line = c.as_str.result.now in
    let there = contains_char 35 line c.contains.result c.contains.ensures.cases (lit< tt) in
    let whole = without_comment-none line (λ at inside is. both_ways c.contains.result c.if-contains.false (there.1 at inside is)) in
    let kept = subst (λ text. without_comment text ≡ text) c.as_str.ensures.value whole in
    subst (λ text. IfOk c.trimmed-2.result (λ kept. string_bytes kept ≡ trim_blanks text)) (sym kept) c.trimmed-2.ensures
