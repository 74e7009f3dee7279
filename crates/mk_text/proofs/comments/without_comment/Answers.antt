use Rattle.std.proofs.Common.{◌++◌, ◌∷◌, [], Some, None, string_bytes, sym, ap, lit<, ◌∙◌}
use Rattle.std.proofs.lemmas.Str.Pattern.{split_parts, strip_suffix_char}
use Rattle.mk_text.specs.Lines.{without_comment}
use Rattle.mk_text.proofs.CutComments.{after_utf8, escaped_step, without_comment-cut, without_comment-none}
use Rattle.mk_text.proofs.comments.without_comment.Goals as goal

pub loop-front-preserved : goal.loop-front-preserved
loop-front-preserved c =
    let rest = c.loop-front.rest.now in
    let front = c.in-Some.front.now in
    let behind = c.in-Some.behind.now in
    let kept = c.in-Some-strip_suffix.kept in
    let parts = split_parts 35 rest (Some (c.in-Some.front, c.in-Some.behind)) c.in-Some.ensures.cases (lit< tt) in
    let mark = strip_suffix_char 92 front (Some kept) c.in-Some-strip_suffix.ensures.cases (lit< tt) in
    let sign = c.in_ok-push-in-Some-strip_suffix.ensures.ascii (lit< tt) in
    let pushed = c.in_ok-push-in-Some-strip_suffix.ensures.bytes ∙ ap (λ l. string_bytes c.push_str.new.self ++ l) sign
    ∙ ap (λ l. l ++ 35 ∷ []) c.in_ok-push_str-in-Some-strip_suffix.ensures.bytes in (
      after_utf8 rest front behind parts.0 c.loop-front.invariant.0,
      ap (λ l. l ++ without_comment behind) pushed
          ∙ escaped_step (string_bytes c.loop-front.plain) rest front behind kept.now (without_comment c.args.line.now)
          c.loop-front.invariant.1 parts.0 parts.1 mark,
    )

pub returns-in-None : goal.returns-in-None
returns-in-None c =
    let parts = split_parts 35 c.loop-front.rest.now (Some (c.in-Some.front, c.in-Some.behind)) c.in-Some.ensures.cases (lit< tt) in
    let cut = without_comment-cut c.in-Some.front.now c.in-Some.behind.now parts.1
    (strip_suffix_char 92 c.in-Some.front.now None c.in-None.ensures.cases (lit< tt)) in
    c.in_ok-push_str-in-None.ensures.bytes ∙ ap (λ l. string_bytes c.loop-front.plain ++ l) (sym cut)
    ∙ ap (λ l. string_bytes c.loop-front.plain ++ without_comment l) (sym parts.0) ∙ c.loop-front.invariant.1

pub returns : goal.returns
returns c =
    let none = split_parts 35 c.loop-front.rest.now None c.in_default.ensures.cases (lit< tt) in
    c.in_ok-push_str.ensures.bytes ∙ ap (λ l. string_bytes c.loop-front.plain ++ l) (sym (without_comment-none c.loop-front.rest.now none))
    ∙ c.loop-front.invariant.1
