use Rattle.std.proofs.Common.{Some, None, refl, sym, ◌∙◌, drop}
use Rattle.mk_cond_tree.specs.Scanner.{blanks_end}
use Rattle.mk_cond_tree.proofs.Scans.{word-is, placed-bare, placed-call}
use Rattle.mk_cond_tree.proofs.scanner.word_at.Goals as goal

pub returns-in_default-clause-token : goal.returns-in_default-clause-token
returns-in_default-clause-token c =
    let bytes = c.args.bytes.now in
    let end = c.side_end-end.result in
    word-is bytes c.args.at end (blanks_end end (drop end bytes)) None c.requires c.side_end-end.ensures.place refl
    (sym c.in_default.is ∙ c.call_of.ensures)

pub returns-then-not-is_at-clause-token : goal.returns-then-not-is_at-clause-token
returns-then-not-is_at-clause-token c =
    let bytes = c.args.bytes.now in
    let end = c.side_end-end.result in
    placed-bare bytes c.args.at end c.blanks_end-left.result c.in-Some.call c.if-not-is_at.ensures.value
    ∙ word-is bytes c.args.at end c.blanks_end-left.result (Some c.in-Some.call) c.requires c.side_end-end.ensures.place
    c.blanks_end-left.ensures.place
    (sym c.in-Some.is ∙ c.call_of.ensures)

pub returns-in-Some-closing_place-clause-token : goal.returns-in-Some-closing_place-clause-token
returns-in-Some-closing_place-clause-token c =
    let bytes = c.args.bytes.now in
    let end = c.side_end-end.result in
    placed-call bytes c.args.at end c.blanks_end-left.result c.in-Some.call (Some c.in-Some-closing_place.close)
    c.if-not-is_at.ensures.value c.in-Some-closing_place.ensures.place
    ∙ word-is bytes c.args.at end c.blanks_end-left.result (Some c.in-Some.call) c.requires c.side_end-end.ensures.place
    c.blanks_end-left.ensures.place
    (sym c.in-Some.is ∙ c.call_of.ensures)

pub returns-in-None-clause-token : goal.returns-in-None-clause-token
returns-in-None-clause-token c =
    let bytes = c.args.bytes.now in
    let end = c.side_end-end.result in
    placed-call bytes c.args.at end c.blanks_end-left.result c.in-Some.call None c.if-not-is_at.ensures.value c.in-None.ensures.place
    ∙ word-is bytes c.args.at end c.blanks_end-left.result (Some c.in-Some.call) c.requires c.side_end-end.ensures.place
    c.blanks_end-left.ensures.place
    (sym c.in-Some.is ∙ c.call_of.ensures)
