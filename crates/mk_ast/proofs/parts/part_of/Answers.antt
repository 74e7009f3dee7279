use Rattle.std.proofs.Common.{sym, ap, ◌∙◌}
use Rattle.mk_ast.specs.Kinds.{directive_in}
use Rattle.mk_ast.proofs.FrameKinds.{part_among, part-directive}
use Rattle.mk_ast.proofs.parts.part_of.Goals as goal

pub returns-in-Some : goal.returns-in-Some
returns-in-Some c =
    let line = c.args.line.now in
    c.part_by.ensures line ∙ ap (part_among line) (c.in-Some.ensures ∙ ap directive_in c.text.ensures) ∙ sym (part-directive line)

pub returns-in-None : goal.returns-in-None
returns-in-None c =
    let line = c.args.line.now in
    ap (part_among line) (c.in-None.ensures ∙ ap directive_in c.text.ensures) ∙ sym (part-directive line)
