use Rattle.std.proofs.Common.{◌∙◌, ap}
use Rattle.std.specs.List.{prefix_len}
use Rattle.std.specs.Char.{is_ascii_alphabetic}
use Rattle.mk_ast.proofs.Runs.{letters-boundary}
use Rattle.mk_ast.proofs.directives.directive_after_dot.Goals as goal

pub range-requires-clause-end_boundary : goal.range-requires-clause-end_boundary
range-requires-clause-end_boundary c =
    letters-boundary c.args.text.now c.letters-end.result c.utf8.text (c.letters-end.ensures ∙ ap (prefix_len is_ascii_alphabetic)
    c.as_bytes.ensures.value)

pub range_from-requires : goal.range_from-requires
range_from-requires c = λ some.
    letters-boundary c.args.text.now c.letters-end.result c.utf8.text (c.letters-end.ensures ∙ ap (prefix_len is_ascii_alphabetic)
    c.as_bytes.ensures.value)
