use Rattle.std.proofs.Common.{◌≡◌}
use Rattle.mk_text.specs.Lines.{logical_lines}
use Rattle.mk_ast.specs.declared.nodes.TheConstants.{BLOCKS}
use Rattle.mk_ast.specs.Blocks.{start_state, read_on}
use Rattle.mk_ast.specs.ReaderViews.{state_of_reader}
use Rattle.mk_ast.proofs.parser.parse_text.Given as goal

abbrev pub invariant-loop-line : goal.invariant-loop-line
invariant-loop-line l =
    (goal.iterator-loop-line).can_next l.line-iterator ×
    (goal.iterator-loop-line).is_finite l.line-iterator ×
    (read_on BLOCKS start_state (logical_lines l.text) ≡ read_on BLOCKS (state_of_reader l.reader) l.line-iterator.rest.items)
