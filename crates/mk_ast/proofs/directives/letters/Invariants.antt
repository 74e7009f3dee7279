use Rattle.std.proofs.Common.{◌≡◌, ◌+◌, drop}
use Rattle.std.specs.List.{prefix_len}
use Rattle.std.specs.Char.{is_ascii_alphabetic}
use Rattle.mk_ast.proofs.directives.letters.Given as goal

abbrev pub invariant-loop-at : goal.invariant-loop-at
invariant-loop-at l = prefix_len is_ascii_alphabetic l.bytes ≡ l.at + prefix_len is_ascii_alphabetic (drop l.at l.bytes)
