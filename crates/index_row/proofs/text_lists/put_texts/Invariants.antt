-- The texts up to here are written.
use Rattle.std.proofs.Common.{map, string_bytes}
use Rattle.index_row.specs.Reads.{text}
use Rattle.index_row.proofs.Walks.{Written}
use Rattle.index_row.proofs.text_lists.put_texts.Given as goal

abbrev pub invariant-loop-text : goal.invariant-loop-text
invariant-loop-text l = Written text (map string_bytes l.written) l.text-index l.initial.out.items l.out.items
