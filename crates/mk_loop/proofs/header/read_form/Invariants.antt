use Rattle.std.proofs.Common.{◌≡◌, ◌++◌, map, drop, option_map, string_bytes}
use Rattle.mk_text.specs.Words.{word_spans}
use Rattle.mk_loop.specs.Header.{header_parts}
use Rattle.mk_loop.proofs.header.read_form.Given as goal

abbrev pub invariant-loop-span : goal.invariant-loop-span
invariant-loop-span l =
    option_map (λ parts. (map string_bytes l.names.items ++ parts.0, parts.1)) (header_parts l.header (drop l.span-index l.span-items))
    ≡ header_parts l.header (word_spans l.header)
