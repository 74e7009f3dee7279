use Rattle.std.proofs.Common.{◌≡◌, ◌/◌, ap, sym, ◌∙◌, map, length, string_bytes, arith}
use Rattle.std.proofs.lemmas.List.{length-map}
use Rattle.mk_text.specs.Words.{span_text}
use Rattle.mk_loop.specs.Scopes.{loop_variables}
use Rattle.mk_loop.proofs.IterationSteps.{length-iterations}
use Rattle.mk_loop.proofs.iterations.Iterations.count.Goals as goal

pub returns : goal.returns
returns c =
    let iterations = c.args.self.now in
    let names = loop_variables iterations in
    let words = map (span_text (string_bytes iterations.text)) iterations.words.items in
    let size : c.len.result ≡ length iterations.words.items = omega (arith, c.len.ensures, iterations.words.ok.0) in
    let each : c.len-2.result ≡ length iterations.names.items = omega (arith, c.len-2.ensures, iterations.names.ok.0) in
    ap (λ n. n / c.len-2.result) (size ∙ sym (length-map iterations.words.items (span_text (string_bytes iterations.text))))
    ∙ ap (λ n. length words / n) (each ∙ sym (length-map iterations.names.items string_bytes))
    ∙ sym (length-iterations (length words / length names) names words)
