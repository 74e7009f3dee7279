-- The text that has this number.
use Rattle.std.proofs.Common.{◌≡◌, ◌<◌, ◌∙◌, sym, ap, arith, ℕ, List, [], length, Bor}
use Rattle.std.proofs.lemmas.List.{length-map, get_or-map}
use Rattle.std.specs.Str.{bytes_eq}
use Rattle.general_facts.specs.Texts.{bytes_eq-sym}
use Rattle.text_graph.specs.Numbers.{place_of, text_at, texts_met}
use Rattle.text_graph.proofs.Members.{equal_texts}
use Rattle.text_graph.proofs.numbers.Numbers.is_at.Goals as goal

abbrev now : Bor (List ℕ) → List ℕ
now text = text.now

pub returns-then-number-len-clause-is : goal.returns-then-number-len-clause-is
returns-then-number-len-clause-is c = λ same.
    let texts = c.args.self.now.texts.items in
    let number = c.args.number in
    let inside : number < length texts = omega (arith, c.if-number-len.true, c.len.ensures) in
    let met = texts_met c.args.self.now in
    let is : c.args.text.now ≡ text_at met number =
    sym (equal_texts c.index.result.now.now c.args.text.now (sym c.eq.ensures ∙ same)) ∙ ap now c.index.ensures
    ∙ sym (get_or-map now texts number c.index.result.now [] inside) in
    ap (place_of met) is ∙ c.requires.once number (omega (arith, inside, length-map texts now))

pub returns-then-number-len-clause-differs : goal.returns-then-number-len-clause-differs
returns-then-number-len-clause-differs c = λ differs within.
    let texts = c.args.self.now.texts.items in
    let number = c.args.number in
    let inside : number < length texts = omega (arith, c.if-number-len.true, c.len.ensures) in
    let there : c.index.result.now.now ≡ text_at (texts_met c.args.self.now) number = ap now c.index.ensures
    ∙ sym (get_or-map now texts number c.index.result.now [] inside) in
    ap (bytes_eq c.args.text.now) (sym there) ∙ bytes_eq-sym c.args.text.now c.index.result.now.now ∙ sym c.eq.ensures ∙ differs
