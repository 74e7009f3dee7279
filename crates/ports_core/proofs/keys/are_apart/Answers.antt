use Rattle.std.proofs.Common.{sym, ◌∙◌, ap, ◌+◌, drop}
use Rattle.std.specs.Prelude.{not, ◌&&◌, string_eq}
use Rattle.std.proofs.Math.ListN.{drop_of_length-le}
use Rattle.ports_core.specs.Keys.{key_texts, are_apart}
use Rattle.ports_core.proofs.KeyLemmas.{are_apart-drop, list_any-rest}
use Rattle.ports_core.proofs.keys.are_apart.Goals as goal

-- a key after this one is the same
pub returns-then-contains : goal.returns-then-contains
returns-then-contains c =
    let step = are_apart-drop c.args.keys.now c.loop-i.i c.index-keys-i.result c.loop-i-test.true c.index-keys-i.is in
    let found = list_any-rest (λ other. string_eq other c.index-keys-i.result) (c.loop-i.i + 1) c.args.keys.now _ c.contains.ensures.value
    ∙ c.if-contains.true in
    sym (c.loop-i.invariant ∙ step ∙ ap (λ b. not b && are_apart (key_texts (drop (c.loop-i.i + 1) c.args.keys.now))) found)

-- none is
pub loop-i-preserved : goal.loop-i-preserved
loop-i-preserved c =
    let step = are_apart-drop c.args.keys.now c.loop-i.i c.index-keys-i.result c.loop-i-test.true c.index-keys-i.is in
    let found = list_any-rest (λ other. string_eq other c.index-keys-i.result) (c.loop-i.i + 1) c.args.keys.now _ c.contains.ensures.value
    ∙ c.if-contains.false in
    c.loop-i.invariant ∙ step ∙ ap (λ b. not b && are_apart (key_texts (drop (c.loop-i.i + 1) c.args.keys.now))) found

pub returns : goal.returns
unfolding are_apart
returns c = sym (c.loop-i.invariant ∙ ap (λ ks. are_apart (key_texts ks)) (drop_of_length-le c.args.keys.now c.loop-i-test.false))
