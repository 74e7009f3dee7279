use Rattle.std.proofs.Common.{string_bytes, subst, sym}
use Rattle.std.specs.Prelude.{OnOk}
use Rattle.std.proofs.lemmas.Simd.{map-map}
use Rattle.serde_json.specs.Data.{array, string}
use Rattle.serde_json.specs.View.{items_of}
use Rattle.plain_service.specs.JsonText.{AddsMember}
use Rattle.plain_service.proofs.WritingLemmas.{list_added}
use Rattle.plain_service.proofs.port_bodies.write_texts.Goals as goal

pub returns : goal.returns
returns c =
    let texts = c.args.texts.now in
    subst (λ items. OnOk c.end_array.result (AddsMember c.args.out.now c.end_array.new.self c.args.name.now (array (items_of items))))
    (sym (map-map string string_bytes texts))
    (list_added c.args.name.now (λ text. string (string_bytes text)) texts
    c.loop-text.text-index c.loop-text-test.false c.loop-text.invariant c.end_array.ensures)
