-- The path is noted with the next name.
use Rattle.std.proofs.Common.{◌∙◌, ap, sym, Bool, String, Global, take, string_bytes, get_or}
use Rattle.std.proofs.lemmas.List.Folds.{list_any_more}
use Rattle.std.specs.List.{list_any}
use Rattle.std.specs.Str.{bytes_eq}
use Rattle.port_index.specs.AskedNames.{is_noted}
use Rattle.port_index.proofs.NotedLemmas.{more-by, more-stays}
use Rattle.port_index.proofs.asked_names.AskedNames.add_all.Goals as goal

pub loop-name-preserved : goal.loop-name-preserved
loop-name-preserved c =
    let names = c.args.names.now in
    let place = c.loop-name.name-index in
    let text = c.as_str.result.now in
    let path = c.args.path.now in
    let old = is_noted c.loop-name.self in
    let new = is_noted c.add.new.self in record {
      noted = λ name any.
          let test : String Global → Bool = λ one. bytes_eq (string_bytes one) name in
          more-by text path old new c.in_ok-add.ensures.ok name (list_any test (take place names))
          (test (get_or names place c.name-item.result))
          (sym (list_any_more test names place c.name-item.result c.loop-name-test.true) ∙ any)
          (c.loop-name.invariant.noted name)
          (ap (λ bytes. bytes_eq bytes name) c.as_str.ensures.value ∙ ap test c.name-item.is);
      stays = λ name other was. more-stays text path old new c.in_ok-add.ensures.ok name other (c.loop-name.invariant.stays name other was);
    }
