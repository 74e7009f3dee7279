use Rattle.std.proofs.Common.{Some, None, [], sym, ap, lit<}
use Rattle.std.specs.Option.{option_map_or}
use Rattle.mk_mods.proofs.LastPlaces.{around_of}
use Rattle.mk_mods.proofs.word_maps.extension.Goals as goal

pub returns-in-Some : goal.returns-in-Some
returns-in-Some c =
    sym (ap (λ o. option_map_or (λ parts. parts.1) o []) (around_of 46 c.args.word.now (Some (c.in-Some.field-0-0, c.in-Some.extension))
    c.in-Some.ensures.cases (lit< tt)))

pub returns-in-None : goal.returns-in-None
returns-in-None c = sym (ap (λ o. option_map_or (λ parts. parts.1) o [])
    (around_of 46 c.args.word.now None c.in-None.ensures.cases (lit< tt)))
