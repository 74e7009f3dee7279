use Rattle.std.proofs.Common.{Some, None, [], ◌∷◌, sym, ap, ◌∙◌, lit<}
use Rattle.std.specs.Option.{option_map_or}
use Rattle.mk_mods.specs.WordChanges.{or_slash}
use Rattle.mk_mods.proofs.LastPlaces.{around_of, or_slash-empty, or_slash-other}
use Rattle.mk_mods.proofs.word_maps.head.Goals as goal

pub returns-then-is_empty : goal.returns-then-is_empty
returns-then-is_empty c =
    sym
    (ap (λ o. option_map_or (λ parts. or_slash parts.0) o (46 ∷ []))
    (around_of 47 c.args.word.now (Some (c.in-Some.head, c.in-Some.field-0-1)) c.in-Some.ensures.cases (lit< tt))
    ∙ or_slash-empty c.in-Some.head.now (sym c.is_empty.ensures ∙ c.if-is_empty.true))

pub returns-else-is_empty : goal.returns-else-is_empty
returns-else-is_empty c =
    sym
    (ap (λ o. option_map_or (λ parts. or_slash parts.0) o (46 ∷ []))
    (around_of 47 c.args.word.now (Some (c.in-Some.head, c.in-Some.field-0-1)) c.in-Some.ensures.cases (lit< tt))
    ∙ or_slash-other c.in-Some.head.now (sym c.is_empty.ensures ∙ c.if-is_empty.false))

pub returns-in-None : goal.returns-in-None
returns-in-None c = sym (ap (λ o. option_map_or (λ parts. or_slash parts.0) o (46 ∷ []))
    (around_of 47 c.args.word.now None c.in-None.ensures.cases (lit< tt)))
