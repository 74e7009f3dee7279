-- Some text is the value, or has it.
use Rattle.std.proofs.Common.{◌∙◌, sym, ap, map, not, string_bytes}
use Rattle.std.specs.Str.{bytes_eq}
use Rattle.general_facts.specs.Lists.{list_any-map}
use Rattle.ports_query.specs.Candidate.{has_part, texts_meet}
use Rattle.ports_query.proofs.candidate.texts_meet.Goals as goal

pub returns-in-Is : goal.returns-in-Is
returns-in-Is c =
    c.some_is.ensures
    ∙ sym (list_any-map (λ text. bytes_eq text c.args.value.now) string_bytes c.args.texts.now)
    ∙ ap (λ sign. texts_meet sign c.args.value.now (map string_bytes c.args.texts.now)) (sym c.in-Is.is)

pub returns-in-IsNot : goal.returns-in-IsNot
returns-in-IsNot c =
    ap not (c.some_is-in-IsNot.ensures ∙ sym (list_any-map (λ text. bytes_eq text c.args.value.now) string_bytes c.args.texts.now))
    ∙ ap (λ sign. texts_meet sign c.args.value.now (map string_bytes c.args.texts.now)) (sym c.in-IsNot.is)

pub returns-in-Has : goal.returns-in-Has
returns-in-Has c =
    c.some_has_part.ensures
    ∙ sym (list_any-map (has_part c.args.value.now) string_bytes c.args.texts.now)
    ∙ ap (λ sign. texts_meet sign c.args.value.now (map string_bytes c.args.texts.now)) (sym c.in-Has.is)
