-- A name is among others, of which there is one, if it is that one.
use Rattle.std.proofs.Common.{◌∙◌, ap, sym, Bool, string_bytes}
use Rattle.std.specs.List.{list_any}
use Rattle.std.specs.Str.{bytes_eq}
use Rattle.port_index.proofs.AskingLemmas.{alone-contains}
use Rattle.port_index.proofs.memory_rows.is_one_among.Goals as goal

pub returns-in-Some : goal.returns-in-Some
returns-in-Some c =
    c.has_name.ensures ∙ ap (λ name. list_any (λ one. bytes_eq (string_bytes one) name) c.args.names.now) c.as_str.ensures.value
    ∙ ap (λ (test : _ → Bool). list_any test c.args.names.now)
    (λ i one. sym (alone-contains c.args.others.now c.in-Some.only.now (sym c.len.ensures.len ∙ c.if-len-eq1.true)
    c.in-Some.ensures.first (string_bytes one)) i)
