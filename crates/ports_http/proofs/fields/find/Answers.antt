use Rattle.std.proofs.Common.{refl, sym, ◌∙◌}
use Rattle.ports_http.specs.Fields.{field_values}
use Rattle.ports_http.proofs.FieldLemmas.{occurs_next, occurs_not_next}
use Rattle.ports_http.proofs.fields.find.Goals.{then-is_named, else-is_named}
use Rattle.ports_http.proofs.fields.find.Goals as goal

pub loop-field-init : goal.loop-field-init
unfolding field_values
loop-field-init c = refl

pub loop-field-preserved : goal.loop-field-preserved
loop-field-preserved c =
    let here = c.loop-field-test.true in
    elim c.if-is_named.branch [
      | then-is_named w ↦
          rw (w.found-is, w.with-found.ensures)
          (occurs_next c.args.buf.now c.args.name.now c.args.fields.now c.loop-field.field-index _ c.loop-field.found here
          (sym c.is_named.ensures ∙ w.if-is_named.true) (c.requires _ _ here).1 c.loop-field.invariant)
      | else-is_named w ↦
          rw w.found-is
          (occurs_not_next c.args.buf.now c.args.name.now c.args.fields.now c.loop-field.field-index _ c.loop-field.found here
          (sym c.is_named.ensures ∙ w.if-is_named.false) c.loop-field.invariant)
    ]
