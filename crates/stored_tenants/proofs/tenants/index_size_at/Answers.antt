-- The tenant isn't there, or it is the one with this number.
use Rattle.std.proofs.Common.{◌∙◌, ap, refl, sym, option_and_then}
use Rattle.std.proofs.lemmas.Option.{slice_get_past, slice_get_read}
use Rattle.stored_tenants.specs.Kept.{index_size}
use Rattle.stored_tenants.proofs.tenants.index_size_at.Goals as goal

pub returns-in_err-get : goal.returns-in_err-get
returns-in_err-get c =
    c.from_residual.ensures
    ∙ sym (ap (option_and_then index_size) (slice_get_past c.args.tenants.now c.args.number c.in_err-get.ensures.lookup.3))

pub returns : goal.returns
returns c =
    let lookup = c.in_ok-get.ensures.lookup in
    c.size_at_hand.ensures
    ∙ sym (ap (option_and_then index_size) (slice_get_read c.args.tenants.now _ c.args.number c.in_ok-get.field-0.now
    refl lookup.3.0 lookup.1))
