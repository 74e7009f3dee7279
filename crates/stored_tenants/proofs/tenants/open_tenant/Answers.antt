-- The settings are those of the store, and there is no row.
use Rattle.std.proofs.Common.{◌≡◌, ◌∙◌, ap, sym, refl}
use Rattle.mk_paths.specs.World.{World}
use Rattle.stored_tenants.proofs.KeptLemmas.{idle_right}
use Rattle.stored_tenants.proofs.tenants.open_tenant.Goals as goal

pub returns-clause-right : goal.returns-clause-right
returns-clause-right c =
    let found = c.in_ok-settings.settings in
    let old : World = c.in_ok-store.store in
    let parts : found ≡ old.1 = λ i. record { path = c.in_ok-settings.ensures.path i; profile = c.in_ok-settings.ensures.profile i } in
    idle_right c.settings.new.self found c.new-keeper.result _ refl (parts ∙ ap (λ (w : World). w.1) (sym c.in_ok-settings.ensures.same))
    (c.new-keeper.ensures c.settings.new.self)
