-- The files are over the store that was lent for them.
use Rattle.tenant_store.specs.TenantWorld.{store_reference, held_by}
use Rattle.tenant_store.proofs.store.TenantStore.ask.Given as goal

abbrev pub ghosts-ask_over : goal.ghosts-ask_over
ghosts-ask_over g a = record { name = store_reference a.files; held = held_by a.files }
