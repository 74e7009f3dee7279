-- No file is there, and nothing is noted.
use Rattle.std.proofs.Common.{refl, subst, sym}
use Rattle.mk_paths.specs.World.{World, files_in}
use Rattle.tenant_store.specs.Lengths.{AreNoted}
use Rattle.tenant_store.proofs.Lengths.{none_noted}
use Rattle.tenant_store.proofs.ContentLemmas.{nothing_kept}
use Rattle.tenant_store.proofs.store.TenantStore.open_in_memory.Goals as goal

pub invariant_of-result : goal.invariant_of-result
invariant_of-result c = (
  c.in-Ok.ensures.kept,
  subst (λ (world : World). AreNoted c.new.result (record { files = 0; bytes = 0 }) (files_in world)) (sym c.in-Ok.ensures.world_is)
      (none_noted c.new.result _ c.new.ensures.empty refl refl),
  nothing_kept c.in_ok-contents.contents c.in_ok-contents.ensures,
)
