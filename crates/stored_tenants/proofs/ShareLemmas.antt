-- What the tenants share, as their cache is used.
use Rattle.std.proofs.Common.{◌≡◌, ◌∙◌, ◌<◌, ◌^◌, ◌&&◌, ℕ, zero, suc, Bool, true, false, ap, ap₂, refl, arith}
use Rattle.eval_cache.specs.Cache.{CacheValue, Sizes, size_for, empty_cache}
use Rattle.eval_cache.specs.declared.counts.Counts.{Counts}
use Rattle.eval_cache.specs.CacheUse.{UsesCache}
use Rattle.ports_core.specs.Keys.{is_size, is_fit}
use Rattle.ports_core.specs.Sharing as sharing
use Rattle.ports_core.specs.Sharing.{Sharing, IsUsed, sizes_of, unused}
use Rattle.ports_core.specs.declared.keys.Config.{Config}
use Rattle.stored_tenants.specs.Shared.{sharing_in}

-- a cache that is used is used in the sense of the tenants, since each count is one of 64 bits
pub IsUsed-cache : (old new : CacheValue) (counts : Counts) → counts ≡ old.counts → counts.parses < 2 ^ 64
    → counts.evals < 2 ^ 64 → UsesCache old new
    → IsUsed (sharing_in old) (sharing_in new)
IsUsed-cache old new counts same parses evals uses = record {
  sizes = ap (λ (s : Sizes). let seen : sharing.Sizes = record { parses = s.parses; evals = s.keys } in seen) uses.sizes;
  parses = omega (arith, uses.parses, parses, ap (λ (c : Counts). c.parses) same);
  evals = omega (arith, uses.evals, evals, ap (λ (c : Counts). c.evals) same);
}

both : (one other : Bool) → one && other ≡ true → (one ≡ true) × (other ≡ true)
both true true is = (refl, refl)
both true false is = absurd cc
both false other is = absurd cc

at_least_one : (size : ℕ) → is_size size ≡ true → size_for size ≡ size
at_least_one zero is = absurd cc
at_least_one (suc size) is = refl

-- an empty cache with the sizes of a config that is fit
pub unused-new : (config : Config) (cache : CacheValue) → is_fit config ≡ true → cache ≡ empty_cache config.parses config.evals
    → sharing_in cache ≡ unused (sizes_of config)
unused-new config cache fit is =
    let fits : (is_size config.parses && is_size config.evals) ≡ true = (both _ _ fit).0 in
    let sizes = both _ _ fits in
    ap sharing_in is
    ∙ ap₂ (λ parses evals. let shared : Sharing = unused (record { parses = parses; evals = evals }) in shared)
    (at_least_one config.parses sizes.0) (at_least_one config.evals sizes.1)
