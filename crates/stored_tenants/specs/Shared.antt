-- What the tenants share, by the cache that they share.
use Rattle.eval_cache.specs.Cache.{CacheValue}
use Rattle.ports_core.specs.Sharing.{Sharing}

abbrev pub sharing_in : CacheValue → Sharing
sharing_in cache = record {
  sizes = record { parses = cache.sizes.parses; evals = cache.sizes.keys };
  counts = record { parses = cache.counts.parses; evals = cache.counts.evals };
}
