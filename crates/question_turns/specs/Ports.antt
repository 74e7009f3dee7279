-- What work leaves of ports whose index is kept.
use Rattle.std.specs.Prelude.{◌≡◌}
use Rattle.std.specs.Borrow.{MutBor}
use Rattle.mk_paths.specs.World.{World}
use Rattle.mk_paths.specs.FilesView.{FilesView, view_world}
use Rattle.mk_paths.specs.declared.files.Names as names
use Rattle.index_store.specs.declared.path_rows.PathRows as rows
use Rattle.read_trace.specs.Recorder.{view_of}
use Rattle.eval_cache.specs.Cache.{CacheValue}
use Rattle.eval_cache.specs.CacheUse.{UsesCache}
use Rattle.index_store.specs.Entries.{Entries}
use Rattle.index_keep.specs.Keeper.{keeper_rows}
use Rattle.index_keep.specs.Turns.{StayFresh}
use Rattle.index_keep.specs.declared.keeper.Keeper.{Keeper}
use Rattle.question_turns.specs.declared.kept_ports.KeptPorts.{KeptPorts}

module _ {F R : Type 0} {files : names.Ghosts F} {entries : rows.Ghosts R} (view : F → FilesView) where
  -- the world of the ports
  abbrev pub world_of_ports : KeptPorts F R files entries → World
  world_of_ports ports = view_world (view_of view ports.files.now) ports.settings.now

  -- The world stays, and so do the references to the keeper and to the cache. Rows that were fresh are still. Some of what
  -- is kept was used, or nothing.
  pub record LeavesPorts (stored : R → Entries) (old new : KeptPorts F R files entries) : Type 0 where
    pub world : world_of_ports new ≡ world_of_ports old
    pub fresh : StayFresh (world_of_ports old) (keeper_rows stored old.keeper.now) (keeper_rows stored new.keeper.now)
    pub keeper : new.keeper.ghost_name ≡ old.keeper.ghost_name
    pub cache : new.cache.ghost_name ≡ old.cache.ghost_name
    pub uses : UsesCache old.cache.now new.cache.now

-- the ports have these references to a keeper and to a cache, and both are as they were lent
pub record IsOver {F R : Type 0} {files : names.Ghosts F} {entries : rows.Ghosts R}
    (ports : KeptPorts F R files entries) (keeper : MutBor (Keeper R)) (cache : MutBor CacheValue) : Type 0 where
  pub name : ports.keeper.ghost_name ≡ keeper.ghost_name
  pub now : ports.keeper.now ≡ keeper.now
  pub cache_name : ports.cache.ghost_name ≡ cache.ghost_name
  pub cache_now : ports.cache.now ≡ cache.now
