-- A turn for a question over the files of a tenant.
use Rattle.std.specs.Prelude.{◌≡◌, IfOk, IfSome, IsSome}
use Rattle.mk_paths.specs.World.{World, FileMap}
use Rattle.eval_cache.specs.CacheUse.{UsesCache}
use Rattle.index_store.specs.PortTable.{stored_by}
use Rattle.index_keep.specs.Keeper.{refresh_of, keeper_rows, IsKept}
use Rattle.index_keep.specs.Turns.{StayFresh}
use Rattle.question_turns.specs.UnderWay.{IsUnderWayOver}
use Rattle.question_turns.specs.TurnsLeft.{TurnsOn}
use Rattle.question_turns.specs.declared.under_way.UnderWay.{UnderWay}
use Rattle.stored_tenants.specs.declared.asking.Asking.{Asking}

-- the world of these files, and of the settings with which a question is asked
abbrev pub world_asked : FileMap → Asking → World
world_asked files asking = (files, asking.settings.now)

-- the keeper is right about that world, and what is under way is right over it
pub record IsReady (files : FileMap) (asking : Asking) : Type 0 where
  pub there : IsSome asking.turn.now.under_way
  pub kept : IsKept stored_by (world_asked files asking) asking.keeper.now
  pub pending : IfSome asking.turn.now.under_way
      (IsUnderWayOver (world_asked files asking) (refresh_of stored_by asking.keeper.now))

-- what the turn came to is a turn for what was under way
abbrev pub IsTurnOf : FileMap → Asking → Asking → UnderWay → Type 0
IsTurnOf files old new under_way =
    IfSome new.turn.now.turned (λ turned. IfOk turned (TurnsOn (world_asked files old)
    (refresh_of stored_by old.keeper.now) (refresh_of stored_by new.keeper.now) under_way))

-- A turn was taken over these files. The keeper is still right, and rows that were fresh are fresh. Some of what is kept in
-- the cache was used, or nothing.
pub record IsAsked (files : FileMap) (old new : Asking) : Type 0 where
  pub taken : IsSome new.turn.now.turned
  pub turn : IfSome old.turn.now.under_way (IsTurnOf files old new)
  pub kept : IsKept stored_by (world_asked files old) new.keeper.now
  pub fresh : StayFresh (world_asked files old) (keeper_rows stored_by old.keeper.now) (keeper_rows stored_by new.keeper.now)
  pub keeper : new.keeper.ghost_name ≡ old.keeper.ghost_name
  pub place : new.turn.ghost_name ≡ old.turn.ghost_name
  pub cache : new.cache.ghost_name ≡ old.cache.ghost_name
  pub uses : UsesCache old.cache.now new.cache.now
