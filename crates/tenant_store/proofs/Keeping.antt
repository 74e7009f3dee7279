-- What is so of the store between its calls goes on to be so.
use Rattle.std.proofs.Common.{◌≡◌, Result, Ok, Err, OnErr, OnOk, sym, ap, subst, ◌∙◌}
use Rattle.mk_paths.specs.World.{World}
use Rattle.mk_paths.specs.SearchPath.{IsSearchPath}
use Rattle.mk_paths.specs.declared.search_path.Settings.{Settings}
use Rattle.sqlite.specs.Effect.{Database}
use Rattle.sqlite.specs.State.{State}
use Rattle.sqlite.specs.declared.error.Error.{Error}
use Rattle.tenant_store.specs.Holdings.{Holdings, world_in}
use Rattle.tenant_store.specs.Tables.{IsStoreAtRest, HasStoreTables, HoldsWorld, held_in, holdings_in, world_in_state}
use Rattle.sql_facts.specs.States.{IsSettled, Stays}
use Rattle.tenant_store.specs.SettingsRows.{shown_settings, AreSettingsOf}
use Rattle.tenant_store.specs.declared.queries.SettingsRow.{SettingsRow}

pub still_held : (old new : State) → Stays old new → held_in new ≡ held_in old
still_held old new h = ap (λ (d : Database). holdings_in d.trees) h.now

pub same_world : (old new : State) → Stays old new → world_in_state new ≡ world_in_state old
same_world old new h = ap world_in (still_held old new h)

pub still_kept : (old new : State) → IsStoreAtRest old → Stays old new → IsStoreAtRest new
still_kept old new kept h = record {
  settled = record { autocommit = h.mode ∙ kept.settled.autocommit; committed = h.committed ∙ kept.settled.committed ∙ sym h.now };
  formed = subst HasStoreTables (sym h.now) kept.formed;
  path = subst (λ (held : Holdings). IsSearchPath held.settings.path) (sym (still_held old new h)) kept.path;
}

-- ---- the settings

pub settings_are : (held : Holdings) (row : SettingsRow) → IsSearchPath held.settings.path → shown_settings row ≡ held.settings
    → AreSettingsOf (world_in held) row
settings_are held row path is =
    record { path = ap (λ (s : Settings). s.path) is; is_path = path; profile = ap (λ (s : Settings). s.profile) is }

-- ---- however a statement ends

-- what is held once a statement has written
pub holds : (new : State) (held : Holdings) (world : World) → IsSettled new → HasStoreTables new.now → held_in new ≡ held
    → IsSearchPath held.settings.path → world_in held ≡ world → HoldsWorld new world
holds new held world settled formed is path world_is = record {
  kept = record { settled = settled; formed = formed; path = subst (λ (held : Holdings). IsSearchPath held.settings.path) (sym is) path };
  world_is = ap world_in is ∙ world_is;
}

-- ---- however a statement ends

pub ends : {A : Type 0} (r : Result A Error) (old new : State) (world : World) → IsStoreAtRest old → OnOk r (HoldsWorld new world)
    → OnErr r (Stays old new)
    → IsStoreAtRest new × OnOk r (world_in_state new ≡ world) × OnErr r (world_in_state new ≡ world_in_state old)
ends (Ok a) old new world kept ok err = (ok.kept, ok.world_is, tt)
ends (Err e) old new world kept ok err = (still_kept old new kept err, tt, same_world old new err)
