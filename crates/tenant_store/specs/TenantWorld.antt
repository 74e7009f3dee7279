-- The world that the files of the store are.
use Rattle.std.specs.Prelude.{◌≡◌, None}
use Rattle.std.specs.Borrow.{GName, MutBor}
use Rattle.mk_paths.specs.FilesView.{FilesView}
use Rattle.mk_paths.specs.World.{World, files_in}
use Rattle.mk_paths.specs.declared.files.FilesFault.{FilesFault}
use Rattle.tenant_store.specs.declared.tenant_files.TenantFiles.{TenantFiles}

-- the files of the store, and the failures so far; they keep no log
abbrev pub view_of : TenantFiles → FilesView
view_of files = record { files = files_in files.store.now; log = None; failures = files.failures }

-- the files of a world, before anything was asked of them
abbrev pub opened_files : World → FilesView
opened_files world = record { files = files_in world; log = None; failures = 0 }

-- the reference to the store that they are in
abbrev pub store_reference : TenantFiles → GName
store_reference files = files.store.ghost_name

-- the world that this store holds
abbrev pub held_by : TenantFiles → World
held_by files = files.store.now

-- the store may refuse, and memory may run out
abbrev pub IsAnyFault : FilesFault → Type 0
IsAnyFault fault = Unit {0}

-- later files over the same store, which holds the same
pub record StaysOver (old new : TenantFiles) : Type 0 where
  pub store : new.store.ghost_name ≡ old.store.ghost_name
  pub held : new.store.now ≡ old.store.now

-- files over what was lent of the store
pub record IsOverMemory (files : TenantFiles) (store : MutBor World) : Type 0 where
  pub store_is : files.store.ghost_name ≡ store.ghost_name
  pub held : files.store.now ≡ store.now
