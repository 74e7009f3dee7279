-- With which profile the rows of an index are written.
use Rattle.std.specs.Prelude.{◌≡◌, ◌⊎◌, ℕ, List, Some, None}
use Rattle.mk_text.specs.declared.profile.Profile.{Profile}
use Rattle.index_store.specs.Entries.{Profiles}
use Rattle.index_keep.specs.declared.keeper.Keeper.{Keeper}

-- the profiles with which the rows of a keeper were written, by what is stored
abbrev pub profiles_of : {R : Type 0} → (R → Profiles) → Keeper R → Profiles
profiles_of profiles keeper = profiles keeper.rows

-- Each row that was written has this profile. Any other row has the profile that it had, or is gone.
abbrev pub WritesIn : Profile → Profiles → Profiles → Type 0
WritesIn profile old new = (path : List ℕ) → (new path ≡ old path) ⊎ ((new path ≡ Some profile) ⊎ (new path ≡ None))

-- the same of the rows of a keeper
abbrev pub KeeperWrites : {R : Type 0} → (R → Profiles) → Profile → Keeper R → Keeper R → Type 0
KeeperWrites profiles profile old new = WritesIn profile (profiles_of profiles old) (profiles_of profiles new)

-- In a store, no row was written: whatever the profile is, each row has the profile that it had, or has this one, or is gone.
abbrev pub WritesNoRow : {S : Type 0} → (S → Profiles) → S → S → Type 0
WritesNoRow profiles old new = (profile : Profile) → WritesIn profile (profiles old) (profiles new)
