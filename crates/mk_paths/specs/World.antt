-- A tenant's world: its files, and the settings that they are read with.
use Rattle.std.specs.Prelude.{ℕ, List, refl}
use Rattle.std.specs.Ordering.{nat_cmp}
use Rattle.std.specs.Cmp.Lexicographic.{slice_cmp}
use Rattle.std.specs.Coded.{Coded, code_by, coded×, coded_list, coded_ℕ}
use Rattle.std.specs.FinMap.{FinMap, empty, insert, remove, code}
use Rattle.mk_text.specs.declared.profile.Profile.{Profile}
use Rattle.mk_text.specs.declared.profile.Profile.TheVariants.{One}
use Rattle.mk_text.specs.Profiles.{profile_code}
use Rattle.mk_paths.specs.SearchPath.{standard_trees}
use Rattle.mk_paths.specs.declared.search_path.Settings.{Settings}

-- the files of a world: from the names' bytes to the contents
abbrev pub FileMap : Type 0
FileMap = FinMap (slice_cmp nat_cmp) (List ℕ)

-- the files, and the settings
abbrev pub World : Type 0
World = FileMap × Settings

abbrev pub files_in : World → FileMap
files_in world = world.0

-- the trees that are searched for a port (PORTSDIR_PATH of bsd.port.mk(5))
abbrev pub search_path_of : World → List (List ℕ)
search_path_of world = world.1.path

-- the make language of the makefiles
abbrev pub profile_of : World → Profile
profile_of world = world.1.profile

-- the world with which a tenant begins: no file, the path `/ports:/mystuff`, and the first profile
abbrev pub opening_world : World
opening_world = (empty, record { path = standard_trees; profile = One })

-- the same world, with this content as the file of this name
abbrev pub with_file : World → List ℕ → List ℕ → World
with_file world name content = (insert world.0 name content, world.1)

-- the same world, without the file of this name
abbrev pub without_file : World → List ℕ → World
without_file world name = (remove world.0 name, world.1)

-- the same world, with this search path
abbrev pub with_search_path : World → List (List ℕ) → World
with_search_path world trees = (world.0, record world.1 { path = trees })

-- the same world, with makefiles in this language
abbrev pub with_profile : World → Profile → World
with_profile world profile = (world.0, record world.1 { profile = profile })

-- how a proof tells settings apart
abbrev pub settings_code : Coded Settings
settings_code =
    code_by (List (List ℕ) × Profile) (coded× (coded_list (coded_list coded_ℕ)) profile_code)
    (λ settings. (settings.path, settings.profile)) (λ parts. record { path = parts.0; profile = parts.1 }) (λ _. refl)

-- how a proof tells worlds apart
abbrev pub world_code : Coded World
world_code = coded× (code (coded_list coded_ℕ) (coded_list coded_ℕ)) settings_code
