-- Which evaluation is meant.
use Rattle.std.specs.Prelude.{ℕ, ◌==◌, ◌&&◌, Bool, List, map, Option, option_map, string_bytes, Result, String, IfOk}
use Rattle.std.specs.Prelude.{◌≡◌, Vec}
use Rattle.std.specs.Cmp.Lexicographic.{pointwise}
use Rattle.std.specs.Option.{option_eq}
use Rattle.std.specs.Str.{bytes_eq}
use Rattle.std.specs.Borrow.{Bor}
use Rattle.std.specs.Global.{Global}
use Rattle.mk_text.specs.Profiles.{profile_number}
use Rattle.mk_paths.specs.declared.search_path.Settings.{Settings}
use Rattle.eval_cache.specs.declared.key.EvalKey.{EvalKey}
use Rattle.mk_eval.specs.Views.{flavors_in}

-- an evaluation of the makefile of this name, under these settings, with these flavors or with none given
pub record Key : Type 0 where
  pub settings : Settings
  pub name : List ℕ
  pub flavors : Option (List (List ℕ))

abbrev pub key_for : Settings → List ℕ → Option (List (List ℕ)) → Key
key_for settings name flavors = record { settings = settings; name = name; flavors = flavors }

-- the key that the code has
abbrev pub key_of : EvalKey → Key
key_of key =
    key_for (record { path = map string_bytes key.trees.items; profile = key.profile }) (string_bytes key.name)
    (option_map (λ flavors. map string_bytes flavors.items) key.flavors)

-- two keys with the same profile and the same texts
abbrev pub same_key : Key → Key → Bool
same_key one other =
    (profile_number one.settings.profile == profile_number other.settings.profile)
    && (pointwise bytes_eq one.settings.path other.settings.path
    && (bytes_eq one.name other.name && option_eq (pointwise bytes_eq) one.flavors other.flavors))

-- where a function succeeds, it made the key of the makefile of this name, under these settings, with these flavors
abbrev pub MakesKey : {F : Type 0} → Result EvalKey F → Settings → List ℕ → Option (Bor (List (String Global))) → Type 0
MakesKey result settings name flavors = IfOk result (λ key. key_of key ≡ key_for settings name (flavors_in flavors))

-- where a function succeeds, it copied these flavors, if any are given
abbrev pub CopiesFlavors : {F : Type 0} → Result (Option (Vec (String Global) Global)) F → Option (Bor (List (String Global))) → Type 0
CopiesFlavors result flavors =
    IfOk result (λ copied. option_map (λ (given : Vec (String Global) Global). map string_bytes given.items) copied ≡ flavors_in flavors)
