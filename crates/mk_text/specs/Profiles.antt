-- The profiles of the make language, by their numbers.
use Rattle.std.specs.Prelude.{◌≡◌, ℕ, zero, suc, refl}
use Rattle.std.specs.Coded.{Coded, code_by, coded_ℕ}
use Rattle.mk_text.specs.declared.profile.Profile.{Profile}
use Rattle.mk_text.specs.declared.profile.Profile.TheVariants.{One, Two}

-- the number of a profile
abbrev pub profile_number : Profile → ℕ
profile_number One = 1
profile_number Two = 2

-- the profile of a number: each below 2 gives the first, and each other the second
abbrev pub numbered_profile : ℕ → Profile
numbered_profile zero = One
numbered_profile (suc zero) = One
numbered_profile (suc (suc n)) = Two

-- the number of a profile gives the profile
pub profile-numbered : (profile : Profile) → numbered_profile (profile_number profile) ≡ profile
profile-numbered One = refl
profile-numbered Two = refl

-- how a proof tells profiles apart
abbrev pub profile_code : Coded Profile
profile_code = code_by ℕ coded_ℕ profile_number numbered_profile profile-numbered
