-- Keys with the same profile and the same texts.
use Rattle.std.proofs.Common.{◌≡◌, ◌∙◌, ap, ap₂, refl, sym, ◌&&◌, ℕ, Bool, true, false, List, [], ◌∷◌, map, Option, Some, None, option_map}
use Rattle.std.proofs.Common.{String, Global, eqb}
use Rattle.std.proofs.lemmas.Slice.Eq.{slice_eq-Decides, bytes_eq-Decides}
use Rattle.std.specs.Cmp.Lexicographic.{pointwise}
use Rattle.std.specs.Option.{option_eq}
use Rattle.std.specs.Str.{bytes_eq}
use Rattle.std.specs.String.{string_bytes, string_eq}
use Rattle.std.specs.declared.vec.Vec.{Vec}
use denote.Enum.Bare.{sameb}
use Rattle.mk_text.specs.contracts.profile.Profile.{the_type}
use Rattle.mk_text.specs.declared.profile.Profile.{Profile}
use Rattle.mk_text.specs.declared.profile.Profile.TheVariants.{One, Two}
use Rattle.mk_text.specs.Profiles.{profile_number}
use Rattle.eval_cache.specs.declared.key.EvalKey.{EvalKey}
use Rattle.eval_cache.specs.Keys.{Key, key_for, key_of, same_key}

texts_eq : (texts others : List (String Global)) → pointwise string_eq texts others ≡ pointwise bytes_eq (map string_bytes texts)
    (map string_bytes others)
texts_eq [] [] = refl
texts_eq [] (other ∷ others) = refl
texts_eq (text ∷ texts) [] = refl
texts_eq (text ∷ texts) (other ∷ others) = ap (λ b. string_eq text other && b) (texts_eq texts others)

abbrev vec_eq : Vec (String Global) Global → Vec (String Global) Global → Bool
vec_eq texts others = pointwise string_eq texts.items others.items

abbrev texts_in : Vec (String Global) Global → List (List ℕ)
texts_in texts = map string_bytes texts.items

flavors_eq : (flavors others : Option (Vec (String Global) Global))
    → option_eq vec_eq flavors others ≡ option_eq (pointwise bytes_eq) (option_map texts_in flavors) (option_map texts_in others)
flavors_eq None None = refl
flavors_eq None (Some others) = refl
flavors_eq (Some flavors) None = refl
flavors_eq (Some flavors) (Some others) = texts_eq flavors.items others.items

-- how the code compares profiles
abbrev profile_eq : Profile → Profile → Bool
profile_eq one other = sameb the_type one other

profiles_eq : (one other : Profile) → profile_eq one other ≡ eqb (profile_number one) (profile_number other)
profiles_eq One One = refl
profiles_eq One Two = refl
profiles_eq Two One = refl
profiles_eq Two Two = refl

-- how the code compares keys
abbrev pub key_eq : EvalKey → EvalKey → Bool
key_eq one other =
    profile_eq one.profile other.profile
    && (pointwise string_eq one.trees.items other.trees.items &&
    (string_eq one.name other.name && option_eq vec_eq one.flavors other.flavors))

-- is by their texts
pub key_eq-same_key : (one other : EvalKey) → key_eq one other ≡ same_key (key_of one) (key_of other)
key_eq-same_key one other =
    let texts = ap₂ (λ trees flavors. trees && (string_eq one.name other.name && flavors)) (texts_eq one.trees.items other.trees.items)
    (flavors_eq one.flavors other.flavors) in
    ap₂ (λ profile rest. profile && rest) (profiles_eq one.profile other.profile) texts

both : (b c : Bool) → b && c ≡ true → (b ≡ true) × (c ≡ true)
both true true is = (refl, refl)
both true false is = absurd cc
both false c is = absurd cc

same_texts : (texts others : List (List ℕ)) → pointwise bytes_eq texts others ≡ true → texts ≡ others
same_texts texts others same = (slice_eq-Decides bytes_eq-Decides texts others (pointwise bytes_eq texts others) refl).0 same

same_flavors : (flavors others : Option (List (List ℕ))) → option_eq (pointwise bytes_eq) flavors others ≡ true → flavors ≡ others
same_flavors None None same = refl
same_flavors None (Some others) same = absurd cc
same_flavors (Some flavors) None same = absurd cc
same_flavors (Some flavors) (Some others) same = ap Some (same_texts flavors others same)

same_numbers : (one other : Profile) → eqb (profile_number one) (profile_number other) ≡ true → one ≡ other
same_numbers One One same = refl
same_numbers One Two same = absurd cc
same_numbers Two One same = absurd cc
same_numbers Two Two same = refl

same_number-refl : (profile : Profile) → eqb (profile_number profile) (profile_number profile) ≡ true
same_number-refl One = refl
same_number-refl Two = refl

-- keys with the same profile and the same texts are the same
pub same_key-≡ : (one other : Key) → same_key one other ≡ true → one ≡ other
same_key-≡ one other same =
    let languages = both _ _ same in
    let profile : one.settings.profile ≡ other.settings.profile = same_numbers _ _ languages.0 in
    let trees = both _ _ languages.1 in
    let name_flavors = both _ _ trees.1 in
    let path : one.settings.path ≡ other.settings.path = same_texts _ _ trees.0 in
    let name : one.name ≡ other.name = (bytes_eq-Decides one.name other.name).0 name_flavors.0 in
    let flavors : one.flavors ≡ other.flavors = same_flavors _ _ name_flavors.1 in
    let settings : one.settings ≡ other.settings = λ i. record { path = path i; profile = profile i } in
    ap₂ (λ s n. key_for s n one.flavors) settings name ∙ ap (λ f. key_for other.settings other.name f) flavors

pub key_eq-≡ : (one other : EvalKey) → key_eq one other ≡ true → key_of one ≡ key_of other
key_eq-≡ one other same = same_key-≡ (key_of one) (key_of other) (sym (key_eq-same_key one other) ∙ same)

same_flavors-refl : (flavors : Option (List (List ℕ))) → option_eq (pointwise bytes_eq) flavors flavors ≡ true
same_flavors-refl None = refl
same_flavors-refl (Some flavors) = (slice_eq-Decides bytes_eq-Decides flavors flavors (pointwise bytes_eq flavors flavors) refl).1 refl

both-true : (b c : Bool) → b ≡ true → c ≡ true → b && c ≡ true
both-true b c b_is c_is = ap₂ (λ b c. b && c) b_is c_is

-- a key has the profile and the texts of itself
pub same_key-refl : (key : Key) → same_key key key ≡ true
same_key-refl key =
    both-true _ _ (same_number-refl key.settings.profile)
    (both-true _ _ ((slice_eq-Decides bytes_eq-Decides key.settings.path key.settings.path
    (pointwise bytes_eq key.settings.path key.settings.path) refl).1 refl)
    (both-true _ _ ((bytes_eq-Decides key.name key.name).1 refl) (same_flavors-refl key.flavors)))

-- so keys that are the same are equal
pub ≡-key_eq : (one other : EvalKey) → key_of one ≡ key_of other → key_eq one other ≡ true
≡-key_eq one other is = key_eq-same_key one other ∙ ap (same_key (key_of one)) (sym is) ∙ same_key-refl (key_of one)
