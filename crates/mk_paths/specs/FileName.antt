-- Which file a name means: names of files in ports trees, as in /ports/editors/vim/Makefile (ports(7)).
use Rattle.std.specs.Prelude.{◌≡◌, ℕ, ◌-◌, ◌==◌, nat_le, ◌&&◌, ◌||◌, if◌then◌else◌, Bool, List, [], ◌∷◌, ◌++◌, length}
use Rattle.std.specs.Prelude.{take, Option, Some, None, Result, Ok, Err, option_and_then, codes, slice_index, IsErrOf}
use Rattle.std.specs.List.{slice_split, flat_map, list_all, before_last}
use Rattle.std.specs.Str.{bytes_eq}
use Rattle.general_facts.specs.Ascii.{bang, slash, tilde}
use Rattle.mk_paths.specs.declared.file_name.NameFault.{NameFault}
use Rattle.mk_paths.specs.declared.file_name.NameFault.TheVariants.{BadName, Above}

-- a byte of a file name: printable ASCII, and no blank
abbrev pub is_plain : ℕ → Bool
is_plain byte = nat_le bang byte && nat_le byte tilde

-- the parts of a name, which slashes separate
abbrev pub parts_of_name : List ℕ → List (List ℕ)
parts_of_name text = slice_split (λ byte. byte == slash) text

-- the parts without the last; None if there is no part
abbrev pub without_last : List (List ℕ) → Option (List (List ℕ))
without_last kept = if length kept == 0 then None else Some (take (length kept - 1) kept)

-- the parts kept so far, with the next: an empty part and `.` add nothing, and `..` removes the
-- part before it
abbrev pub with_part : List (List ℕ) → List ℕ → Option (List (List ℕ))
with_part kept part =
    if bytes_eq part [] || bytes_eq part (codes ".") then Some kept
    else if bytes_eq part (codes "..") then without_last kept
    else Some (kept ++ part ∷ [])

-- the parts kept so far, with all that follow; None if a `..` has no part before it
unfoldable pub kept_parts : List (List ℕ) → List (List ℕ) → Option (List (List ℕ))
kept_parts kept [] = Some kept
kept_parts kept (part ∷ more) = option_and_then (λ next. kept_parts next more) (with_part kept part)

-- the parts one after another, each after a slash
abbrev pub with_slashes : List (List ℕ) → List ℕ
with_slashes parts = flat_map (λ part. slash ∷ part) parts

-- the name that these parts make: there must be two or more, and the name has 255 bytes at most
abbrev pub name_of_parts : Option (List (List ℕ)) → Result (List ℕ) NameFault
name_of_parts None = Err Above
name_of_parts (Some parts) =
    if nat_le 2 (length parts) && nat_le (length (with_slashes parts)) 255 then Ok (with_slashes parts) else Err BadName

-- the file that a text names: the first byte is a slash, and each byte is plain
abbrev pub resolved : List ℕ → Result (List ℕ) NameFault
resolved text =
    if slice_index text 0 == slash && list_all is_plain text then name_of_parts (kept_parts [] (parts_of_name text)) else Err BadName

-- the name of a file that a makefile in a directory means: an absolute name is taken as it is
abbrev pub name_under : List ℕ → List ℕ → List ℕ
name_under directory file = if slice_index file 0 == slash then file else directory ++ slash ∷ file

-- the directory that a file with this name is in
abbrev pub directory_of : List ℕ → List ℕ
directory_of name = before_last (λ byte. byte == slash) name

-- a name that is its own resolved name
pub record IsResolved (name : List ℕ) : Type 0 where
  pub itself : resolved name ≡ Ok name

-- if a function fails with this fault, so does what it reads
abbrev pub FailsLike : {R A : Type 0} → Result R NameFault → NameFault → Result A NameFault → Type 0
FailsLike result fault meaning = IsErrOf result fault → meaning ≡ Err fault

-- if a function fails with this fault, so does reading the name of a file under this directory
abbrev pub FailsUnder : {R : Type 0} → Result R NameFault → NameFault → List ℕ → List ℕ → Type 0
FailsUnder result fault directory file = FailsLike result fault (resolved (name_under directory file))
