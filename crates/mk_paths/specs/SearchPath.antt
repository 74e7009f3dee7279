-- The trees that are searched for a port (PORTSDIR_PATH of bsd.port.mk(5)).
use Rattle.std.specs.Prelude.{ℕ, ◌==◌, nat_le, ◌&&◌, ◌||◌, if◌then◌else◌, Bool, false, not, List, [], ◌∷◌, length}
use Rattle.std.specs.Prelude.{Option, Some, None, codes, IsTrue}
use Rattle.std.specs.List.{slice_split, list_all}
use Rattle.std.specs.Str.{bytes_eq}
use Rattle.general_facts.specs.Ascii.{colon}
use Rattle.general_facts.specs.Ascii.{slash}
use Rattle.mk_paths.specs.FileName.{is_plain}

-- the trees of a search path, which colons separate
abbrev pub trees_of : List ℕ → List (List ℕ)
trees_of text = slice_split (λ byte. byte == colon) text

-- a byte of the part of a tree's name: a plain byte, and no slash or colon
abbrev pub may_be_in_part : ℕ → Bool
may_be_in_part byte = is_plain byte && not (byte == slash) && not (byte == colon)

-- one part of a name, and not `.` or `..`
abbrev pub is_part : List ℕ → Bool
is_part part = not (bytes_eq part [] || bytes_eq part (codes ".") || bytes_eq part (codes "..")) && list_all may_be_in_part part

-- a tree: a slash and one part
abbrev pub is_tree : List ℕ → Bool
is_tree [] = false
is_tree (first ∷ part) = first == slash && is_part part

-- one to eight trees
abbrev pub is_search_path : List (List ℕ) → Bool
is_search_path trees = nat_le 1 (length trees) && nat_le (length trees) 8 && list_all is_tree trees

-- these trees are a search path
abbrev pub IsSearchPath : List (List ℕ) → Type 0
IsSearchPath trees = IsTrue (is_search_path trees)

-- the search path that a text names, if it names one
abbrev pub search_path : List ℕ → Option (List (List ℕ))
search_path text = if is_search_path (trees_of text) then Some (trees_of text) else None

-- the path `/ports:/mystuff`
abbrev pub standard_trees : List (List ℕ)
standard_trees = codes "/ports" ∷ codes "/mystuff" ∷ []
