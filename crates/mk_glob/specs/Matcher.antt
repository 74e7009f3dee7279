-- Which words fit a pattern, for make(1)'s `:M` and `:N`.
use Rattle.std.specs.Prelude.{◌≡◌, ℕ, Bool, true, false, ◌&&◌, ◌||◌, IsTrue, List, [], ◌∷◌}
use Rattle.std.specs.List.{concat}
use Rattle.std.specs.Str.{chars}
use Rattle.mk_glob.specs.Items.{Item, any_run, one_of, items_of, admits}

-- an item allows a part of a word: a run allows every part, and an item of one character allows a part that
-- is such a character alone
abbrev pub Allows : Item → List ℕ → Type 0
Allows any_run part = Unit {0}
Allows (one_of negated ranges) part = (c : ℕ) × (part ≡ c ∷ []) × IsTrue (admits negated ranges c)

-- as many parts as items, each allowed by its item
abbrev pub EachAllows : List Item → List (List ℕ) → Type 0
EachAllows [] [] = Unit {0}
EachAllows [] (part ∷ parts) = ⊥
EachAllows (item ∷ items) [] = ⊥
EachAllows (item ∷ items) (part ∷ parts) = Allows item part × EachAllows items parts

-- a word fits items: it can be cut into as many parts as there are items, each allowed by its item
unfoldable pub Fits : List Item → List ℕ → Type 0
Fits items word = (parts : List (List ℕ)) × (word ≡ concat parts) × EachAllows items parts

-- whether some end of a word passes a test; the whole word and the empty end count too
abbrev pub some_end : (List ℕ → Bool) → List ℕ → Bool
some_end test [] = test []
some_end test (c ∷ rest) = test (c ∷ rest) || some_end test rest

-- whether a word fits items, decided by trying each end of it after a run
abbrev pub fits_items : List Item → List ℕ → Bool
fits_items [] [] = true
fits_items [] (c ∷ rest) = false
fits_items (any_run ∷ items) word = some_end (fits_items items) word
fits_items (one_of negated ranges ∷ items) [] = false
fits_items (one_of negated ranges ∷ items) (c ∷ rest) = admits negated ranges c && fits_items items rest

-- whether a word fits a pattern, both as bytes of texts; items and parts are those of their characters
unfoldable pub fits : List ℕ → List ℕ → Bool
fits pattern word = fits_items (items_of pattern) (chars word)
