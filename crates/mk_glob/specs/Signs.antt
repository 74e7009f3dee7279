-- The characters of a pattern with its backslashes read, as the patterns of make(1)'s `:M` and `:N` have
-- them.
use Rattle.std.specs.Prelude.{ℕ, Bool, false, ◌==◌, List, [], ◌∷◌, if◌then◌else◌}
use Rattle.std.specs.Str.{chars}
use Rattle.general_facts.specs.Ascii.{backslash}
use Rattle.mk_glob.specs.declared.pattern_signs.PatternSign.{PatternSign}
use Rattle.mk_glob.specs.declared.pattern_signs.PatternSign.TheVariants.{Bare, Plain}

-- the signs of a pattern's characters: a backslash makes the character after it plain; a backslash
-- with none after it is itself
abbrev pub signs : List ℕ → List PatternSign
signs [] = []
signs (c ∷ []) = Bare c ∷ []
signs (c ∷ d ∷ rest) = if c == backslash then Plain d ∷ signs rest else Bare c ∷ signs (d ∷ rest)

-- the signs of a pattern's bytes
unfoldable pub signs_of : List ℕ → List PatternSign
signs_of pattern = signs (chars pattern)

-- the character that a sign is
abbrev pub character : PatternSign → ℕ
character (Bare c) = c
character (Plain c) = c

-- whether a sign is this character with no backslash before it
abbrev pub is_bare : ℕ → PatternSign → Bool
is_bare c (Bare d) = d == c
is_bare c (Plain d) = false
