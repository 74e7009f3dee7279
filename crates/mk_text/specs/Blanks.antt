-- Blanks, as make(1) takes them around words: spaces and tabs.
use Rattle.std.specs.Prelude.{ℕ, Bool, ◌==◌, ◌||◌, List, [], ◌∷◌, reverse, if◌then◌else◌}
use Rattle.general_facts.specs.Ascii.{tab, space}

-- a blank is a space or a tab
abbrev pub is_blank : ℕ → Bool
is_blank b = b == space || b == tab

-- a text without the blanks that it begins with
abbrev pub skip_blanks : List ℕ → List ℕ
skip_blanks [] = []
skip_blanks (b ∷ rest) = if is_blank b then skip_blanks rest else b ∷ rest

-- a text without the blanks at both its ends
unfoldable pub trim_blanks : List ℕ → List ℕ
trim_blanks text = reverse (skip_blanks (reverse (skip_blanks text)))
