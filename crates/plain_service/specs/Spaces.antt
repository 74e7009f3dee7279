-- Texts in the bodies of requests, which may end in a line feed.
use Rattle.std.specs.Prelude.{ℕ, ◌==◌, ◌||◌, if◌then◌else◌, Bool, List, [], ◌∷◌, reverse}
use Rattle.general_facts.specs.Ascii.{tab, line_feed, space}

-- a blank (a space or a tab) or a line feed
abbrev pub is_space : ℕ → Bool
is_space byte = byte == space || byte == tab || byte == line_feed

-- a text without the blanks and line feeds that it begins with
unfoldable pub skip_spaces : List ℕ → List ℕ
skip_spaces [] = []
skip_spaces (byte ∷ rest) = if is_space byte then skip_spaces rest else byte ∷ rest

-- a text without the blanks and line feeds at both its ends
abbrev pub trimmed : List ℕ → List ℕ
trimmed text = reverse (skip_spaces (reverse (skip_spaces text)))
