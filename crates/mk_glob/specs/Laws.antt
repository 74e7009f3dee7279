-- What holds of patterns and words.
use Rattle.std.specs.Prelude.{ℕ, ◌↔◌, IsTrue, List}
use Rattle.std.specs.Str.{chars}
use Rattle.mk_glob.specs.Items.{items_of}
use Rattle.mk_glob.specs.Matcher.{Fits, fits}

-- the test is true exactly if the word can be cut
abbrev pub FitsWhereCut : Type 0
FitsWhereCut = (pattern word : List ℕ) → IsTrue (fits pattern word) ↔ Fits (items_of pattern) (chars word)
