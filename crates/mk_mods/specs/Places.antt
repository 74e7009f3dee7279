-- Where old texts are in words, and that substitutions act there.
use Rattle.std.specs.Prelude.{◌≡◌, ◌≢◌, ◌<◌, ℕ, zero, List, ◌++◌, length, Some, None}
use Rattle.mk_mods.specs.Substituted.{first_replaced, all_replaced}

-- an old text is nowhere in a word
abbrev pub IsNowhere : List ℕ → List ℕ → Type 0
IsNowhere old word = (front behind : List ℕ) → word ≢ front ++ (old ++ behind)

-- a word cut at the leftmost place of an old text
pub record FirstCut (old word front behind : List ℕ) : Type 0 where
  pub whole : word ≡ front ++ (old ++ behind)
  pub least : (f b : List ℕ) → length f < length front → word ≢ f ++ (old ++ b)

-- at one place: the new text replaces the old one at the leftmost place
abbrev pub FirstActsAtLeast : Type 0
FirstActsAtLeast = (old new word front behind : List ℕ) → 0 < length old → FirstCut old word front behind
    → first_replaced old new word ≡ Some (front ++ (new ++ behind))

-- at every place: it replaces the old text at the leftmost place, and then again in what follows the old
-- text there
abbrev pub EachActsAtLeast : Type 0
EachActsAtLeast = (old new word front behind : List ℕ) → 0 < length old → FirstCut old word front behind
    → all_replaced old new zero word ≡ front ++ (new ++ all_replaced old new zero behind)

-- if the old text is nowhere in the word, nothing is replaced
abbrev pub NoneWhereNowhere : Type 0
NoneWhereNowhere =
    (old new word : List ℕ) → IsNowhere old word
    → (first_replaced old new word ≡ None) × (all_replaced old new zero word ≡ word)
