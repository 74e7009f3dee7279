use Rattle.std.specs.Prelude.{◌≡◌, ◌||◌, ℕ, Bool, List, map, String, string_bytes}
use Rattle.std.specs.List.{list_all}
use Rattle.std.specs.Global.{Global}
use Rattle.std.specs.Str.{bytes_eq}
use Rattle.std.specs.Ordering.{nat_cmp}
use Rattle.std.specs.Cmp.Lexicographic.{slice_cmp}
use Rattle.std.specs.BTreeSet.{contains_by}
use Rattle.mk_env.specs.Expansion.{is_among}
use Rattle.port_rules.specs.declared.text_sets.TextSet.{TextSet}

-- a text is one of a set
abbrev pub holds : TextSet → List ℕ → Bool
holds set text = contains_by (λ held. slice_cmp nat_cmp text held.now) set.texts

-- a set holds these texts, and no other
abbrev pub HoldsThese : TextSet → List (String Global) → Type 0
HoldsThese set texts = (text : List ℕ) → holds set text ≡ is_among text (map string_bytes texts)

-- a set holds what it held, and this text
abbrev pub HoldsMore : TextSet → List ℕ → TextSet → Type 0
HoldsMore new text old = (other : List ℕ) → holds new other ≡ (bytes_eq other text || holds old other)

-- each text is one of the first set or of the second
abbrev pub are_held : TextSet → TextSet → List (String Global) → Bool
are_held one other texts = list_all (λ text. holds one text || holds other text) (map string_bytes texts)
