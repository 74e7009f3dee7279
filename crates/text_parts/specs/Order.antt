-- Texts in the order of their bytes, without doubles.
use Rattle.std.specs.Prelude.{ℕ, List, [], ◌∷◌}
use Rattle.std.specs.BTreeSet.{insert_key}
use Rattle.std.specs.Cmp.Lexicographic.{slice_cmp}
use Rattle.std.specs.Ordering.{nat_cmp}

-- texts in the order of their bytes, each once: a text is put in its place among the others, unless it is
-- already there
abbrev pub in_order : List (List ℕ) → List (List ℕ)
in_order [] = []
in_order (text ∷ texts) = insert_key (slice_cmp nat_cmp) (in_order texts) text
