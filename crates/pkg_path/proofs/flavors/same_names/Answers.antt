-- Texts are compared one by one.
use Rattle.std.proofs.Common.{◌≡◌, ◌∙◌, ap, refl, ◌&&◌, List, [], ◌∷◌, map, String, Global}
use Rattle.std.proofs.lemmas.Slice.Eq.{slice_eq-Decides, bytes_eq-Decides}
use Rattle.std.specs.Cmp.Lexicographic.{pointwise}
use Rattle.std.specs.Str.{bytes_eq}
use Rattle.std.specs.String.{string_bytes, string_eq}
use Rattle.pkg_path.proofs.flavors.same_names.Goals as goal

by_bytes : (names others : List (String Global)) → pointwise string_eq names others ≡ pointwise bytes_eq (map string_bytes names)
    (map string_bytes others)
by_bytes [] [] = refl
by_bytes [] (other ∷ others) = refl
by_bytes (name ∷ names) [] = refl
by_bytes (name ∷ names) (other ∷ others) = ap (λ b. string_eq name other && b) (by_bytes names others)

pub returns : goal.returns
returns c = slice_eq-Decides bytes_eq-Decides _ _ _ (c.eq.ensures ∙ by_bytes c.args.names.now c.args.others.now)
