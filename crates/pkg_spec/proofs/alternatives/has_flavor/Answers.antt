-- The flavors of a name are seen as their bytes.
use Rattle.std.proofs.Common.{◌≡◌, ◌∙◌, ap, refl, ℕ, Bool, ◌||◌, List, [], ◌∷◌, map, String, Global}
use Rattle.std.specs.List.{list_any}
use Rattle.std.specs.Str.{bytes_eq}
use Rattle.std.specs.String.{string_bytes}
use Rattle.pkg_spec.proofs.alternatives.has_flavor.Goals as goal

by_bytes : (p : List ℕ → Bool) (texts : List (String Global)) → list_any (λ text. p (string_bytes text)) texts ≡ list_any p
    (map string_bytes texts)
by_bytes p [] = refl
by_bytes p (text ∷ texts) = ap (λ b. p (string_bytes text) || b) (by_bytes p texts)

pub returns : goal.returns
returns c = c.is_among.ensures ∙ by_bytes (bytes_eq c.args.flavor.now) c.flavors.result.now
    ∙ ap (list_any (bytes_eq c.args.flavor.now)) c.flavors.ensures
