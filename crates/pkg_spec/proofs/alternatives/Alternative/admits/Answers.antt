-- An alternative is the intersection of what its parts admit.
use Rattle.std.proofs.Common.{◌≡◌, ◌∙◌, ap, sym, refl, Bool, true, false, ◌&&◌, List, [], ◌∷◌, ◌++◌, map}
use Rattle.std.proofs.lemmas.List.Folds.{list_all-append}
use Rattle.std.specs.List.{list_all}
use Rattle.std.specs.String.{string_bytes}
use Rattle.pkg_name.specs.Name.{NameParts}
use Rattle.pkg_spec.specs.NameSet.{NameSet, set_of_alternative, with_stem, meeting, having, lacking_flavor}
use Rattle.pkg_spec.specs.Seen.{alternative_seen, comparison_seen, admits_flavors}
use Rattle.pkg_spec.specs.declared.alternatives.Alternative.{Alternative}
use Rattle.pkg_spec.proofs.alternatives.Alternative.admits.Goals as goal

each : {X Y : Type 0} (set : Y → NameSet) (seen : X → Y) (name : NameParts) (xs : List X) → list_all (λ (s : NameSet). s name)
    (map set (map seen xs)) ≡ list_all (λ x. set (seen x) name) xs
each set seen name [] = refl
each set seen name (x ∷ xs) = ap (λ b. set (seen x) name && b) (each set seen name xs)

regrouped : (a b c : Bool) → ((a && b) && c) ≡ (a && (b && c))
regrouped true b c = refl
regrouped false b c = refl

after_stem : (alternative : Alternative) (name : NameParts) (stem : Bool) → with_stem (string_bytes alternative.stem) name ≡ stem
    → set_of_alternative (alternative_seen alternative) name ≡
    (stem && (list_all (λ comparison. meeting (comparison_seen comparison) name) alternative.comparisons.items &&
    admits_flavors alternative name))
after_stem alternative name stem is =
    let in_set : NameSet → Bool = λ s. s name in
    let comparisons = map meeting (map comparison_seen alternative.comparisons.items) in
    let wanted = map having (map string_bytes alternative.wanted.items) in
    let forbidden = map lacking_flavor (map string_bytes alternative.forbidden.items) in
    ap (λ b. b && list_all in_set (comparisons ++ wanted ++ forbidden)) is
    ∙ ap (λ b. stem && b) (list_all-append in_set (comparisons ++ wanted) forbidden ∙ ap (λ b. b && list_all in_set forbidden)
    (list_all-append in_set comparisons wanted)
    ∙ regrouped (list_all in_set comparisons) (list_all in_set wanted) (list_all in_set forbidden)
    ∙ ap (λ b. b && (list_all in_set wanted && list_all in_set forbidden)) (each meeting comparison_seen name alternative.comparisons.items)
    ∙ ap (λ b. list_all (λ comparison. meeting (comparison_seen comparison) name) alternative.comparisons.items &&
    (b && list_all in_set forbidden)) (each having string_bytes name alternative.wanted.items)
    ∙ ap (λ b. list_all (λ comparison. meeting (comparison_seen comparison) name) alternative.comparisons.items &&
    (list_all (λ flavor. having (string_bytes flavor) name) alternative.wanted.items && b))
    (each lacking_flavor string_bytes name alternative.forbidden.items))

pub returns-then-fits_stem : goal.returns-then-fits_stem
returns-then-fits_stem c =
    c.admits_after_stem.ensures
    ∙ sym (after_stem c.args.self.now c.args.name.now true (ap (λ stem. with_stem stem c.args.name.now) (sym c.as_str.ensures.value)
    ∙ sym c.fits_stem.ensures ∙ c.if-fits_stem.true))
