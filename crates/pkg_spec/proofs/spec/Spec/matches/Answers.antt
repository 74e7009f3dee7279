-- The alternatives of a spec are those that its text is read as.
use Rattle.std.proofs.Common.{◌≡◌, ◌∙◌, ap, sym, refl, ◌||◌, List, [], ◌∷◌, map}
use Rattle.std.specs.List.{list_any}
use Rattle.pkg_name.specs.Name.{NameParts}
use Rattle.pkg_spec.specs.NameSet.{admitted_by, set_of, set_of_reading, set_of_alternative}
use Rattle.pkg_spec.specs.Seen.{alternative_seen}
use Rattle.pkg_spec.specs.declared.alternatives.Alternative.{Alternative}
use Rattle.pkg_spec.proofs.spec.Spec.matches.Goals as goal

one : (name : NameParts) (alternatives : List Alternative)
    → list_any (λ alternative. set_of_alternative (alternative_seen alternative) name) alternatives ≡ set_of
    (map alternative_seen alternatives) name
one name [] = refl
one name (alternative ∷ alternatives) = ap (λ b. set_of_alternative (alternative_seen alternative) name || b) (one name alternatives)

pub returns : goal.returns
returns c =
    c.one_admits.ensures ∙ ap (list_any (λ alternative. set_of_alternative (alternative_seen alternative) c.args.name.now))
    c.deref.ensures.value ∙ one c.args.name.now c.self.inside.alternatives.items
    ∙ sym (ap (λ reading. set_of_reading reading c.args.name.now) c.self.invariant.read)
    ∙ ap (λ text. admitted_by text c.args.name.now) c.self.view_is
