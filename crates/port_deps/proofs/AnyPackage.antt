-- Without a spec any package will do.
use Rattle.std.proofs.Common.{◌≡◌, ◌∙◌, ap, sym, refl, ℕ, ◌==◌, true, List, Option, Some, None, option_and_then, length, codes}
use Rattle.std.proofs.lemmas.Bool.{eqb-true}
use Rattle.std.proofs.lemmas.List.{nil_from_length}
use Rattle.pkg_name.specs.Name.{NameParts}
use Rattle.pkg_path.specs.Paths.{PathValue, path_if_one}
use Rattle.pkg_spec.specs.Alternatives.{spec_of, alternative_of}
use Rattle.pkg_spec.specs.NameSet.{admitted_by}
use Rattle.text_parts.specs.Cuts.{cut_where}
use Rattle.port_deps.specs.ItemText.{WantedValue, at_sign, spec_text, spec_if_one, wanted_by, wanted_in}

pub any-admitted : (name : NameParts) → admitted_by (codes "STEM-*") name ≡ true
unfolding spec_of alternative_of cut_where
any-admitted name = refl

any-spec : spec_if_one (codes "STEM-*") ≡ Some (codes "STEM-*")
unfolding spec_of alternative_of cut_where
any-spec = refl

abbrev with_spec : PathValue → Option (List ℕ) → Option WantedValue
with_spec path spec = option_and_then (λ spec. Some (record { path = path; spec = spec })) spec

-- what is asked for by a path without a spec before it and without versions after it
pub any-wanted : (spec : Option (List ℕ)) (text before behind : List ℕ) (path : PathValue) → spec ≡ None → before ≡ (at_sign text).before
    → behind ≡ (at_sign text).behind → true ≡ (length behind == 0) → path_if_one before ≡ Some path
    → Some (record { path = path; spec = codes "STEM-*" }) ≡ wanted_in (record { spec = spec; path = text })
any-wanted spec text before behind path none is_before is_behind empty is =
    ap (with_spec path) (sym any-spec)
    ∙ ap (option_and_then (λ path. with_spec path (spec_if_one (codes "STEM-*")))) (sym is ∙ ap path_if_one is_before)
    ∙ ap (λ versions. option_and_then (wanted_by (at_sign text).before) (spec_text None versions))
    (sym (nil_from_length behind (eqb-true (length behind) 0 (sym empty))) ∙ is_behind)
    ∙ ap (λ spec. option_and_then (wanted_by (at_sign text).before) (spec_text spec (at_sign text).behind)) (sym none)
