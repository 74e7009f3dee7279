-- What a text is as a spec, where the readings of its parts are known.
use Rattle.std.proofs.Common.{◌≡◌, ◌∙◌, sym, ap, refl, ℕ, Bool, true, false, cond, eqb, List, map, Result, Ok, Err}
use Rattle.std.specs.List.{slice_split}
use Rattle.std.specs.Result.{IsOk}
use Rattle.pkg_spec.specs.Alternatives.{AlternativeValue, alternative_of, spec_of, unless_refused}
use Rattle.general_facts.specs.Ascii.{bar}
use Rattle.pkg_spec.specs.Seen.{ReadsParts, alternative_seen}
use Rattle.pkg_spec.specs.declared.spec.Reading.{Reading}
use Rattle.pkg_spec.specs.declared.faults.SpecFault.{SpecFault}
use Rattle.pkg_spec.specs.declared.faults.SpecFault.TheVariants.{NoStem, BadVersion, EmptyAlternative}

abbrev kept_of : Reading → List AlternativeValue
kept_of reading = map alternative_seen reading.alternatives.items

-- the alternatives that were kept, unless one had a refusal
abbrev answer : Bool → Bool → Bool → List AlternativeValue → Result (List AlternativeValue) SpecFault
answer no_stem bad_version empty kept = cond no_stem (Err NoStem)
    (cond bad_version (Err BadVersion) (cond empty (Err EmptyAlternative) (Ok kept)))

module _ (text : List ℕ) (parts : List (List ℕ)) (reading : Reading) (cut : parts ≡ slice_split (λ byte. eqb byte bar) text)
    (read : ReadsParts parts reading) where
  answered : spec_of text ≡ answer reading.no_stem reading.bad_version reading.empty (kept_of reading)
  unfolding spec_of
  answered =
      ap (λ parts. unless_refused (map alternative_of parts)) (sym cut)
      ∙ (λ i. answer (sym read.no_stem i) (sym read.bad_version i) (sym read.empty i) (sym read.kept i))

  pub is_no_stem : reading.no_stem ≡ true → spec_of text ≡ Err NoStem
  is_no_stem a = answered ∙ ap (λ b. answer b reading.bad_version reading.empty (kept_of reading)) a

  pub is_bad_version : reading.no_stem ≡ false → reading.bad_version ≡ true → spec_of text ≡ Err BadVersion
  is_bad_version a b = answered ∙ (λ i. answer (a i) (b i) reading.empty (kept_of reading))

  pub is_empty_alternative : reading.no_stem ≡ false → reading.bad_version ≡ false → reading.empty ≡ true
      → spec_of text ≡ Err EmptyAlternative
  is_empty_alternative a b d = answered ∙ (λ i. answer (a i) (b i) (d i) (kept_of reading))

  pub is_spec : reading.no_stem ≡ false → reading.bad_version ≡ false → reading.empty ≡ false → spec_of text ≡ Ok (kept_of reading)
  is_spec a b d = answered ∙ (λ i. answer (a i) (b i) (d i) (kept_of reading))

pub gives_alternatives : (reading : Result (List AlternativeValue) SpecFault) (kept : List AlternativeValue)
    → reading ≡ Ok kept → IsOk reading
gives_alternatives reading kept is = rw is refl
