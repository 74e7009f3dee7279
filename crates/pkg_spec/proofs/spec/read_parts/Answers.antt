-- One part more.
use Rattle.std.proofs.Common.{◌≡◌, ◌∙◌, ◌<◌, ◌+◌, sym, ap, refl, ℕ, Bool, true, false, ◌||◌, List, [], ◌∷◌, ◌++◌, map, take, get_or, length}
use Rattle.std.proofs.Common.{Result, Ok, Err}
use Rattle.std.proofs.lemmas.List.{take_more, map-append}
use Rattle.std.proofs.lemmas.List.Elements.{filter_map-append}
use Rattle.std.proofs.lemmas.List.Folds.{list_any-append}
use Rattle.std.specs.Borrow.{Bor}
use Rattle.std.specs.List.{list_any, filter_map}
use Rattle.std.specs.Option.{option_to_list}
use Rattle.std.specs.Result.{result_ok}
use Rattle.pkg_spec.specs.Alternatives.{AlternativeValue, alternative_of, is_refused}
use Rattle.text_parts.specs.Cuts.{now_all}
use Rattle.pkg_spec.specs.declared.faults.SpecFault.{SpecFault}
use Rattle.pkg_spec.specs.declared.faults.SpecFault.TheVariants.{NoStem, BadVersion, EmptyAlternative}
use Rattle.pkg_spec.proofs.spec.read_parts.Goals as goal

readings_more : (parts : List (Bor (List ℕ))) (i : ℕ) (d : Bor (List ℕ)) → i < length parts
    → map alternative_of (now_all (take (i + 1) parts)) ≡ map alternative_of (now_all (take i parts)) ++ alternative_of
    (get_or parts i d).now ∷ []
readings_more parts i d inside =
    ap (λ some. map alternative_of (now_all some)) (take_more parts i d inside)
    ∙ ap (map alternative_of) (map-append (λ (part : Bor (List ℕ)). part.now) (take i parts) (get_or parts i d ∷ []))
    ∙ map-append alternative_of (now_all (take i parts)) ((get_or parts i d).now ∷ [])

or_none : (a b : Bool) → (a || b) ≡ (a || (b || false))
or_none a true = refl
or_none a false = refl

refused_more : (fault : SpecFault) (readings : List (Result AlternativeValue SpecFault)) (reading : Result AlternativeValue SpecFault)
    (before now : Bool) → before ≡ list_any (is_refused fault) readings
    → now ≡ (before || is_refused fault reading) → now ≡ list_any (is_refused fault) (readings ++ reading ∷ [])
refused_more fault readings reading before now e is =
    is ∙ ap (λ b. b || is_refused fault reading) e ∙ or_none (list_any (is_refused fault) readings) (is_refused fault reading)
    ∙ sym (list_any-append (is_refused fault) readings (reading ∷ []))

one_kept : (reading : Result AlternativeValue SpecFault) → option_to_list (result_ok reading) ≡ filter_map result_ok (reading ∷ [])
one_kept (Ok alternative) = refl
one_kept (Err fault) = refl

kept_more : (readings : List (Result AlternativeValue SpecFault)) (reading : Result AlternativeValue SpecFault)
    (before now : List AlternativeValue) → before ≡ filter_map result_ok readings
    → now ≡ before ++ option_to_list (result_ok reading) → now ≡ filter_map result_ok (readings ++ reading ∷ [])
kept_more readings reading before now e is =
    is ∙ ap (λ xs. xs ++ option_to_list (result_ok reading)) e ∙ ap (λ xs. filter_map result_ok readings ++ xs) (one_kept reading)
    ∙ sym (filter_map-append result_ok readings (reading ∷ []))

refused_part : (fault : SpecFault) (parts : List (Bor (List ℕ))) (i : ℕ) (d : Bor (List ℕ)) (before now : Bool) → i < length parts
    → before ≡ list_any (is_refused fault) (map alternative_of (now_all (take i parts)))
    → now ≡ (before || is_refused fault (alternative_of (get_or parts i d).now)) → now ≡ list_any (is_refused fault)
    (map alternative_of (now_all (take (i + 1) parts)))
refused_part fault parts i d before now inside e is =
    refused_more fault (map alternative_of (now_all (take i parts))) (alternative_of (get_or parts i d).now) before now e is
    ∙ ap (list_any (is_refused fault)) (sym (readings_more parts i d inside))

kept_part : (parts : List (Bor (List ℕ))) (i : ℕ) (d : Bor (List ℕ)) (before now : List AlternativeValue) → i < length parts
    → before ≡ filter_map result_ok (map alternative_of (now_all (take i parts)))
    → now ≡ before ++ option_to_list (result_ok (alternative_of (get_or parts i d).now))
    → now ≡ filter_map result_ok (map alternative_of (now_all (take (i + 1) parts)))
kept_part parts i d before now inside e is =
    kept_more (map alternative_of (now_all (take i parts))) (alternative_of (get_or parts i d).now) before now e is
    ∙ ap (filter_map result_ok) (sym (readings_more parts i d inside))

pub loop-part-preserved : goal.loop-part-preserved
loop-part-preserved c =
    let parts = c.args.parts.now in
    let i = c.loop-part.part-index in
    let inside = c.loop-part-test.true in
    let before = c.loop-part.invariant in
    let now = c.in_ok-reading.ensures in
    record {
      kept = kept_part parts i _ _ _ inside before.kept now.alternatives;
      no_stem = refused_part NoStem parts i _ _ _ inside before.no_stem now.no_stem;
      bad_version = refused_part BadVersion parts i _ _ _ inside before.bad_version now.bad_version;
      empty = refused_part EmptyAlternative parts i _ _ _ inside before.empty now.empty;
    }
