-- What the functions give that read a spec and its parts. If memory ran out, nothing is said.
use Rattle.std.specs.Prelude.{◌≡◌, ℕ, true, false, ◌||◌, List, ◌++◌, map, drop, Option, Some, None, option_map}
use Rattle.std.specs.Prelude.{Result, Ok, Err, IfOk, IsErrOf, MatchOption, String, string_bytes, Vec, option_to_list}
use Rattle.std.specs.Borrow.{Bor}
use Rattle.std.specs.Result.{result_ok}
use Rattle.std.specs.declared.alloc.Global.{Global}
use Rattle.text_parts.specs.Cuts.{Cut}
use Rattle.pkg_spec.specs.Alternatives.{ComparisonValue, comparison_of, alternative_of, forbids, is_refused}
use Rattle.pkg_spec.specs.Seen.{comparison_seen, alternative_seen, has_noted}
use Rattle.pkg_spec.specs.declared.comparisons.Comparison.{Comparison}
use Rattle.pkg_spec.specs.declared.alternatives.Alternative.{Alternative}
use Rattle.pkg_spec.specs.declared.spec.Reading.{Reading}
use Rattle.pkg_spec.specs.declared.faults.SpecFault.{SpecFault}

-- if it refused with this fault, so does the definition
abbrev pub RefusesAs : {R X : Type 0} → Result R SpecFault → SpecFault → Result X SpecFault → Type 0
RefusesAs result fault reading = IsErrOf result fault → reading ≡ Err fault

-- if it succeeds, it gave the alternative that this text is
abbrev pub ReadsAlternative : Result Alternative SpecFault → List ℕ → Type 0
ReadsAlternative result text = IfOk result (λ alternative. alternative_of text ≡ Ok (alternative_seen alternative))

-- if it succeeds, it gave the comparison that this text is, or none
abbrev pub ReadsComparison : {F : Type 0} → Result (Option Comparison) F → List ℕ → Type 0
ReadsComparison result text = IfOk result (λ read. option_map comparison_seen read ≡ comparison_of text)

-- if it succeeds, it gave these comparisons, or none
abbrev pub ReadsComparisons : {F : Type 0} → Result (Option (Vec Comparison Global)) F → Option (List ComparisonValue) → Type 0
ReadsComparisons result read =
    IfOk result (λ found. option_map (λ comparisons. map comparison_seen comparisons.items) found ≡ read)

-- if it succeeds, it gave these flavors
abbrev pub GivesFlavors : {F : Type 0} → Result (Vec (String Global) Global) F → List (List ℕ) → Type 0
GivesFlavors result flavors = IfOk result (λ given. map string_bytes given.items ≡ flavors)

-- it gave the two parts of this cut, or none
abbrev pub GivesCut : Option (Bor (List ℕ) × Bor (List ℕ)) → Option Cut → Type 0
GivesCut result cut =
    MatchOption result (cut ≡ None) (λ parts. cut ≡ Some (record { before = parts.0.now; behind = parts.1.now }))

-- it gave the name of a forbidden flavor, or none if the flavor isn't forbidden
abbrev pub GivesForbidden : Option (Bor (List ℕ)) → List ℕ → Type 0
GivesForbidden result flavor =
    MatchOption result (forbids flavor ≡ false) (λ name. (forbids flavor ≡ true) × (name.now ≡ drop 1 flavor))

-- if it succeeds, it added the alternative that this text is, if it is one
abbrev pub AddsIfRead : {F : Type 0} → Result Reading F → Reading → List ℕ → Type 0
AddsIfRead result before text =
    IfOk result
    (λ after. map alternative_seen after.alternatives.items
    ≡ map alternative_seen before.alternatives.items ++ option_to_list (result_ok (alternative_of text)))

-- if it succeeds, this refusal is noted if it was, or if this text has it
abbrev pub NotesRefusal : {F : Type 0} → Result Reading F → SpecFault → Reading → List ℕ → Type 0
NotesRefusal result fault before text =
    IfOk result (λ after. has_noted fault after ≡ (has_noted fault before || is_refused fault (alternative_of text)))
