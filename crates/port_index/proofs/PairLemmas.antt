-- How many makefiles are evaluated for paths, and what the listed ones cost.
use Rattle.std.proofs.Common.{◌≡◌, ◌∙◌, sym, ap, ap₂, refl, ℕ, ◌+◌, Bool, true, false, if◌then◌else◌, List, [], ◌∷◌, ◌++◌, length, Option}
use Rattle.std.proofs.Common.{Some, None, is_some, Result, Ok, Err, arith}
use Rattle.std.proofs.lemmas.List.Sums.{sum_by-cons}
use Rattle.std.specs.List.{sum_by, filter_map, flat_map, cons_option}
use Rattle.std.specs.Str.{bytes_eq}
use Rattle.text_parts.specs.Ordered.{in_order-again}
use Rattle.mk_eval.specs.Expanded.{Expanded}
use Rattle.mk_eval.specs.Meaning.{means, value_of_variable}
use Rattle.mk_eval.specs.declared.outcome.Evaluated.{Evaluated}
use Rattle.mk_eval.specs.declared.outcome.Failed.{Failed}
use Rattle.mk_eval.specs.declared.outcome.Kind.{Kind}
use Rattle.mk_eval.specs.declared.outcome.Kind.TheVariants as kinds
use Rattle.mk_paths.specs.Place.{place}
use Rattle.mk_paths.specs.World.{World, files_in}
use Rattle.pkg_path.specs.Paths.{PathValue, path_if_one}
use Rattle.port_rules.specs.Records.{record_of}
use Rattle.port_rules.specs.declared.records.Recorded.{Recorded}
use Rattle.std.specs.Prelude.{codes, option_map, option_and_then}
use Rattle.port_index.specs.PathOutcomes.{port_finding, list_finding, list_after, finding_by, finding_of_evaluation, finding_of, finding_in}
use Rattle.port_index.specs.PathOutcomes.{finding_named, finding_at, cost_at, own_directory}
use Rattle.port_index.specs.Efforts.{is_there, evaluations_for, evaluations_at}
use Rattle.port_index.specs.Index.{listed_paths}
use Rattle.port_index.specs.TreePaths.{directories, named_at}
use Rattle.port_index.specs.PathOutcomes.{outcome_at}
use Rattle.port_index.specs.Dependencies.{items_among, target_of}
use Rattle.port_index.specs.Pairs.{Pair, pair_in, pair_named, pair_at, pairs_at}
use Rattle.port_index.specs.PathLaws.{ListedPathsCostNoMore, MakefilesAreEvaluated}
use Rattle.port_index.proofs.Totals.{sum-joined}

port_there : (spent : ℕ) (recorded : Result Recorded Failed) → is_there (port_finding spent recorded).outcome ≡ true
port_there spent (Ok recorded) = refl
port_there spent (Err failed) = refl

list_there : (spent : ℕ) (value : Result (Option Expanded) Failed) → is_there (list_finding spent value).outcome ≡ true
list_there spent (Ok value) = refl
list_there spent (Err failed) = refl

after_there : (makefile : List ℕ) (flavors : Option (List (List ℕ))) (evaluated : Evaluated)
    → is_there (list_after makefile flavors evaluated).outcome ≡ true
after_there makefile (Some flavors) evaluated = refl
after_there makefile None evaluated = list_there evaluated.cost (value_of_variable evaluated.env makefile (codes "SUBDIR"))

kind_there : (makefile : List ℕ) (flavors : Option (List (List ℕ))) (evaluated : Evaluated) (kind : Kind)
    → is_there (finding_by makefile flavors evaluated kind).outcome ≡ true
kind_there makefile flavors evaluated kinds.Port = port_there evaluated.cost (record_of evaluated.env makefile)
kind_there makefile flavors evaluated kinds.List = after_there makefile flavors evaluated
kind_there makefile flavors evaluated kinds.Other = refl

pub evaluation_there : (makefile : List ℕ) (flavors : Option (List (List ℕ))) (end : Result Evaluated Failed)
    → is_there (finding_of_evaluation makefile flavors end).outcome ≡ true
evaluation_there makefile flavors (Ok evaluated) = kind_there makefile flavors evaluated evaluated.kind
evaluation_there makefile flavors (Err failed) = refl

-- how many there are: one or none
abbrev one_if : {X : Type 0} → Option X → ℕ
one_if found = if is_some found then 1 else 0

module _ (world : World) where
  place_counts : (flavors : Option (List (List ℕ))) (makefile : Option (List ℕ))
      → evaluations_for (finding_of world flavors makefile).outcome ≡ one_if
      (option_map (λ makefile. let pair : Pair = record { makefile = makefile; flavors = flavors } in pair) makefile)
  place_counts flavors (Some makefile) = ap (λ (b : Bool). if b then 1 else 0)
      (evaluation_there makefile flavors (means world makefile flavors))
  place_counts flavors None = refl

  path_counts : (path : Option PathValue) → evaluations_for (finding_named world path).outcome ≡ one_if
      (option_and_then (pair_named world) path)
  path_counts (Some path) = place_counts path.flavors (place world path.directory)
  path_counts None = refl

  own_counts : (path : List ℕ) (own : Bool)
      → evaluations_for (if own then finding_in world path None else finding_named world (path_if_one path)).outcome
      ≡ one_if (if own then pair_in world path None else option_and_then (pair_named world) (path_if_one path))
  own_counts path true = place_counts None (place world path)
  own_counts path false = path_counts (path_if_one path)

  counts : (path : List ℕ) → evaluations_at world path ≡ one_if (pair_at world path)
  unfolding finding_at
  counts path = own_counts path (bytes_eq path own_directory)

  length-cons : {X : Type 0} (found : Option X) (rest : List X) → length (cons_option found rest) ≡ one_if found + length rest
  length-cons None rest = omega arith
  length-cons (Some x) rest = omega arith

  all_counts : (paths : List (List ℕ)) → sum_by (evaluations_at world) paths ≡ length (pairs_at world paths)
  all_counts [] = refl
  all_counts (path ∷ paths) =
      sum_by-cons (evaluations_at world) path paths ∙ ap₂ (λ a b. a + b) (counts path) (all_counts paths)
      ∙ sym (length-cons (pair_at world path) (pairs_at world paths))

pub evaluations_are : MakefilesAreEvaluated
evaluations_are world paths = all_counts world paths

pub listed_cost : ListedPathsCostNoMore
listed_cost world =
    let found = directories (files_in world) in
    let listed = listed_paths world in
    let targets = filter_map target_of (items_among (outcome_at world) listed) in
    let again = ap (sum_by (cost_at world)) (in_order-again (flat_map (named_at (outcome_at world)) found ++ found)) in
    omega (arith, sum-joined (cost_at world) listed targets, again)
