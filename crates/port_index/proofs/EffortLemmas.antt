-- What is counted for paths without a row, those of one list after those of another.
use Rattle.std.proofs.Common.{◌≡◌, ◌∙◌, sym, ap, ap₂, refl, ℕ, ◌+◌, Bool, true, false, if◌then◌else◌, List, ◌++◌, Option, Some, is_none}
use Rattle.std.proofs.lemmas.Map.Text.{is_eq-slice_cmp}
use Rattle.std.specs.List.{sum_by, filter, list_any}
use Rattle.std.specs.Ordering.{eq_by_cmp}
use Rattle.general_facts.specs.Texts.{bytes_eq-sym}
use Rattle.text_parts.specs.Order.{in_order}
use Rattle.text_parts.specs.Ordered.{among, in_order-sorted, among-in_order, same_in_order, by_bytes}
use Rattle.mk_paths.specs.World.{World}
use Rattle.port_index.specs.PathOutcomes.{PathOutcome, outcome_at}
use Rattle.port_index.specs.Efforts.{lacking}
use Rattle.port_index.specs.FilledRows.{is_one_of, Fills}
use Rattle.port_index.proofs.Filled.{Entries}
use Rattle.port_index.proofs.Totals.{unless, sum-joined, sum-filter}

-- the weight of a path that has no row
abbrev if_lacking : Entries → (List ℕ → ℕ) → List ℕ → ℕ
if_lacking entries weight path = if is_none (entries path) then weight path else 0

has_row : (weight : List ℕ → ℕ) (path : List ℕ) (row old : Option PathOutcome) (one : Bool) → is_none row ≡ false
    → (if is_none (if one then row else old) then weight path else 0) ≡ (if one then 0 else (if is_none old then weight path else 0))
has_row weight path row old true is = ap (λ (b : Bool). if b then weight path else 0) is
has_row weight path row old false is = refl

module _ (world : World) where
  then_lacking : (weight : List ℕ → ℕ) (paths : List (List ℕ)) (old new : Entries) → Fills world paths old new
      → if_lacking new weight ≡ unless paths (if_lacking old weight)
  then_lacking weight paths old new fills i path =
      (ap (λ row. if is_none row then weight path else 0) (fills.filled path)
      ∙ has_row weight path (Some (outcome_at world path)) (old path) (is_one_of path paths) refl) i

  sum-lacking : (weight : List ℕ → ℕ) (entries : Entries) (paths : List (List ℕ)) → sum_by weight (lacking entries paths) ≡ sum_by
      (if_lacking entries weight) (in_order paths)
  sum-lacking weight entries paths = sum-filter (λ path. is_none (entries path)) weight (in_order paths)

  pub sum-on : (weight : List ℕ → ℕ) (paths more : List (List ℕ)) (old new : Entries) → Fills world paths old new
      → sum_by weight (lacking old paths) + sum_by weight (lacking new more) ≡ sum_by weight (lacking old (paths ++ more))
  sum-on weight paths more old new fills =
      ap₂ (λ a b. a + b) (sum-lacking weight old paths)
      (sum-lacking weight new more ∙ ap (λ f. sum_by f (in_order more)) (then_lacking weight paths old new fills))
      ∙ sym (sum-joined (if_lacking old weight) paths more)
      ∙ sym (sum-lacking weight old (paths ++ more))

-- the same paths in another list
pub lacking-same : (entries : Entries) (paths others : List (List ℕ)) → in_order paths ≡ in_order others
    → lacking entries paths ≡ lacking entries others
lacking-same entries paths others same = ap (filter (λ path. is_none (entries path))) same

among_is : (text : List ℕ) (texts : List (List ℕ)) → among text texts ≡ is_one_of text texts
among_is text texts = ap (λ test. list_any test texts) (λ i one. (is_eq-slice_cmp text one ∙ bytes_eq-sym text one) i)

-- paths in order are the same where the same paths are among them
pub in_order-same : (paths others : List (List ℕ)) → ((path : List ℕ) → is_one_of path paths ≡ is_one_of path others)
    → in_order paths ≡ in_order others
in_order-same paths others same =
    same_in_order (in_order paths) (in_order others) (in_order-sorted paths) (in_order-sorted others)
    (λ path. among-in_order (eq_by_cmp by_bytes path) paths ∙ among_is path paths ∙ same path ∙ sym (among_is path others)
    ∙ sym (among-in_order (eq_by_cmp by_bytes path) others))
