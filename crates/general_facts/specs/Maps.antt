-- Finite maps and sets whose keys are texts.
use Rattle.std.proofs.Common.{◌≡◌, ◌∙◌, ap, ℕ, true, cond, ◌||◌, List, Bor}
use Rattle.std.proofs.lemmas.Map.Text.{is_eq-slice_cmp}
use Rattle.std.specs.BTreeSet.{BTreeSet, UpdatesBy, contains_by}
use Rattle.std.specs.Cmp.Lexicographic.{slice_cmp, nat_list_cmp_total}
use Rattle.std.specs.FinMap as finite
use Rattle.std.specs.Ordering.{nat_cmp}
use Rattle.std.specs.Str.{bytes_eq}
use Rattle.general_facts.specs.Bools.{cond-or}
use Rattle.general_facts.specs.Texts.{bytes_eq-sym}

-- two maps that answer alike are one
pub same_map : {X : Type 0} (m n : finite.FinMap (slice_cmp nat_cmp) X) → ((q : List ℕ) → finite.get m q ≡ finite.get n q) → m ≡ n
same_map m n same = finite.same_map nat_list_cmp_total (finite.slice_cmp-IsAntisymmetric finite.nat_cmp-IsAntisymmetric) m n same

-- the reference to a text
abbrev to : List ℕ → Bor (List ℕ)
to text = record { ref_ptr = (0, 0); now = text }

-- what a set of texts holds once one is put in
pub contains_by-put : (old new : BTreeSet (Bor (List ℕ))) (put other : List ℕ)
    → UpdatesBy (λ x y. slice_cmp nat_cmp x.now y.now) (λ q. slice_cmp nat_cmp put q.now) old new true
    → contains_by (λ held. slice_cmp nat_cmp other held.now) new
    ≡ (bytes_eq other put || contains_by (λ held. slice_cmp nat_cmp other held.now) old)
contains_by-put old new put other updates =
    updates.0 (to other)
    ∙ ap (λ is. cond is true (contains_by (λ held. slice_cmp nat_cmp other held.now) old))
    (is_eq-slice_cmp put other ∙ bytes_eq-sym put other)
    ∙ cond-or (bytes_eq other put) (contains_by (λ held. slice_cmp nat_cmp other held.now) old)
