-- What taking rows out of a table, replacing rows and adding a row make of its rows, as lists in the order of their rowids.
use Rattle.std.proofs.Common.{◌≡◌, inl, inr, ℤ, pos, ◌+ℤ◌, ◌<ℤ◌, Bool, true, false, cond, not, List, [], ◌∷◌, ◌++◌, map, filter, fold}
use Rattle.std.proofs.Common.{IsTrue, refl, sym, ap, subst, ◌∙◌, arith, Less, Equal, is_eq, true≢false}
use Rattle.std.proofs.lemmas.Bool.{cases_Bool, and_parts, not-true}
use Rattle.std.proofs.lemmas.Bool.Decides.{nat_tests}
use Rattle.std.proofs.lemmas.Int.{ints}
use Rattle.std.proofs.lemmas.Cmp.{tied_itself}
use Rattle.std.specs.Ordering.{int_cmp, match_ordering}
use Rattle.std.specs.List.{AllByRecursion}
use Rattle.general_facts.specs.Bools.{Equal_from_is_eq}
use Rattle.sqlite_value.specs.declared.value.Value.TheVariants.{Int}
use Rattle.sqlite_value.specs.Order.{Row, value_cmp}
use Rattle.sqlite_value.proofs.OrderLemmas.{value_cmp_total, value_cmp-Int}
use Rattle.sqlite_trees.specs.Tree.{rowid, IsTable, has_rowid, put_row, without_rowid}
use Rattle.sqlite_trees.specs.View.{IsShaped, is_int}
use Rattle.sqlite_trees.specs.declared.store.Shape.TheVariants.{Table}
use Rattle.sqlite_trees.proofs.TreeLemmas.{IsShaped-filter, IsShaped-put_row}
use Rattle.sqlite_rules.specs.Lists.{Has}
use Rattle.sqlite_rules.specs.Edit.{id_in, next_rowid, without_all, put_all, are_fresh, have_rowids}
use Rattle.sqlite_rules.proofs.ListLemmas.{all_has, all_from, has_filtered, has_kept}
use Rattle.sqlite_rules.proofs.TableLemmas.{int_is, put_all_has, put_all_keeps, put_all_adds, without_all_has}
use Rattle.sqlite_rules.proofs.PlaceLemmas.{tied_same}
use Rattle.sqlite_rules.proofs.ProbeLemmas.{has_mapped, mapped_has}

-- the rows of a table: their rowids are integers that rise
abbrev pub AreRows : List Row → Type 0
AreRows rows = IsShaped Table rows

apart : (a b : Row) → value_cmp (rowid a) (rowid b) ≡ Less → a ≡ b → ⊥
apart a b less same =
    let tie = tied_itself value_cmp_total (rowid b) in
    let here : value_cmp (rowid b) (rowid b) ≡ Less = subst (λ r. value_cmp (rowid r) (rowid b) ≡ Less) same less in
    cc

crossed : (a b : Row) → value_cmp (rowid a) (rowid b) ≡ Less → value_cmp (rowid b) (rowid a) ≡ Less → ⊥
crossed a b p q = apart a a (value_cmp_total.trans (rowid a) (rowid b) (rowid a) p q) refl

-- two tables with the same rows are one list
pub same_rows : (xs ys : List Row) → IsTable xs → IsTable ys → ((r : Row) → Has xs r → Has ys r) → ((r : Row) → Has ys r → Has xs r)
    → xs ≡ ys
same_rows [] [] p q f g = refl
same_rows [] (y ∷ ys) p q f g = absurd (g y (inl refl))
same_rows (x ∷ xs) [] p q f g = absurd (f x (inl refl))
same_rows (x ∷ xs) (y ∷ ys) p q f g =
    let heads : x ≡ y = elim (f x (inl refl)) [
      | inl same ↦ same
      | inr later ↦ elim (g y (inl refl)) [
        | inl same ↦ sym same
        | inr after ↦ absurd (crossed x y (all_has _ xs y p.0 after) (all_has _ ys x q.0 later))
      ]
    ] in
    let tails : xs ≡ ys = same_rows xs ys p.1 q.1
    (λ r h. elim (f r (inr h)) [ inl is ↦ absurd (apart x r (all_has _ xs r p.0 h) (heads ∙ sym is)) | inr later ↦ later ])
    (λ r h. elim (g r (inr h)) [ inl is ↦ absurd (apart y r (all_has _ ys r q.0 h) (sym heads ∙ sym is)) | inr later ↦ later ]) in
    λ i. heads i ∷ tails i

-- rows that keep their rowids still rise
pub mapped_rise : (f : Row → Row) (rows : List Row) → ((r : Row) → Has rows r → rowid (f r) ≡ rowid r) → AreRows rows → AreRows (map f rows)
mapped_rise f [] same are = (tt, tt)
mapped_rise f (r ∷ rows) same are =
    let more = mapped_rise f rows (λ x h. same x (inr h)) (are.0.1, are.1.1) in (
      (
        all_from _ (map f rows) (λ x h.
            let y = has_mapped f rows x h in
            subst (λ v. value_cmp v (rowid x) ≡ Less) (sym (same r (inl refl)))
            (subst (λ v. value_cmp (rowid r) v ≡ Less) (sym (ap rowid y.2 ∙ same y.0 (inr y.1))) (all_has _ rows y.0 are.0.0 y.1))),
        more.0,
      ),
      (subst (λ v. is_int v ≡ true) (sym (same r (inl refl))) are.1.0, more.1),
    )

-- ---- rows that are taken out

Lacks : List ℤ → Row → Type 0
Lacks ids x = (id : ℤ) → Has ids id → has_rowid id x ≡ false

left_has : (ids : List ℤ) (rows : List Row) (x : Row) → Has rows x → Lacks ids x → Has (without_all rows ids) x
unfolding Lacks
left_has [] rows x h lacks = h
left_has (id ∷ ids) rows x h lacks = left_has ids (without_rowid id rows) x
    (has_kept (λ y. not (has_rowid id y)) rows x h (ap not (lacks id (inl refl)))) (λ other k. lacks other (inr k))

left_lacks : (ids : List ℤ) (rows : List Row) (x : Row) → Has (without_all rows ids) x → Lacks ids x
unfolding Lacks
left_lacks [] rows x h id none = absurd none
left_lacks (k ∷ ids) rows x h id (inl same) =
    let there = without_all_has ids (without_rowid k rows) x h in
    subst (λ n. has_rowid n x ≡ false) (sym same) (not-true _ (has_filtered (λ y. not (has_rowid k y)) rows x there).1)
left_lacks (k ∷ ids) rows x h id (inr later) = left_lacks ids (without_rowid k rows) x h id later

pub AreRows-without_all : (ids : List ℤ) (rows : List Row) → AreRows rows → AreRows (without_all rows ids)
AreRows-without_all [] rows h = h
AreRows-without_all (id ∷ ids) rows h =
    AreRows-without_all ids (without_rowid id rows) (IsShaped-filter Table (λ r. not (has_rowid id r)) rows h)

pub AreRows-put_all : (news rows : List Row) → have_rowids news ≡ true → AreRows rows → AreRows (put_all rows news)
AreRows-put_all [] rows keyed h = h
AreRows-put_all (n ∷ news) rows keyed h =
    let parts = and_parts (is_int (rowid n)) (have_rowids news) keyed in
    AreRows-put_all news (put_row n rows) parts.1 (IsShaped-put_row n rows parts.0 h)

-- these are the rowids of the rows that pass a test
pub record AreIdsOf (p : Row → Bool) (rows : List Row) (ids : List ℤ) : Type 0 where
  pub sound : (id : ℤ) → Has ids id → (r : Row) × Has rows r × (p r ≡ true) × (id ≡ id_in (rowid r))
  pub complete : (r : Row) → Has rows r → p r ≡ true → Has ids (id_in (rowid r))

module _ (p : Row → Bool) (rows : List Row) (ids : List ℤ) (are : AreRows rows) (picked : AreIdsOf p rows ids) where
  int_at : (x : Row) → Has rows x → rowid x ≡ Int (id_in (rowid x))
  int_at x h = int_is (rowid x) (all_has _ rows x are.1 h)

  has_own : (x : Row) → Has rows x → has_rowid (id_in (rowid x)) x ≡ true
  has_own x h = ap is_eq (subst (λ v. value_cmp (rowid x) v ≡ Equal) (int_at x h) (tied_itself value_cmp_total (rowid x)))

  left_is : (x : Row) → Has (without_all rows ids) x → Has rows x × (p x ≡ false)
  unfolding Lacks
  left_is x h =
      let here = without_all_has ids rows x h in (
        here,
        elim (cases_Bool (p x)) [
          | inl passes ↦ absurd (true≢false (sym (has_own x here)
              ∙ left_lacks ids rows x h (id_in (rowid x)) (picked.complete x here passes)))
          | inr fails ↦ fails
        ],
      )

  is_left : (x : Row) → Has rows x → p x ≡ false → Has (without_all rows ids) x
  unfolding Lacks
  is_left x h fails = left_has ids rows x h (λ id k. elim (cases_Bool (has_rowid id x)) [
    | inl has ↦
        let r = picked.sound id k in
        let tie : value_cmp (rowid x) (rowid r.0) ≡ Equal =
        subst (λ v. value_cmp (rowid x) v ≡ Equal) (ap Int r.3 ∙ sym (int_at r.0 r.1)) (Equal_from_is_eq _ has) in
        let same = tied_same rows x r.0 are.0 h r.1 tie in
        absurd (true≢false (sym r.2 ∙ ap p (sym same) ∙ fails))
    | inr lacks ↦ lacks
  ])

  -- the rows that are left are those that fail the test
  pub without_picked : without_all rows ids ≡ filter (λ r. not (p r)) rows
  without_picked =
      same_rows _ _ (AreRows-without_all ids rows are).0 (IsShaped-filter Table (λ r. not (p r)) rows are).0
      (λ r h. let it = left_is r h in has_kept (λ r. not (p r)) rows r it.0 (ap not it.1))
      (λ r h. let it = has_filtered (λ r. not (p r)) rows r h in is_left r it.0 (not-true _ it.1))

  -- ---- rows that are replaced at their rowids

  module _ (f : Row → Row) (kept : (r : Row) → Has rows r → rowid (f r) ≡ rowid r) where
    abbrev changed : Row → Row
    changed r = cond (p r) (f r) r

    same_id : (r : Row) → Has rows r → rowid (changed r) ≡ rowid r
    same_id r h = elim (p r) as (λ b. rowid (cond b (f r) r) ≡ rowid r) [ true ↦ kept r h | false ↦ refl ]

    pub replaced : (news : List Row) → have_rowids news ≡ true → are_fresh (without_all rows ids) news ≡ true
        → ((x : Row) → Has news x → (r : Row) × Has rows r × (p r ≡ true) × (x ≡ f r))
        → ((r : Row) → Has rows r → p r ≡ true → Has news (f r))
        → put_all (without_all rows ids) news ≡ map (λ r. cond (p r) (f r) r) rows
    replaced news keyed fresh sound complete =
        same_rows _ _ (AreRows-put_all news _ keyed (AreRows-without_all ids rows are)).0 (mapped_rise changed rows same_id are).0
        (λ x h. elim (put_all_has news (without_all rows ids) x h) [
          | inl new ↦
              let r = sound x new in
              subst (Has (map changed rows)) (ap (λ b. cond b (f r.0) r.0) r.2 ∙ sym r.3) (mapped_has changed rows r.0 r.1)
          | inr old ↦
              let it = left_is x old in
              subst (Has (map changed rows)) (ap (λ b. cond b (f x) x) it.1) (mapped_has changed rows x it.0)
        ])
        (λ x h.
        let r = has_mapped changed rows x h in
        elim (cases_Bool (p r.0)) [
          | inl passes ↦ subst (Has (put_all (without_all rows ids) news)) (sym (r.2 ∙ ap (λ b. cond b (f r.0) r.0) passes))
              (put_all_adds news (without_all rows ids) (f r.0) fresh (complete r.0 r.1 passes))
          | inr fails ↦ subst (Has (put_all (without_all rows ids) news)) (sym (r.2 ∙ ap (λ b. cond b (f r.0) r.0) fails))
              (put_all_keeps news (without_all rows ids) r.0 fresh (is_left r.0 r.1 fails))
        ])

-- ---- a row that is added

lower_than : (a b c : ℤ) → int_cmp a b ≡ Less → b <ℤ c → a <ℤ c
lower_than a b c p q = grind (arith, ints, nat_tests)

abbrev step_rowid : ℤ → Row → ℤ
step_rowid n r = id_in (rowid r) +ℤ pos 1

below_next : (x : Row) (rows : List Row) → IsTable (x ∷ rows) → AllByRecursion (λ r. IsTrue (is_int (rowid r))) (x ∷ rows)
    → AllByRecursion (λ r. id_in (rowid r) <ℤ fold step_rowid (step_rowid (pos 1) x) rows) (x ∷ rows)
below_next x [] up keyed = (omega (arith, ints), tt)
below_next x (y ∷ rows) up keyed =
    let later = below_next y rows up.1 keyed.1 in
    let lower = rw (int_is (rowid x) keyed.0, int_is (rowid y) keyed.1.0, value_cmp-Int (id_in (rowid x)) (id_in (rowid y))) at up.0.0 in
    let first = later.0 in
    (lower_than (id_in (rowid x)) (id_in (rowid y)) _ lower first, later)

below_is : (a b : ℤ) → a <ℤ b → value_cmp (Int a) (Int b) ≡ Less
below_is a b h = value_cmp-Int a b ∙ grind (arith, ints, nat_tests)

put_last : (new : Row) (rows : List Row) → AllByRecursion (λ r. value_cmp (rowid r) (rowid new) ≡ Less) rows
    → put_row new rows ≡ rows ++ new ∷ []
put_last new [] all = refl
put_last new (r ∷ rows) all =
    ap (λ o. match_ordering o (r ∷ put_row new rows) (new ∷ rows) (new ∷ r ∷ rows)) all.0 ∙ ap (λ more. r ∷ more) (put_last new rows all.1)

-- a row with the rowid that is chosen for it is the last
pub put_row-next : (new : Row) (rows : List Row) → AreRows rows → rowid new ≡ Int (next_rowid rows) → put_row new rows ≡ rows ++ new ∷ []
put_row-next new [] are id = refl
put_row-next new (x ∷ rows) are id =
    put_last new (x ∷ rows) (all_from _ (x ∷ rows) (λ r h.
    let low = all_has _ (x ∷ rows) r (below_next x rows are.0 are.1) h in
    let own : rowid r ≡ Int (id_in (rowid r)) = int_is (rowid r) (all_has _ (x ∷ rows) r are.1 h) in
    subst (λ v. value_cmp (rowid r) v ≡ Less) (sym id) (subst (λ v. value_cmp v (Int (next_rowid (x ∷ rows))) ≡ Less) (sym own)
    (below_is (id_in (rowid r)) (next_rowid (x ∷ rows)) low))))
