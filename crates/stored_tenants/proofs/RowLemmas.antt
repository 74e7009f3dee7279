-- What is left of the rows of the tenants' indexes.
use Rattle.std.proofs.Common.{◌≡◌, ◌≢◌, ◌<◌, ◌∙◌, ℕ, if◌then◌else◌, List, Option, Some, length, get_or, is_some, option_and_then, inl, inr}
use Rattle.std.proofs.Common.{refl, sym, ap, subst, arith}
use Rattle.std.specs.Prelude.{slice_get, slice_set, ◌==◌}
use Rattle.std.proofs.lemmas.Bool.{cases_Bool}
use Rattle.std.proofs.lemmas.Bool.Decides.{nat_tests}
use Rattle.std.proofs.lemmas.Option.{slice_get-get_or}
use Rattle.mk_paths.specs.World.{World}
use Rattle.port_index.specs.Efforts.{has_makefile}
use Rattle.port_index.specs.PathOutcomes.{Absent}
use Rattle.index_store.specs.PortTable.{stored_by}
use Rattle.index_keep.specs.Keeper.{keeper_rows}
use Rattle.index_keep.specs.Shown.{ShownRow, ShownRows, ShowsSame, fresh_outcome}
use Rattle.index_keep.specs.Turns.{StayFresh}
use Rattle.stored_tenants.specs.declared.tenant.Tenant.{Tenant}
use Rattle.stored_tenants.specs.RowMarks.{KeepRows}
use Rattle.stored_tenants.proofs.KeptLemmas.{get-set_other, get-set_same, some_same}

-- rows that are shown the same
fresh-same : (world : World) (old new : ShownRows) → ShowsSame old new → StayFresh world old new
fresh-same world old new same path needed is =
    ap (λ (row : Option ShownRow). is_some (if has_makefile world path then option_and_then fresh_outcome row else Some Absent)) (same path)
    ∙ is

-- rows that were shown the same first
pub fresh-after : (world : World) (old middle new : ShownRows) → ShowsSame old middle → StayFresh world middle new → StayFresh world old new
fresh-after world old middle new same more path needed is = more path needed (fresh-same world old middle same path needed is)

-- no tenant changes
rows_stay : (tenants : List Tenant) → KeepRows tenants tenants
rows_stay tenants u before after was becomes =
    let is : before ≡ after = some_same (sym was ∙ becomes) in
    subst (λ (one : Tenant). ShowsSame (keeper_rows stored_by before.keeper) (keeper_rows stored_by one.keeper)) is (λ path. refl)

-- one tenant changes, and its rows are shown the same
pub rows_kept
    : (tenants : List Tenant) (t : ℕ) (any tenant : Tenant) → t < length tenants
    → ShowsSame (keeper_rows stored_by (get_or tenants t any).keeper) (keeper_rows stored_by tenant.keeper)
    → KeepRows tenants (slice_set tenants t tenant)
rows_kept tenants t any tenant within same u before after was becomes = elim (cases_Bool (u == t)) [
  | inl is ↦
      let here : u ≡ t = grind (arith, nat_tests) in
      let old : get_or tenants t any ≡ before = some_same (sym (slice_get-get_or tenants t any within)
      ∙ ap (slice_get tenants) (sym here) ∙ was) in
      let new : tenant ≡ after = some_same (sym (get-set_same tenants t tenant within) ∙ ap (slice_get (slice_set tenants t tenant))
      (sym here) ∙ becomes) in
      subst (λ (one : Tenant). ShowsSame (keeper_rows stored_by one.keeper) (keeper_rows stored_by after.keeper)) old
      (subst (λ (one : Tenant). ShowsSame (keeper_rows stored_by (get_or tenants t any).keeper) (keeper_rows stored_by one.keeper)) new
      same)
  | inr not ↦
      let apart : u ≢ t = λ e. absurd grind (arith, nat_tests) in
      rows_stay tenants u before after was (sym (get-set_other tenants t u tenant apart) ∙ becomes)
]
