-- The tenants, after one of them and its world have changed.
use Rattle.std.proofs.Common.{◌≡◌, ◌≢◌, ◌<◌, ◌∙◌, ℕ, zero, suc, false, cond, inl, inr, List, [], ◌∷◌, ◌++◌, length, take, drop, get_or}
use Rattle.std.proofs.Common.{Option, None, Some, Result, Ok, Err, OnOk, OnErr, refl, sym, ap, subst, arith, append-nil}
use Rattle.std.specs.Prelude.{slice_get, slice_set, ◌==◌, IfSome}
use Rattle.std.specs.FinMap as finite
use Rattle.std.specs.Cmp.Lexicographic.{slice_cmp, nat_list_cmp_total}
use Rattle.std.specs.Ordering.{nat_cmp, eq_by_cmp}
use Rattle.std.specs.Str.{bytes_eq}
use Rattle.std.proofs.Math.ListN.{drop_of_length-le}
use Rattle.std.proofs.Math.Seq.{take-length}
use Rattle.std.proofs.lemmas.Bool.{cases_Bool}
use Rattle.std.proofs.lemmas.Bool.Decides.{nat_tests}
use Rattle.std.proofs.lemmas.Map.Text.{is_eq-slice_cmp}
use Rattle.std.proofs.lemmas.Option.{slice_get-get_or}
use Rattle.general_facts.specs.Texts.{bytes_eq-sym}
use Rattle.mk_paths.specs.World.{World, files_in, with_file, without_file}
use Rattle.mk_paths.specs.declared.search_path.Settings.{Settings}
use Rattle.index_keep.specs.Right.{DifferAt}
use Rattle.index_keep.specs.Keeper.{IsKept, keeper_rows, begun_in, refresh_of}
use Rattle.index_keep.specs.Shown.{ShowsSame}
use Rattle.index_keep.specs.Turns.{RefreshView, refresh_at}
use Rattle.index_store.specs.PortTable.{stored_by}
use Rattle.index_store.specs.PortTable.{Entry}
use Rattle.index_keep.specs.declared.keeper.Keeper.{Keeper}
use Rattle.stored_tenants.specs.declared.tenant.Tenant.{Tenant}
use Rattle.stored_tenants.specs.declared.tenant.TenantJob.{TenantJob}
use Rattle.stored_tenants.specs.Kept.{IsJobOver, IsRightTenant, AreRightTenants, world_of}

pub get-set_same : {A : Type 0} (items : List A) (t : ℕ) (item : A) → t < length items → slice_get (slice_set items t item) t ≡ Some item
get-set_same [] t item within = absurd omega (arith, within)
get-set_same (first ∷ items) zero item within = refl
get-set_same (first ∷ items) (suc t) item within = get-set_same items t item (omega (arith, within))

pub get-set_other : {A : Type 0} (items : List A) (t u : ℕ) (item : A) → u ≢ t → slice_get (slice_set items t item) u ≡ slice_get items u
get-set_other [] t u item other = refl
get-set_other (first ∷ items) zero zero item other = absurd (other refl)
get-set_other (first ∷ items) zero (suc u) item other = refl
get-set_other (first ∷ items) (suc t) zero item other = refl
get-set_other (first ∷ items) (suc t) (suc u) item other = get-set_other items t u item (λ e. other (ap suc e))

-- a slice of all items was lent, and came back with as many
pub refill_same : {A : Type 0} (count : ℕ) (old new : List A) → length new ≡ length old → count ≡ length old
    → take count (new ++ drop (length new) old) ≡ new
refill_same count old new same is =
    ap (λ n. take n (new ++ drop (length new) old)) (is ∙ sym same)
    ∙ ap (λ rest. take (length new) (new ++ rest)) (drop_of_length-le old (omega (arith, same)))
    ∙ ap (take (length new)) (append-nil new) ∙ take-length new

pub some_same : {A : Type 0} {x y : A} → ◌≡◌ {A = Option A} (Some x) (Some y) → x ≡ y
some_same e = cc

-- one tenant changes and is right; so are the others
pub set_right : (tenants : List Tenant) (t : ℕ) (tenant : Tenant) → t < length tenants → AreRightTenants tenants → IsRightTenant tenant
    → AreRightTenants (slice_set tenants t tenant)
set_right tenants t tenant within others right u other there = elim (cases_Bool (u == t)) [
  | inl is ↦
      let same : u ≡ t = grind (arith, nat_tests) in
      let this : tenant ≡ other = some_same (sym (get-set_same tenants t tenant within)
      ∙ ap (slice_get (slice_set tenants t tenant)) (sym same) ∙ there) in
      subst IsRightTenant this right
  | inr not ↦
      let apart : u ≢ t = λ e. absurd grind (arith, nat_tests) in
      others u other (sym (get-set_other tenants t u tenant apart) ∙ there)
]

-- the tenant at a place is right
pub right_at : (tenants : List Tenant) (t : ℕ) (any : Tenant) → t < length tenants → AreRightTenants tenants
    → IsRightTenant (get_or tenants t any)
right_at tenants t any within kept = kept t (get_or tenants t any) (slice_get-get_or tenants t any within)

-- one tenant more that is right
pub added_right : (tenants : List Tenant) (tenant : Tenant) → AreRightTenants tenants → IsRightTenant tenant
    → AreRightTenants (tenants ++ tenant ∷ [])
added_right [] tenant kept right zero other there = subst IsRightTenant (some_same there) right
added_right [] tenant kept right (suc u) other there = absurd cc
added_right (first ∷ tenants) tenant kept right zero other there = kept 0 other there
added_right (first ∷ tenants) tenant kept right (suc u) other there = added_right tenants tenant
    (λ v k is. kept (suc v) k is) right u other there

-- over the same world, a keeper that shows the same, with as much begun, keeps the tenant right
pub limited
    : (tenant : Tenant) (world : World) (keeper : Keeper (List Entry)) → world ≡ world_of tenant
    → ShowsSame (keeper_rows stored_by tenant.keeper) (keeper_rows stored_by keeper)
    → begun_in keeper.progress ≡ begun_in tenant.keeper.progress
    → (IsKept stored_by (world_of tenant) tenant.keeper → IsKept stored_by (world_of tenant) keeper)
    → IsRightTenant tenant → IsRightTenant (record tenant { store = world; keeper = keeper })
limited tenant world keeper same_world rows begun kept is =
    let same : refresh_of stored_by keeper ≡ refresh_of stored_by tenant.keeper = λ i. refresh_at (λ path. rows path i) (begun i) in
    record {
      settings = is.settings ∙ ap (λ (w : World). w.1) (sym same_world);
      keeper = subst (λ (w : World). IsKept stored_by w keeper) (sym same_world) (kept is.keeper);
      pending = subst (λ (w : World). IfSome tenant.job (IsJobOver w (refresh_of stored_by keeper))) (sym same_world)
          (subst (λ (refresh : RefreshView). IfSome tenant.job (IsJobOver (world_of tenant) refresh)) (sym same) is.pending);
    }

apart_from : (name file : List ℕ) → bytes_eq name file ≡ false → eq_by_cmp (slice_cmp nat_cmp) file name ≡ false
apart_from name file other = is_eq-slice_cmp file name ∙ bytes_eq-sym file name ∙ other

-- an upload makes another world at the file's name alone
pub put_differs : (old new : World) (name content : List ℕ) → new ≡ with_file old name content → DifferAt name old new
put_differs old new name content is = subst (DifferAt name old) (sym is) (record {
  settings = refl;
  files = λ file other.
      finite.get-insert nat_list_cmp_total (files_in old) name content file
      ∙ ap (λ b. cond b (Some content) (finite.get (files_in old) file)) (apart_from name file other);
})

-- so does taking a file out
pub removed_differs : (old new : World) (name : List ℕ) → new ≡ without_file old name → DifferAt name old new
removed_differs old new name is = subst (DifferAt name old) (sym is) (record {
  settings = refl;
  files = λ file other.
      finite.get-remove nat_list_cmp_total (files_in old) name file
      ∙ ap (λ b. cond b None (finite.get (files_in old) file)) (apart_from name file other);
})

-- An upload succeeds or fails, after the keeper was told of it. So the keeper is right about the world that it
-- leaves.
pub kept_by_put
    : {A E : Type 0} (result : Result A E) (old new : World) (name content : List ℕ) (keeper : Keeper (List Entry))
    → OnOk result (new ≡ with_file old name content) → OnErr result (new ≡ old)
    → ((other : World) → DifferAt name old other → IsKept stored_by other keeper)
    → IsKept stored_by old keeper → IsKept stored_by new keeper
kept_by_put (Ok done) old new name content keeper is same told kept = told new (put_differs old new name content is)
kept_by_put (Err fault) old new name content keeper is same told kept = subst (λ (w : World). IsKept stored_by w keeper) (sym same) kept

-- a tenant without a job is right if its settings are its world's, and its keeper is right about this world
pub idle_right : (world : World) (settings : Settings) (keeper : Keeper (List Entry)) (job : Option TenantJob) → job ≡ None
    → settings ≡ world.1 → IsKept stored_by world keeper
    → IsRightTenant (record { store = world; settings = settings; keeper = keeper; job = job })
idle_right world settings keeper job none same kept = record {
  settings = same;
  keeper = kept;
  pending = subst (λ (j : Option TenantJob). IfSome j (IsJobOver world (refresh_of stored_by keeper))) (sym none) tt;
}

-- an upload leaves the settings
pub settings_of_put : {A E : Type 0} (result : Result A E) (old new : World) (name content : List ℕ)
    → OnOk result (new ≡ with_file old name content) → OnErr result (new ≡ old) → old.1 ≡ new.1
settings_of_put (Ok done) old new name content is same = sym (ap (λ (w : World). w.1) is)
settings_of_put (Err fault) old new name content is same = sym (ap (λ (w : World). w.1) same)
