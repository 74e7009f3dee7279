-- The jobs of tenants, after one of them has changed.
use Rattle.std.proofs.Common.{◌≡◌, ◌<◌, ◌≤◌, ◌∙◌, ℕ, zero, suc, List, [], ◌∷◌, ◌++◌, length, get_or, Option, None, sym, ap, ap₂, arith}
use Rattle.std.specs.Prelude.{slice_get, slice_set, option_map, unwrap_or}
use Rattle.std.proofs.lemmas.Option.{slice_get-map, slice_get-get_or, slice_get_past}
use Rattle.ports_core.specs.Jobs.{TenantJob}
use Rattle.stored_tenants.specs.declared.tenant.Tenant.{Tenant}
use Rattle.stored_tenants.specs.Kept.{job_of, jobs_of, job_at, HaveNoJob}
use Rattle.stored_tenants.proofs.KeptLemmas.{get-set_same}

job_at-is : (tenants : List Tenant) (t : ℕ) → job_at t tenants ≡ unwrap_or (option_map job_of (slice_get tenants t)) None
job_at-is tenants t = ap (λ (job : Option (Option TenantJob)). unwrap_or job None) (slice_get-map job_of tenants t)

abbrev job_in_place : Option Tenant → Option TenantJob
job_in_place tenant = unwrap_or (option_map job_of tenant) None

-- the job of a tenant that was put at a place
pub job_set : (tenants : List Tenant) (t : ℕ) (tenant : Tenant) → t < length tenants → job_at t (slice_set tenants t tenant) ≡ job_of tenant
job_set tenants t tenant within = job_at-is (slice_set tenants t tenant) t ∙ ap job_in_place (get-set_same tenants t tenant within)

-- the job of a tenant that is there
pub job_there : (tenants : List Tenant) (t : ℕ) (any : Tenant) → t < length tenants → job_at t tenants ≡ job_of (get_or tenants t any)
job_there tenants t any within = job_at-is tenants t ∙ ap job_in_place (slice_get-get_or tenants t any within)

-- a tenant that isn't there has no job
pub job_past : (tenants : List Tenant) (t : ℕ) → length tenants ≤ t → job_at t tenants ≡ None
job_past tenants t past = job_at-is tenants t ∙ ap job_in_place (slice_get_past tenants t past)

-- a tenant that is the same has the same job
pub job_same : (old new : List Tenant) (u : ℕ) → slice_get new u ≡ slice_get old u → job_at u new ≡ job_at u old
job_same old new u same = job_at-is new u ∙ ap job_in_place same ∙ sym (job_at-is old u)

-- no job changes, if one tenant changes and its job doesn't
pub jobs_kept : (tenants : List Tenant) (t : ℕ) (any tenant : Tenant) → t < length tenants → job_of tenant ≡ job_of (get_or tenants t any)
    → jobs_of (slice_set tenants t tenant) ≡ jobs_of tenants
jobs_kept [] t any tenant within same = absurd omega (arith, within)
jobs_kept (first ∷ tenants) zero any tenant within same = ap (λ (job : Option TenantJob). job ∷ jobs_of tenants) same
jobs_kept (first ∷ tenants) (suc t) any tenant within same = ap (λ (jobs : List (Option TenantJob)). job_of first ∷ jobs)
    (jobs_kept tenants t any tenant (omega (arith, within)) same)

head_same : {A : Type 0} {x y : A} {xs ys : List A} → x ∷ xs ≡ y ∷ ys → x ≡ y
head_same e = cc

tail_same : {A : Type 0} {x y : A} {xs ys : List A} → x ∷ xs ≡ y ∷ ys → xs ≡ ys
tail_same e = cc

-- one tenant more without a job
pub no_jobs : (tenants : List Tenant) (tenant : Tenant) → HaveNoJob tenants → job_of tenant ≡ None → HaveNoJob (tenants ++ tenant ∷ [])
no_jobs [] tenant none no_job = ap (λ (job : Option TenantJob). job ∷ []) no_job
no_jobs (first ∷ tenants) tenant none no_job =
    ap₂ (λ (job : Option TenantJob) (jobs : List (Option TenantJob)). job ∷ jobs) (head_same none)
    (no_jobs tenants tenant (tail_same none) no_job)
