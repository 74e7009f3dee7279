-- The tenants' worlds, after one of them has changed.
use Rattle.std.proofs.Common.{◌≡◌, ◌≢◌, ◌<◌, ◌≤◌, ◌∙◌, ℕ, List, [], ◌∷◌, ◌++◌, length, get_or, true, false, inl, inr, Option, None, Some}
use Rattle.std.proofs.Common.{Result, Ok, Err, IfOk, OnErr, refl, sym, ap, ap₂, subst, arith, nat_lt, zero, suc}
use Rattle.std.specs.Prelude.{slice_get, slice_set, option_map, unwrap_or, MatchBool, IfSome, IfNone, ◌==◌}
use Rattle.std.proofs.lemmas.Bool.{cases_Bool}
use Rattle.std.proofs.lemmas.Bool.Decides.{nat_tests}
use Rattle.std.proofs.lemmas.Option.{slice_get-map, slice_get-get_or}
use Rattle.mk_paths.specs.World.{World, opening_world}
use Rattle.mk_paths.specs.declared.search_path.Settings.{Settings}
use Rattle.ports_http.specs.Messages.{RequestMessage, ReplyMessage}
use Rattle.plain_service.specs.declared.change.Change.{Change}
use Rattle.plain_service.specs.Change.{settle_change}
use Rattle.plain_service.specs.Requests.{PlainRequest}
use Rattle.plain_service.specs.Plain.{Served, plain}
use Rattle.ports_core.specs.Answers.{AnswersRequest, AnswersFor, plain_request_of, plain_answer}
use Rattle.ports_core.specs.Charges.{SpendsOnRequest, MayHaveHad, Charges, ChargesFor, LeavesUnanswered}
use Rattle.ports_core.specs.Jobs.{TenantJob, had_by, one_turn_more, spent_on}
use Rattle.ports_core.specs.declared.tenants.Answer.{Answer}
use Rattle.ports_core.specs.Tell.{is_failure}
use Rattle.turn_amounts.specs.Spent.{no_spending, spent_together}
use Rattle.turn_amounts.specs.declared.spent.Spent.{Spent}
use Rattle.stored_tenants.specs.declared.tenant.Tenant.{Tenant}
use Rattle.stored_tenants.specs.Kept.{world_of, worlds_of, world_at, HaveOpeningWorlds}
use Rattle.stored_tenants.specs.Turn.{AnswersOver, ChargesOver}
use Rattle.stored_tenants.proofs.KeptLemmas.{get-set_same, some_same}

pub if_ok : {A E : Type 0} {P Q : A → Type 0} (r : Result A E) → ((a : A) → P a → Q a) → IfOk r P → IfOk r Q
if_ok (Ok a) f p = f a p
if_ok (Err e) f p = tt

pub if_err : {A E P Q : Type 0} (r : Result A E) → (P → Q) → OnErr r P → OnErr r Q
if_err (Ok a) f p = tt
if_err (Err e) f p = f p

pub if_none : {A P Q : Type 0} (o : Option A) → (P → Q) → IfNone o P → IfNone o Q
if_none None f p = f p
if_none (Some a) f p = tt

pub within_is : (u count : ℕ) → nat_lt u count ≡ true → u < count
within_is u count is = grind (arith, nat_tests)

pub past_is : (u count : ℕ) → nat_lt u count ≡ false → count ≤ u
past_is u count is = grind (arith, nat_tests)

-- ---- the worlds of all tenants

abbrev world_in_place : Option Tenant → World
world_in_place tenant = unwrap_or (option_map world_of tenant) opening_world

world_at-is : (tenants : List Tenant) (t : ℕ) → world_at t tenants ≡ world_in_place (slice_get tenants t)
world_at-is tenants t = ap (λ (world : Option World). unwrap_or world opening_world) (slice_get-map world_of tenants t)

-- the world of a tenant that was put at a place
pub world_set : (tenants : List Tenant) (t : ℕ) (tenant : Tenant) → t < length tenants
    → world_at t (slice_set tenants t tenant) ≡ world_of tenant
world_set tenants t tenant within = world_at-is (slice_set tenants t tenant) t ∙ ap world_in_place (get-set_same tenants t tenant within)

-- the world of a tenant that is there
pub world_there : (tenants : List Tenant) (t : ℕ) (any : Tenant) → t < length tenants → world_at t tenants ≡ world_of (get_or tenants t any)
world_there tenants t any within = world_at-is tenants t ∙ ap world_in_place (slice_get-get_or tenants t any within)

is_there : (worlds : List World) (t : ℕ) → t < length worlds → slice_get worlds t ≡ Some (unwrap_or (slice_get worlds t) opening_world)
is_there [] t within = absurd omega (arith, within)
is_there (first ∷ worlds) zero within = refl
is_there (first ∷ worlds) (suc t) within = is_there worlds t (omega (arith, within))

length-worlds : (tenants : List Tenant) → length (worlds_of tenants) ≡ length tenants
length-worlds [] = refl
length-worlds (first ∷ tenants) = ap suc (length-worlds tenants)

-- a place of the worlds is one of the tenants
pub place_is : (tenants : List Tenant) (t : ℕ) → t < length (worlds_of tenants) → t < length tenants
place_is tenants t within = subst (λ n. t < n) (length-worlds tenants) within

-- the world at a place is one of the worlds
pub world_listed : (tenants : List Tenant) (t : ℕ) → t < length tenants → slice_get (worlds_of tenants) t ≡ Some (world_at t tenants)
world_listed tenants t within = is_there (worlds_of tenants) t (subst (λ n. t < n) (sym (length-worlds tenants)) within)

-- a tenant that is the same has the same world
world_same : (old new : List Tenant) (u : ℕ) → slice_get new u ≡ slice_get old u → slice_get (worlds_of new) u ≡ slice_get (worlds_of old) u
world_same old new u same = slice_get-map world_of new u ∙ ap (option_map world_of) same ∙ sym (slice_get-map world_of old u)

-- lists with the same items at all places are the same
same_items : {A : Type 0} (xs ys : List A) → ((t : ℕ) → slice_get xs t ≡ slice_get ys t) → xs ≡ ys
same_items [] [] same = refl
same_items [] (y ∷ ys) same = absurd (let e = same 0 in cc)
same_items (x ∷ xs) [] same = absurd (let e = same 0 in cc)
same_items {A} (x ∷ xs) (y ∷ ys) same = ap₂ (λ (z : A) (zs : List A). z ∷ zs) (some_same (same 0)) (same_items xs ys (λ t. same (suc t)))

-- no world changes, if one tenant changes and its world doesn't
pub worlds_kept : (tenants : List Tenant) (t : ℕ) (any tenant : Tenant) → t < length tenants
    → world_of tenant ≡ world_of (get_or tenants t any) → worlds_of (slice_set tenants t tenant) ≡ worlds_of tenants
worlds_kept [] t any tenant within same = absurd omega (arith, within)
worlds_kept (first ∷ tenants) zero any tenant within same = ap (λ (world : World). world ∷ worlds_of tenants) same
worlds_kept (first ∷ tenants) (suc t) any tenant within same = ap (λ (worlds : List World). world_of first ∷ worlds)
    (worlds_kept tenants t any tenant (omega (arith, within)) same)

head_same : {A : Type 0} {x y : A} {xs ys : List A} → x ∷ xs ≡ y ∷ ys → x ≡ y
head_same e = cc

tail_same : {A : Type 0} {x y : A} {xs ys : List A} → x ∷ xs ≡ y ∷ ys → xs ≡ ys
tail_same e = cc

-- one tenant more with the world with which each begins
pub opening_added : (tenants : List Tenant) (tenant : Tenant) → HaveOpeningWorlds tenants → world_of tenant ≡ opening_world
    → HaveOpeningWorlds (tenants ++ tenant ∷ [])
opening_added [] tenant all opening = ap (λ (world : World). world ∷ []) opening
opening_added (first ∷ tenants) tenant all opening =
    ap₂ (λ (world : World) (worlds : List World). world ∷ worlds) (head_same all) (opening_added tenants tenant (tail_same all) opening)

-- ---- what a turn tells

module _ (old new : List Tenant) (t : ℕ) (within : t < length old) (count : length new ≡ length old) (others : (u : ℕ) → u ≢ t
    → slice_get new u ≡ slice_get old u) where
  abbrev was : slice_get (worlds_of old) t ≡ Some (world_at t old)
  was = world_listed old t within

  abbrev becomes : slice_get (worlds_of new) t ≡ Some (world_at t new)
  becomes = world_listed new t (omega (arith, within, count))

  pub answers_for : (request : RequestMessage) (reply : ReplyMessage) → AnswersRequest (world_at t old) request reply (world_at t new)
      → AnswersFor t request reply (worlds_of old) (worlds_of new)
  answers_for request reply answers = record {
    world = world_at t old;
    was = was;
    after = world_at t new;
    becomes = becomes;
    answers = answers;
    others = λ u ne. world_same old new u (others u ne);
  }

  -- an answer is one that the tenants may give
  pub work_answers : (request : RequestMessage) (reply : Option Answer) → AnswersOver (world_at t old) (world_at t new) request reply
      → IfSome reply (λ answer. AnswersFor t request answer.reply (worlds_of old) (worlds_of new))
  work_answers request None answers = tt
  work_answers request (Some answer) answers = answers_for request answer.reply (inl answers)

  -- the world of the tenant is the one that the list has
  this_world : (world : World) → slice_get (worlds_of old) t ≡ Some world → world_at t old ≡ world
  this_world world there = some_same (sym was ∙ there)

  charges : (request : RequestMessage) (reply : ReplyMessage) (before spent : Spent)
      → ((world : World) (request : PlainRequest) → ((plain world request).0.status == 503) ≡ false)
      → plain_answer (world_at t old) request ≡ (reply, world_at t new) → SpendsOnRequest (world_at t old) request
      (spent_together before spent) → Charges (world_at t old) request reply before spent
  charges request reply before spent never is spends =
      let fine : is_failure reply.status ≡ false = ap (λ (end : Served). is_failure end.0.status) (sym is)
      ∙ never (world_at t old) (plain_request_of request) in
      subst (λ failed. MatchBool failed (spent ≡ no_spending) (SpendsOnRequest (world_at t old) request (spent_together before spent)))
      (sym fine) spends

  -- what was spent with an answer is what is told
  pub work_charges : (request : RequestMessage) (reply : Option Answer) (job : Option TenantJob) (spent : Spent)
      → ((world : World) (request : PlainRequest) → ((plain world request).0.status == 503) ≡ false)
      → AnswersOver (world_at t old) (world_at t new) request reply → ChargesOver (world_at t old) request job reply spent
      → IfSome reply (λ answer. ChargesFor t request answer.reply (spent_on job) spent (worlds_of old))
  work_charges request None job spent never answers charged = tt
  work_charges request (Some answer) job spent never answers charged = λ world there.
      subst (λ (w : World). Charges w request answer.reply (spent_on job) spent) (this_world world there)
      (charges request answer.reply (spent_on job) spent never answers charged)

  same_worlds : world_at t new ≡ world_at t old → worlds_of new ≡ worlds_of old
  same_worlds same = same_items (worlds_of new) (worlds_of old) (λ u. elim (cases_Bool (u == t)) [
    | inl is ↦
        let here : u ≡ t = grind (arith, nat_tests) in
        subst (λ v. slice_get (worlds_of new) v ≡ slice_get (worlds_of old) v) (sym here) (becomes ∙ ap Some same ∙ sym was)
    | inr not ↦ world_same old new u (others u (λ e. absurd grind (arith, nat_tests)))
  ])

  -- without an answer no world changes, and the request has had no more than it may
  pub work_goes_on : (request : RequestMessage) (reply : Option Answer) (job : Option TenantJob) (spent : Spent)
      → IfNone reply (world_at t new ≡ world_at t old) → ChargesOver (world_at t old) request job reply spent
      → IfNone reply (LeavesUnanswered t request (had_by job) spent (worlds_of old) (worlds_of new))
  work_goes_on request None job spent silent charged = record {
    worlds = same_worlds silent;
    within = λ world there. subst (λ (w : World). MayHaveHad w request (one_turn_more (had_by job) spent)) (this_world world there) charged;
  }
  work_goes_on request (Some answer) job spent silent charged = tt
