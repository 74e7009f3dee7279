-- Work that may ask about files, in two worlds. What it asks, and how it ends, depends on its meter alone, and what it asks joins the log
-- after what is there. If the other world gives the same answers, the other work is the same.
use Rattle.std.proofs.Common.{◌≡◌, ◌≤◌, ◌∙◌, ◌++◌, ℕ, Bool, true, false, List, [], ◌∷◌, Option, Some, None, option_map, Result, Ok, Err}
use Rattle.std.proofs.Common.{if◌then◌else◌, refl, sym, ap, subst, arith, append-nil, append_assoc}
use Rattle.mk_base.specs.Meter.{Meter}
use Rattle.mk_base.specs.Outcome.{Work, give, fail, after, each, tell, left, ◌>>=◌}
use Rattle.mk_paths.specs.World.{FileMap}
use Rattle.std.specs.FinMap.{get, contains_key}
use Rattle.mk_paths.specs.FilesView.{Reply, Presence, Contents, Question, IsReply}
use Rattle.mk_files.specs.Questions.{Account, beside, quietly, logged_answer, look_read, ask_has, ask_read}
use Rattle.mk_eval.specs.Agreement.{Agrees, Agrees-first, Agrees-rest}
use Rattle.mk_eval.proofs.Steady.{Steady, steady-give, steady-fail, steady-question, steady-bind, steady-tell, told_left, first_within}
use Rattle.mk_eval.proofs.Steady.{under, lowered}

-- a log, if there is one, with these questions after it
abbrev pub with_questions : Option (List Question) → List Question → Option (List Question)
with_questions log questions = option_map (λ log. log ++ questions) log

pub with-nothing : (log : Option (List Question)) → with_questions log [] ≡ log
with-nothing None = refl
with-nothing (Some log) = ap Some (append-nil log)

pub with-both : (log : Option (List Question)) (first second : List Question) → with_questions (with_questions log first) second ≡
    with_questions log (first ++ second)
with-both None first second = refl
with-both (Some log) first second = ap Some (append_assoc log first second)

-- work among some files, and the same work among other files
pub record Shared {A F : Type 0} (other : FileMap) (work again : Work Account F A) : Type 0 where
  pub asks : Meter → List Question
  pub ends : Work Meter F A
  pub is : (m : Meter) (log : Option (List Question)) → work (record { meter = m; log = log }) ≡ beside
      (with_questions log (asks m)) (ends m)
  pub steady : Steady ends
  pub same : (m : Meter) (limit : ℕ) → limit ≤ m.limit → (left (ends m)).spent ≤ limit → asks (under limit m) ≡ asks m
  pub shared : (m : Meter) (log : Option (List Question)) → Agrees other (asks m) → again (record { meter = m; log = log }) ≡ work
      (record { meter = m; log = log })

-- work over the meter alone asks nothing
pub shared-quietly : {A F : Type 0} (other : FileMap) {work : Work Meter F A} → Steady work → Shared other (quietly work) (quietly work)
shared-quietly other {work = work} steady = record {
  asks = λ m. [];
  ends = work;
  is = λ m log. ap (λ log. beside log (work m)) (sym (with-nothing log));
  steady = steady;
  same = λ m limit low inside. refl;
  shared = λ m log agrees. refl;
}

pub shared-give : {A F : Type 0} (other : FileMap) (x : A) → Shared {A = A} {F = F} other (give x) (give x)
shared-give other x = record {
  asks = λ m. [];
  ends = give x;
  is = λ m log. ap (λ log. Ok (x, record { meter = m; log = log })) (sym (with-nothing log));
  steady = steady-give x;
  same = λ m limit low inside. refl;
  shared = λ m log agrees. refl;
}

pub shared-fail : {A F : Type 0} (other : FileMap) (fault : F) → Shared {A = A} {F = F} other (fail fault) (fail fault)
shared-fail other fault = record {
  asks = λ m. [];
  ends = fail fault;
  is = λ m log. ap (λ log. Err (fault, record { meter = m; log = log })) (sym (with-nothing log));
  steady = steady-fail fault;
  same = λ m limit low inside. refl;
  shared = λ m log agrees. refl;
}

-- one question that is answered, the same way among the other files where these give that answer
pub shared-answered : {A F : Type 0} (other : FileMap) (reply : A → Reply) (name : List ℕ) (answer again : A)
    → (IsReply other name (reply answer) → answer ≡ again)
    → Shared {A = A} {F = F} other (logged_answer reply name answer) (logged_answer reply name again)
shared-answered other reply name answer again alike = record {
  asks = λ m. (name, reply answer) ∷ [];
  ends = give answer;
  is = λ m log. refl;
  steady = steady-give answer;
  same = λ m limit low inside. refl;
  shared = λ m log agrees. ap (λ found. logged_answer reply name found (record { meter = m; log = log })) (sym (alike agrees.0));
}

module _ {A B F : Type 0} (other : FileMap) (work again : Work Account F A) (next onward : A → Work Account F B)
    (first : Shared other work again) (second : (x : A) → Shared other (next x) (onward x)) where
  -- what is asked after the end of the first work
  abbrev behind : Result (A × Meter) (F × Meter) → List Question
  behind (Ok end) = (second end.0).asks end.1
  behind (Err end) = []

  abbrev ends_on : A → Work Meter F B
  ends_on x = (second x).ends

  goes_on : (log : Option (List Question)) (questions : List Question) (r : Result (A × Meter) (F × Meter))
      → after (beside (with_questions log questions) r) next ≡ beside (with_questions log (questions ++ behind r)) (after r ends_on)
  goes_on log questions (Ok end) =
      (second end.0).is end.1 (with_questions log questions)
      ∙ ap (λ log. beside log ((second end.0).ends end.1)) (with-both log questions ((second end.0).asks end.1))
  goes_on log questions (Err end) = ap (λ questions. Err (end.0, record { meter = end.1; log = with_questions log questions }))
      (sym (append-nil questions))

  asks_same : (m : Meter) (limit : ℕ) (r : Result (A × Meter) (F × Meter)) → first.ends m ≡ r → limit ≤ m.limit
      → (left (after r ends_on)).spent ≤ limit → behind (lowered limit r) ≡ behind r
  asks_same m limit (Ok end) is low inside =
      let stays : end.1.limit ≡ m.limit = ap (λ (r : Result (A × Meter) (F × Meter)). (left r).limit) (sym is) ∙ first.steady.stays m in
      (second end.0).same end.1 limit (omega (arith, stays, low)) inside
  asks_same m limit (Err end) is low inside = refl

  both_same : (m : Meter) (limit : ℕ) → limit ≤ m.limit → (left (after (first.ends m) ends_on)).spent ≤ limit
      → first.asks (under limit m) ++ behind (first.ends (under limit m)) ≡ first.asks m ++ behind (first.ends m)
  both_same m limit low inside =
      let reached = first_within first.ends ends_on first.steady (λ x. (second x).steady) m limit (first.ends m) refl inside in
      ap (λ questions. questions ++ behind (first.ends (under limit m))) (first.same m limit low reached)
      ∙ ap (λ questions. first.asks m ++ questions) (ap behind (first.steady.lower m limit low reached)
      ∙ asks_same m limit (first.ends m) refl low inside)

  follows : (log : Option (List Question)) (r : Result (A × Meter) (F × Meter)) → Agrees other (behind r)
      → after (beside log r) onward ≡ after (beside log r) next
  follows log (Ok end) agrees = (second end.0).shared end.1 log agrees
  follows log (Err end) agrees = refl

  both_shared : (m : Meter) (log : Option (List Question)) → Agrees other (first.asks m ++ behind (first.ends m))
      → (again >>= onward) (record { meter = m; log = log }) ≡ (work >>= next) (record { meter = m; log = log })
  both_shared m log agrees =
      let here = with_questions log (first.asks m) in
      ap (λ r. after r onward) (first.shared m log (Agrees-first other (first.asks m) (behind (first.ends m)) agrees) ∙ first.is m log)
      ∙ follows here (first.ends m) (Agrees-rest other (first.asks m) (behind (first.ends m)) agrees)
      ∙ ap (λ r. after r next) (sym (first.is m log))

  pub shared-bind : Shared other (work >>= next) (again >>= onward)
  shared-bind = record {
    asks = λ m. first.asks m ++ behind (first.ends m);
    ends = first.ends >>= ends_on;
    is = λ m log. ap (λ r. after r next) (first.is m log) ∙ goes_on log (first.asks m) (first.ends m);
    steady = steady-bind first.ends ends_on first.steady (λ x. (second x).steady);
    same = both_same;
    shared = both_shared;
  }

pub shared-if : {A F : Type 0} (other : FileMap) (test : Bool) (one more one' more' : Work Account F A) → Shared other one one'
    → Shared other more more'
    → Shared other (if test then one else more) (if test then one' else more')
shared-if other true one more one' more' first second = first
shared-if other false one more one' more' first second = second

pub shared-each : {S X F : Type 0} (other : FileMap) (iteration again : S → X → Work Account F S)
    → ((s : S) (x : X) → Shared other (iteration s x) (again s x)) → (s : S) (xs : List X)
    → Shared other (each iteration s xs) (each again s xs)
unfolding each
shared-each other iteration again shared s [] = shared-give other s
shared-each other iteration again shared s (x ∷ xs) =
    shared-bind other (iteration s x) (again s x) (λ next. each iteration next xs) (λ next. each again next xs) (shared s x)
    (λ next. shared-each other iteration again shared next xs)

told-beside : {A F G : Type 0} (f : F → G) (log : Option (List Question)) (r : Result (A × Meter) (F × Meter))
    → tell f (beside log r) ≡ beside log (tell f r)
told-beside f log (Ok end) = refl
told-beside f log (Err end) = refl

pub shared-tell : {A F G : Type 0} {other : FileMap} {work again : Work Account F A} (f : F → G) → Shared other work again
    → Shared other (λ a. tell f (work a)) (λ a. tell f (again a))
shared-tell {other = other} {work = work} {again = again} f shared = record {
  asks = shared.asks;
  ends = λ m. tell f (shared.ends m);
  is = λ m log. ap (tell f) (shared.is m log) ∙ told-beside f (with_questions log (shared.asks m)) (shared.ends m);
  steady = steady-tell f shared.ends shared.steady;
  same = λ m limit low inside. shared.same m limit low
      (subst (λ (end : Meter). end.spent ≤ limit) (told_left f shared.ends shared.steady (shared.ends m)) inside);
  shared = λ m log agrees. ap (tell f) (shared.shared m log agrees);
}

-- one work and another, one of two works, work on each item: the works are read off what is to be shown
pub bind : {A B F : Type 0} {other : FileMap} {work again : Work Account F A} {next onward : A → Work Account F B} → Shared other work again
    → ((x : A) → Shared other (next x) (onward x)) → Shared other (work >>= next) (again >>= onward)
bind {other = other} {work = work} {again = again} {next = next} {onward = onward} first second = shared-bind other work again
    next onward first second

pub either : {A F : Type 0} {other : FileMap} {one more one' more' : Work Account F A} (test : Bool) → Shared other one one'
    → Shared other more more' → Shared other (if test then one else more) (if test then one' else more')
either {other = other} {one = one} {more = more} {one' = one'} {more' = more'} test first second = shared-if other test one
    more one' more' first second

pub over : {S X F : Type 0} {other : FileMap} {iteration again : S → X → Work Account F S}
    → ((s : S) (x : X) → Shared other (iteration s x) (again s x)) → (s : S) (xs : List X)
    → Shared other (each iteration s xs) (each again s xs)
over {other = other} {iteration = iteration} {again = again} shared s xs = shared-each other iteration again shared s xs

module _ (files other : FileMap) where
  pub shared-ask_has : (name : List ℕ) → Shared other (ask_has files name) (ask_has other name)
  shared-ask_has name = bind (shared-quietly other steady-question) (λ _. shared-answered other Presence name (contains_key files name)
      (contains_key other name) (λ is. is))

  pub shared-ask_read : (name : List ℕ) → Shared other (ask_read files name) (ask_read other name)
  shared-ask_read name = bind (shared-quietly other steady-question) (λ _. shared-answered other Contents name (get files name)
      (get other name) (λ is. is))

  pub shared-look_read : {F : Type 0} (name : List ℕ) → Shared {F = F} other (look_read files name) (look_read other name)
  shared-look_read name = shared-answered other Contents name (get files name) (get other name) (λ is. is)
