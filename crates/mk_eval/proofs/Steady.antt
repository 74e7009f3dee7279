-- Work whose outcome is the same under a lower limit that it doesn't reach.
use Rattle.std.proofs.Common.{◌≡◌, ◌≤◌, ◌+◌, ◌∙◌, ℕ, nat_lt, Bool, true, false, List, [], ◌∷◌, Result, Ok, Err, if◌then◌else◌, refl, sym}
use Rattle.std.proofs.Common.{ap, subst, arith}
use Rattle.std.proofs.lemmas.Bool.Decides.{nat_tests}
use Rattle.mk_base.specs.declared.faults.FaultKind.{FaultKind}
use Rattle.mk_base.specs.declared.faults.FaultKind.TheVariants as kinds
use Rattle.mk_base.specs.declared.budget.TheConstants.{QUESTIONS}
use Rattle.mk_base.specs.Meter.{Meter, pay, question}
use Rattle.mk_base.specs.Outcome.{Work, give, fail, after, each, tell, left, ◌>>=◌}

-- the meter with a limit
abbrev pub under : ℕ → Meter → Meter
under limit m = record m { limit = limit }

-- an outcome with this limit
abbrev pub lowered : {A F : Type 0} → ℕ → Result (A × Meter) (F × Meter) → Result (A × Meter) (F × Meter)
lowered limit (Ok end) = Ok (end.0, under limit end.1)
lowered limit (Err end) = Err (end.0, under limit end.1)

pub record Steady {A F : Type 0} (work : Work Meter F A) : Type 0 where
  pub stays : (m : Meter) → (left (work m)).limit ≡ m.limit
  pub onward : (m : Meter) → m.spent ≤ (left (work m)).spent
  pub within : (m : Meter) → m.spent ≤ m.limit → (left (work m)).spent ≤ m.limit
  pub lower : (m : Meter) (limit : ℕ) → limit ≤ m.limit → (left (work m)).spent ≤ limit → work (under limit m) ≡ lowered limit (work m)

pub steady-give : {A F : Type 0} (x : A) → Steady {A = A} {F = F} (give x)
steady-give x = record { stays = λ m. refl; onward = λ m. omega arith; within = λ m inside. inside; lower = λ m limit low inside. refl }

pub steady-fail : {A F : Type 0} (fault : F) → Steady {A = A} {F = F} (fail fault)
steady-fail fault = record { stays = λ m. refl; onward = λ m. omega arith; within = λ m inside. inside; lower = λ m limit low inside. refl }

module _ {A B F : Type 0} (work : Work Meter F A) (next : A → Work Meter F B) (first : Steady work)
    (second : (x : A) → Steady (next x)) where
  stays_by : (m : Meter) (r : Result (A × Meter) (F × Meter)) → work m ≡ r → (left (after r next)).limit ≡ m.limit
  stays_by m (Ok end) is = (second end.0).stays end.1 ∙ ap (λ (r : Result (A × Meter) (F × Meter)). (left r).limit) (sym is) ∙ first.stays m
  stays_by m (Err end) is = ap (λ (r : Result (A × Meter) (F × Meter)). (left r).limit) (sym is) ∙ first.stays m

  onward_by : (m : Meter) (r : Result (A × Meter) (F × Meter)) → work m ≡ r → m.spent ≤ (left (after r next)).spent
  onward_by m (Ok end) is =
      let before : m.spent ≤ end.1.spent = subst (λ (r : Result (A × Meter) (F × Meter)). m.spent ≤ (left r).spent) is (first.onward m) in
      omega (arith, before, (second end.0).onward end.1)
  onward_by m (Err end) is = subst (λ (r : Result (A × Meter) (F × Meter)). m.spent ≤ (left r).spent) is (first.onward m)

  within_by : (m : Meter) (r : Result (A × Meter) (F × Meter)) → work m ≡ r → m.spent ≤ m.limit → (left (after r next)).spent ≤ m.limit
  within_by m (Ok end) is inside =
      let stays : end.1.limit ≡ m.limit = ap (λ (r : Result (A × Meter) (F × Meter)). (left r).limit) (sym is) ∙ first.stays m in
      let before : end.1.spent ≤ m.limit = subst (λ (r : Result (A × Meter) (F × Meter)). (left r).spent ≤ m.limit) is
      (first.within m inside) in
      let there : end.1.spent ≤ end.1.limit = omega (arith, before, stays) in
      let after' : (left (next end.0 end.1)).spent ≤ end.1.limit = (second end.0).within end.1 there in
      omega (arith, after', stays)
  within_by m (Err end) is inside = subst (λ (r : Result (A × Meter) (F × Meter)). (left r).spent ≤ m.limit) is (first.within m inside)

  pub lower_by : (m : Meter) (limit : ℕ) (r : Result (A × Meter) (F × Meter)) → work m ≡ r → limit ≤ m.limit
      → (left (after r next)).spent ≤ limit
      → after (work (under limit m)) next ≡ lowered limit (after r next)
  lower_by m limit (Ok end) is low inside =
      let stays : end.1.limit ≡ m.limit = ap (λ (r : Result (A × Meter) (F × Meter)). (left r).limit) (sym is) ∙ first.stays m in
      let reached : (left (work m)).spent ≤ limit = subst (λ (r : Result (A × Meter) (F × Meter)). (left r).spent ≤ limit) (sym is)
      (omega (arith, (second end.0).onward end.1, inside)) in
      ap (λ r. after r next) (first.lower m limit low reached ∙ ap (lowered limit) is)
      ∙ (second end.0).lower end.1 limit (omega (arith, stays, low)) inside
  lower_by m limit (Err end) is low inside =
      let reached : (left (work m)).spent ≤ limit = subst (λ (r : Result (A × Meter) (F × Meter)). (left r).spent ≤ limit) (sym is) inside
      in
      ap (λ r. after r next) (first.lower m limit low reached ∙ ap (lowered limit) is)

  -- what is spent by the first work alone isn't more than by both
  pub first_within : (m : Meter) (limit : ℕ) (r : Result (A × Meter) (F × Meter)) → work m ≡ r → (left (after r next)).spent ≤ limit
      → (left (work m)).spent ≤ limit
  first_within m limit (Ok end) is inside = subst (λ (r : Result (A × Meter) (F × Meter)). (left r).spent ≤ limit) (sym is)
      (omega (arith, (second end.0).onward end.1, inside))
  first_within m limit (Err end) is inside = subst (λ (r : Result (A × Meter) (F × Meter)). (left r).spent ≤ limit) (sym is) inside

  pub steady-bind : Steady (work >>= next)
  steady-bind = record {
    stays = λ m. stays_by m (work m) refl;
    onward = λ m. onward_by m (work m) refl;
    within = λ m. within_by m (work m) refl;
    lower = λ m limit. lower_by m limit (work m) refl;
  }

pub steady-if : {A F : Type 0} (test : Bool) (one other : Work Meter F A) → Steady one → Steady other → Steady (if test then one else other)
steady-if true one other first second = first
steady-if false one other first second = second

-- the same where the meter is handed in before the choice
pub steady-choice : {A F : Type 0} (test : Bool) (one other : Work Meter F A) → Steady one → Steady other
    → Steady (λ m. if test then one m else other m)
steady-choice true one other first second = first
steady-choice false one other first second = second

pub steady-each : {S X F : Type 0} (iteration : S → X → Work Meter F S) → ((s : S) (x : X) → Steady (iteration s x)) → (s : S) (xs : List X)
    → Steady (each iteration s xs)
unfolding each
steady-each iteration steady s [] = steady-give s
steady-each iteration steady s (x ∷ xs) = steady-bind (iteration s x) (λ next. each iteration next xs) (steady s x)
    (λ next. steady-each iteration steady next xs)

module _ {A F G : Type 0} (f : F → G) (work : Work Meter F A) (steady : Steady work) where
  pub told_left : (r : Result (A × Meter) (F × Meter)) → left (tell f r) ≡ left r
  told_left (Ok end) = refl
  told_left (Err end) = refl

  told_lowered : (limit : ℕ) (r : Result (A × Meter) (F × Meter)) → tell f (lowered limit r) ≡ lowered limit (tell f r)
  told_lowered limit (Ok end) = refl
  told_lowered limit (Err end) = refl

  pub steady-tell : Steady (λ m. tell f (work m))
  steady-tell = record {
    stays = λ m. ap (λ (end : Meter). end.limit) (told_left (work m)) ∙ steady.stays m;
    onward = λ m. subst (λ (end : Meter). m.spent ≤ end.spent) (sym (told_left (work m))) (steady.onward m);
    within = λ m inside. subst (λ (end : Meter). end.spent ≤ m.limit) (sym (told_left (work m))) (steady.within m inside);
    lower = λ m limit low inside. ap (tell f)
        (steady.lower m limit low (subst (λ (end : Meter). end.spent ≤ limit) (told_left (work m)) inside)) ∙ told_lowered limit (work m);
  }

-- what paying does, by whether a unit is left
abbrev paid : Bool → Work Meter FaultKind (Unit {0})
paid room m = if room then Ok (tt, record m { spent = m.spent + 1 }) else Err (kinds.Budget, m)

pay-stays : (m : Meter) (room : Bool) → (left (paid room m)).limit ≡ m.limit
pay-stays m true = refl
pay-stays m false = refl

pay-onward : (m : Meter) (room : Bool) → m.spent ≤ (left (paid room m)).spent
pay-onward m true = omega arith
pay-onward m false = omega arith

pay-within : (m : Meter) (room : Bool) → nat_lt m.spent m.limit ≡ room → m.spent ≤ m.limit → (left (paid room m)).spent ≤ m.limit
pay-within m true is inside = grind (arith, nat_tests)
pay-within m false is inside = inside

still_paid : (spent old limit : ℕ) (room : Bool) → nat_lt spent old ≡ room → limit ≤ old → (room ≡ true → spent + 1 ≤ limit)
    → nat_lt spent limit ≡ room
still_paid spent old limit true is low inside = let there = inside refl in grind (arith, nat_tests)
still_paid spent old limit false is low inside = grind (arith, nat_tests)

pay-room : (m : Meter) (limit : ℕ) (room : Bool) → (left (paid room m)).spent ≤ limit → room ≡ true → m.spent + 1 ≤ limit
pay-room m limit true inside is = inside
pay-room m limit false inside is = cc

paid-lowered : (m : Meter) (limit : ℕ) (room : Bool) → paid room (under limit m) ≡ lowered limit (paid room m)
paid-lowered m limit true = refl
paid-lowered m limit false = refl

pub steady-pay : Steady pay
steady-pay = record {
  stays = λ m. pay-stays m (nat_lt m.spent m.limit);
  onward = λ m. pay-onward m (nat_lt m.spent m.limit);
  within = λ m. pay-within m (nat_lt m.spent m.limit) refl;
  lower = λ m limit low inside.
      ap (λ room. paid room (under limit m)) (still_paid m.spent m.limit limit (nat_lt m.spent m.limit) refl low
      (pay-room m limit (nat_lt m.spent m.limit) inside))
      ∙ paid-lowered m limit (nat_lt m.spent m.limit);
}

-- what a question does, by whether one more may be asked
abbrev put_question : Bool → Work Meter FaultKind (Unit {0})
put_question more m = if more then Ok (tt, record m { questions = m.questions + 1 }) else Err (kinds.Questions, m)

question-stays : (m : Meter) (more : Bool) → (left (put_question more m)).limit ≡ m.limit
question-stays m true = refl
question-stays m false = refl

question-spends : (m : Meter) (more : Bool) → (left (put_question more m)).spent ≡ m.spent
question-spends m true = refl
question-spends m false = refl

question-lowered : (m : Meter) (limit : ℕ) (more : Bool) → put_question more (under limit m) ≡ lowered limit (put_question more m)
question-lowered m limit true = refl
question-lowered m limit false = refl

pub steady-question : Steady question
steady-question = record {
  stays = λ m. question-stays m (nat_lt m.questions QUESTIONS);
  onward = λ m. let same = question-spends m (nat_lt m.questions QUESTIONS) in omega (arith, same);
  within = λ m inside. let same = question-spends m (nat_lt m.questions QUESTIONS) in omega (arith, same, inside);
  lower = λ m limit low inside. question-lowered m limit (nat_lt m.questions QUESTIONS);
}

-- one work and another, one of two works: the works are read off what is to be shown
pub bind : {A B F : Type 0} {work : Work Meter F A} {next : A → Work Meter F B} → Steady work → ((x : A) → Steady (next x))
    → Steady (work >>= next)
bind {work = work} {next = next} first second = steady-bind work next first second

pub either : {A F : Type 0} {one other : Work Meter F A} (test : Bool) → Steady one → Steady other → Steady (if test then one else other)
either {one = one} {other = other} test first second = steady-if test one other first second

pub over : {S X F : Type 0} {iteration : S → X → Work Meter F S} → ((s : S) (x : X) → Steady (iteration s x)) → (s : S) (xs : List X)
    → Steady (each iteration s xs)
over {iteration = iteration} steady s xs = steady-each iteration steady s xs
