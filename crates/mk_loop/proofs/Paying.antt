-- A word that is put in is paid for.
use Rattle.std.proofs.Common.{◌≡◌, ◌≢◌, ◌↔◌, ◌<◌, ◌≤◌, ℕ, zero, suc, ◌+◌, Bool, true, false, nat_lt, cond, List, [], ◌∷◌, ◌++◌, Option}
use Rattle.std.proofs.Common.{Some, None, IfOk, Result, Ok, Err, refl, sym, ap, arith}
use Rattle.std.proofs.lemmas.List.Elements.{All-pop}
use Rattle.mk_base.specs.declared.faults.FaultKind.{FaultKind}
use Rattle.mk_base.specs.declared.faults.FaultKind.TheVariants as kinds
use Rattle.mk_base.specs.declared.stops.PureStop.{PureStop}
use Rattle.mk_base.specs.Meter.{Meter, pay}
use Rattle.mk_loop.specs.declared.pass.Around.{Around}
use Rattle.mk_loop.specs.declared.pass.Pass.{Pass}
use Rattle.mk_loop.specs.Places.{IsKeptReference, IsPlaced, IsPaid, PaysFor}

-- the meter that work leaves
abbrev meter_left : Result (Unit {0} × Meter) (FaultKind × Meter) → Meter
meter_left (Ok done) = done.1
meter_left (Err fault) = fault.1

-- whoever paid spent one unit
pay-one : (m m' : Meter) (paid : Unit {0}) → pay m ≡ Ok (paid, m') → m'.spent ≡ m.spent + 1
pay-one m m' paid is = by-room (nat_lt m.spent m.limit) is
  where
    by-room : (room : Bool) → cond {A = Result (Unit {0} × Meter) (FaultKind × Meter)} room (Ok (tt, record m { spent = m.spent + 1 }))
        (Err (kinds.Budget, m)) ≡ Ok (paid, m') → m'.spent ≡ m.spent + 1
    by-room true is = ap (λ r. (meter_left r).spent) (sym is)
    by-room false is = absurd (let no : Err (kinds.Budget, m) ≡ Ok (paid, m') = is in cc)

-- something is copied now, and something was paid
paid-more : (from m m' : Meter) (copied next : ℕ) → IsPaid from copied m → m.spent < m'.spent → 0 < next → IsPaid from next m'
paid-more from m m' zero next is more some = (λ none. absurd (omega (arith, none, some)), λ _. omega (arith, is.0 refl, more))
paid-more from m m' (suc copied) next is more some =
    (λ none. absurd (omega (arith, none, some)), λ _. omega (arith, is.1 (λ e. cc e), more))

-- a step that pays a unit for what it copies
pub step-paid : (pass next : Pass) (m m' : Meter) (paid : Unit {0}) → pay m ≡ Ok (paid, m') → 0 < next.copied → PaysFor pass m next m'
step-paid pass next m m' paid pays some = λ from is. paid-more from m m' pass.copied next.copied is
    (omega (arith, pay-one m m' paid pays)) some

pub put-paid : (pass : Pass) (end : ℕ) (m m' : Meter) (paid : Unit {0}) (result : Result Pass (PureStop FaultKind))
    → pay m ≡ Ok (paid, m') → 0 < end
    → IfOk result (λ next. next.copied ≡ end) → IfOk result (λ next. PaysFor pass m next m')
put-paid pass end m m' paid (Ok next) pays some copied = step-paid pass next m m' paid pays (omega (arith, some, copied))
put-paid pass end m m' paid (Err stop) pays some copied = tt

-- a step that copies nothing and spends nothing
pub same-paid : (pass next : Pass) (m : Meter) → next.copied ≡ pass.copied → PaysFor pass m next m
same-paid pass next m copied = λ from is. rw copied is

-- with a replaced reference around the place, something is copied already
pub replaced-copied : (line : List ℕ) (pass : Pass) (outer : List Around) (around : Around) → IsPlaced line pass
    → pass.around.items ≡ outer ++ around ∷ [] → (IsKeptReference around → ⊥) → pass.copied ≢ 0
replaced-copied line pass outer around placed last replaced none =
    replaced (All-pop IsKeptReference pass.around.items outer (Some around) last (placed.kept none)).1

-- past the mark of a replaced reference, whatever its modifiers spent
pub changed-paid : (pass next : Pass) (m m' : Meter) → pass.copied ≢ 0 → m.spent ≤ m'.spent → 0 < next.copied → PaysFor pass m next m'
changed-paid pass next m m' copied later some = λ from is.
    let before : from.spent < m.spent = is.1 copied in
    (λ none. absurd (omega (arith, none, some)), λ _. omega (arith, before, later))

-- nothing is made of a line exactly if nothing is spent
none-unspent : {A : Type 0} (from m : Meter) (copied : ℕ) (made : Option A) → IsPaid from copied m → (made ≡ None ↔ (copied ≡ 0))
    → made ≡ None ↔ (m.spent ≡ from.spent)
none-unspent from m zero made is none = (λ _. is.0 refl, λ _. none.1 refl)
none-unspent from m (suc copied) made is none = (
  λ nothing. absurd (cc (none.0 nothing)),
  λ same. absurd (let more : from.spent < m.spent =
      is.1 (λ e. cc e) in omega (arith, more, same)),
)

pub made-unspent : {A : Type 0} (from m : Meter) (copied : ℕ) (result : Result (Option A) (PureStop FaultKind)) → IsPaid from copied m
    → IfOk result (λ made. made ≡ None ↔ (copied ≡ 0)) → IfOk result (λ made. made ≡ None ↔ (m.spent ≡ from.spent))
made-unspent from m copied (Ok made) is none = none-unspent from m copied made is none
made-unspent from m copied (Err stop) is none = tt
