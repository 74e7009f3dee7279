-- Options and results.
use Rattle.std.proofs.Common.{◌≡◌, refl, true, Option, Some, None, is_none, Result, Ok}

pub None_from_is_none : {X : Type 0} (found : Option X) → is_none found ≡ true → found ≡ None
None_from_is_none None e = refl
None_from_is_none (Some x) e = absurd cc

pub same_Ok : {X E : Type 0} {a b : X} → ◌≡◌ {A = Result X E} (Ok a) (Ok b) → a ≡ b
same_Ok e = cc
