-- Operands read one after another.
use Rattle.std.proofs.Common.{◌≡◌, ◌<◌, ◌≤◌, ℕ, zero, suc, List, [], ◌∷◌, ◌++◌, length, Option, Some, None, IfSome, option_map, refl, sym}
use Rattle.std.proofs.Common.{ap, ◌∙◌, arith, append_assoc, append-nil}
use Rattle.mk_cond_tree.specs.declared.tokens.Token.{Token}
use Rattle.mk_cond_tree.specs.Reader.{Reader, operand_on, operands_after, operands_by, operands}

-- what is read of these operands, where tokens are left
abbrev pub continued : {A : Type 0} → (List Token → Option (List Token)) → Reader A → List A → List Token → Option (List A × List Token)
continued sign read done rest = option_map (λ later. (done ++ later.0, later.1)) (operands sign read rest)

-- a reader leaves no more than it was given, and a sign takes a token
abbrev pub Shrinks : {A : Type 0} → Reader A → Type 0
Shrinks read = (tokens : List Token) → IfSome (read tokens) (λ x. length x.1 ≤ length tokens)

abbrev pub TakesSome : (List Token → Option (List Token)) → Type 0
TakesSome sign = (tokens : List Token) → IfSome (sign tokens) (λ rest. length rest < length tokens)

one_more : {A : Type 0} (done : List A) (next : A) (later : Option (List A × List Token))
    → option_map {U = List A × List Token} (λ p. (done ++ p.0, p.1)) (option_map {U = List A × List Token} (λ p. (next ∷ p.0, p.1)) later)
    ≡ option_map {U = List A × List Token} (λ p. ((done ++ next ∷ []) ++ p.0, p.1)) later
one_more done next None = refl
one_more done next (Some p) = ap (λ l. Some (l, p.1)) (sym (append_assoc done (next ∷ []) p.0))

module _ {A : Type 0} (sign : List Token → Option (List Token)) (read : Reader A) (takes : TakesSome sign) (shrinks : Shrinks read) where
  same_operand : (one other : Reader (List A)) (x : Option (A × List Token)) (size : ℕ) → IfSome x (λ p. length p.1 < size)
      → ((tokens : List Token) → length tokens < size → one tokens ≡ other tokens) → operand_on one x ≡ operand_on other x
  same_operand one other None size low agree = refl
  same_operand one other (Some p) size low agree = ap (option_map (λ later. (p.0 ∷ later.0, later.1))) (agree p.1 low)

  lower : (x : Option (A × List Token)) (n size : ℕ) → IfSome x (λ p. length p.1 ≤ n) → n < size → IfSome x (λ p. length p.1 < size)
  lower None n size low small = tt
  lower (Some p) n size low small = omega arith

  same_signed : (one other : Reader (List A)) (tokens : List Token) (behind : Option (List Token)) (size : ℕ)
      → IfSome behind (λ rest. length rest < size)
      → ((left : List Token) → length left < size → one left ≡ other left)
      → operands_after (λ rest. operand_on one (read rest)) tokens behind ≡ operands_after
      (λ rest. operand_on other (read rest)) tokens behind
  same_signed one other tokens None size low agree = refl
  same_signed one other tokens (Some rest) size low agree = same_operand one other (read rest) size
      (lower (read rest) (length rest) size (shrinks rest) low) agree

  same_fuel : (one other : ℕ) (tokens : List Token) → length tokens < one → length tokens < other → operands_by sign read one tokens ≡
      operands_by sign read other tokens
  unfolding operands_by
  same_fuel zero other tokens low high = absurd (omega arith)
  same_fuel (suc one) zero tokens low high = absurd (omega arith)
  same_fuel (suc one) (suc other) tokens low high =
      same_signed (operands_by sign read one) (operands_by sign read other) tokens (sign tokens) (length tokens) (takes tokens)
      (λ left small. same_fuel one other left (omega arith) (omega arith))

  pub operands-next : (tokens : List Token) → operands sign read tokens ≡ operands_after
      (λ behind. operand_on (operands sign read) (read behind)) tokens (sign tokens)
  unfolding operands operands_by
  operands-next tokens =
      same_signed (operands_by sign read (length tokens)) (operands sign read) tokens (sign tokens) (length tokens) (takes tokens)
      (λ left small. same_fuel (length tokens) (suc (length left)) left small (omega arith))

  operands_from : (tokens : List Token) (behind : Option (List Token)) → sign tokens ≡ behind
      → operands sign read tokens ≡ operands_after (λ rest. operand_on (operands sign read) (read rest)) tokens behind
  operands_from tokens behind is = operands-next tokens
      ∙ ap (operands_after (λ rest. operand_on (operands sign read) (read rest)) tokens) is

  -- no sign comes first
  pub continued-ends : (done : List A) (rest : List Token) → sign rest ≡ None → continued sign read done rest ≡ Some (done, rest)
  continued-ends done rest is = ap (option_map (λ later. (done ++ later.0, later.1))) (operands_from rest None is)
      ∙ ap (λ l. Some (l, rest)) (append-nil done)

  operand_at : (behind : List Token) (x : Option (A × List Token)) → read behind ≡ x → (rest : List Token) → sign rest ≡ Some behind
      → operands sign read rest ≡ operand_on (operands sign read) x
  operand_at behind x is rest sign_is = operands_from rest (Some behind) sign_is ∙ ap (operand_on (operands sign read)) is

  pub continued-refused : (done : List A) (rest behind : List Token) → sign rest ≡ Some behind → read behind ≡ None
      → continued sign read done rest ≡ None
  continued-refused done rest behind sign_is is = ap (option_map (λ later. (done ++ later.0, later.1)))
      (operand_at behind None is rest sign_is)

  pub continued-more : (done : List A) (rest behind left : List Token) (next : A) → sign rest ≡ Some behind
      → read behind ≡ Some (next, left)
      → continued sign read done rest ≡ continued sign read (done ++ next ∷ []) left
  continued-more done rest behind left next sign_is is =
      ap (option_map (λ later. (done ++ later.0, later.1))) (operand_at behind (Some (next, left)) is rest sign_is)
      ∙ one_more done next (operands sign read left)
