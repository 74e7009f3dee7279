-- What is read is a tree of the tokens that were taken.
use Rattle.std.proofs.Common.{◌≡◌, ◌<◌, ◌≤◌, ℕ, zero, suc, max, List, [], ◌∷◌, ◌++◌, length, Option, Some, None, IfSome, option_map, refl}
use Rattle.std.proofs.Common.{sym, ap, subst, ◌∙◌, arith, append_assoc, length-append}
use Rattle.mk_cond_tree.specs.declared.tokens.Side.{Side}
use Rattle.mk_cond_tree.specs.declared.tokens.Token.{Token}
use Rattle.mk_cond_tree.specs.declared.tokens.Token.TheVariants as t
use Rattle.mk_cond_tree.specs.Trees.{OrTree, OrOf, AndTree, AndOf, NotTree, or_tokens, later_and_tokens, and_tokens, later_not_tokens}
use Rattle.mk_cond_tree.specs.Trees.{not_tokens, or_depth, later_and_depth, and_depth, later_not_depth, not_depth}
use Rattle.mk_cond_tree.specs.Reader.{Reader, after_or, after_and, after_right, first_comparison, operand_on, operands_after, operands_by}
use Rattle.mk_cond_tree.specs.Reader.{operands, later_nots, later_ands, chain_on, and_by, or_by, side_term, close_group, group, negate}
use Rattle.mk_cond_tree.specs.Reader.{inside_of, read_not, read_and}
use Rattle.mk_cond_tree.proofs.Chains.{Shrinks, TakesSome}

-- tokens taken off the front and those left are all of them
pub record Takes {A : Type 0} (written : A → List Token) (deep : A → ℕ) (limit : ℕ) (tokens : List Token)
    (read : A × List Token) : Type 0 where
  pub whole : written read.0 ++ read.1 ≡ tokens
  pub not_deep : deep read.0 ≤ limit

abbrev pub IsSound : {A : Type 0} → (A → List Token) → (A → ℕ) → ℕ → Reader A → Type 0
IsSound written deep limit read = (tokens : List Token) → IfSome (read tokens) (Takes written deep limit tokens)

-- a sign comes before what follows it
abbrev pub IsSign : Token → (List Token → Option (List Token)) → Type 0
IsSign token sign = (tokens : List Token) → IfSome (sign tokens) (λ rest. tokens ≡ token ∷ rest)

pub or-sign : IsSign t.Or after_or
or-sign [] = tt
or-sign (t.Or ∷ rest) = refl
or-sign (token ∷ rest) = tt

pub and-sign : IsSign t.And after_and
and-sign [] = tt
and-sign (t.And ∷ rest) = refl
and-sign (token ∷ rest) = tt

pub right-sign : IsSign t.Right after_right
right-sign [] = tt
right-sign (t.Right ∷ rest) = refl
right-sign (token ∷ rest) = tt

shorter_sign : (token : Token) (tokens : List Token) (behind : Option (List Token)) → IfSome behind (λ rest. tokens ≡ token ∷ rest)
    → IfSome behind (λ rest. length rest < length tokens)
shorter_sign token tokens None h = tt
shorter_sign token tokens (Some rest) h = subst (λ l. length rest < length l) (sym h) (omega arith)

takes : (token : Token) (sign : List Token → Option (List Token)) → IsSign token sign → TakesSome sign
takes token sign is tokens = shorter_sign token tokens (sign tokens) (is tokens)

shorter_read : {A : Type 0} (written : A → List Token) (deep : A → ℕ) (limit : ℕ) (tokens : List Token) (x : Option (A × List Token))
    → IfSome x (Takes written deep limit tokens) → IfSome x (λ p. length p.1 ≤ length tokens)
shorter_read written deep limit tokens None h = tt
shorter_read written deep limit tokens (Some p) h = subst (λ l. length p.1 ≤ length l) h.whole
    (omega (arith, length-append (written p.0) p.1))

shrinks : {A : Type 0} (written : A → List Token) (deep : A → ℕ) (limit : ℕ) (read : Reader A)
    → IsSound written deep limit read → Shrinks read
shrinks written deep limit read sound tokens = shorter_read written deep limit tokens (read tokens) (sound tokens)

-- operands with their signs, and how deep they are
abbrev pub joined : {A : Type 0} → Token → (A → List Token) → List A → List Token
joined token written [] = []
joined token written (x ∷ more) = token ∷ (written x ++ joined token written more)

abbrev pub deepest : {A : Type 0} → (A → ℕ) → List A → ℕ
deepest deep [] = 0
deepest deep (x ∷ more) = max (deep x) (deepest deep more)

module _ {A : Type 0} (token : Token) (sign : List Token → Option (List Token)) (is_sign : IsSign token sign) (written : A → List Token)
    (deep : A → ℕ) (limit : ℕ)
    (read : Reader A) (sound : IsSound written deep limit read) where
  put_sound : (tokens behind : List Token) (x : A × List Token) (later : Option (List A × List Token)) → tokens ≡ token ∷ behind
      → Takes written deep limit behind x
      → IfSome later (Takes (joined token written) (deepest deep) limit x.1)
      → IfSome (option_map (λ l. (x.0 ∷ l.0, l.1)) later) (Takes (joined token written) (deepest deep) limit tokens)
  put_sound tokens behind x None is h more = tt
  put_sound tokens behind x (Some l) is h more = record {
    whole = ap (λ r. token ∷ r) (append_assoc (written x.0) (joined token written l.0) l.1
        ∙ ap (λ r. written x.0 ++ r) more.whole ∙ h.whole) ∙ sym is;
    not_deep = omega (arith, h.not_deep, more.not_deep);
  }

  operand_sound : (more : Reader (List A)) → IsSound (joined token written) (deepest deep) limit more → (tokens behind : List Token)
      → tokens ≡ token ∷ behind
      → (x : Option (A × List Token)) → IfSome x (Takes written deep limit behind)
      → IfSome (operand_on more x) (Takes (joined token written) (deepest deep) limit tokens)
  operand_sound more more_sound tokens behind is None h = tt
  operand_sound more more_sound tokens behind is (Some x) h = put_sound tokens behind x (more x.1) is h (more_sound x.1)

  signed_sound : (more : Reader (List A)) → IsSound (joined token written) (deepest deep) limit more
      → (tokens : List Token) (behind : Option (List Token))
      → IfSome behind (λ rest. tokens ≡ token ∷ rest)
      → IfSome (operands_after (λ rest. operand_on more (read rest)) tokens behind)
      (Takes (joined token written) (deepest deep) limit tokens)
  signed_sound more more_sound tokens None is = record { whole = refl; not_deep = omega arith }
  signed_sound more more_sound tokens (Some behind) is = operand_sound more more_sound tokens behind is (read behind) (sound behind)

  by_sound : (fuel : ℕ) → IsSound (joined token written) (deepest deep) limit (operands_by sign read fuel)
  unfolding operands_by
  by_sound zero tokens = tt
  by_sound (suc fuel) tokens = signed_sound (operands_by sign read fuel) (by_sound fuel) tokens (sign tokens) (is_sign tokens)

  pub operands-sound : IsSound (joined token written) (deepest deep) limit (operands sign read)
  unfolding operands
  operands-sound tokens = by_sound (suc (length tokens)) tokens

  module _ {B : Type 0} (made : A → List A → B) (all_written : B → List Token) (all_deep : B → ℕ)
      (writes : (x : A) (more : List A) → all_written (made x more) ≡ written x ++ joined token written more)
      (deepens : (x : A) (more : List A) → all_deep (made x more) ≡ max (deep x) (deepest deep more)) where
    made_sound : (tokens : List Token) (x : A × List Token) (later : Option (List A × List Token)) → Takes written deep limit tokens x
        → IfSome later (Takes (joined token written) (deepest deep) limit x.1)
        → IfSome (option_map (λ l. (made x.0 l.0, l.1)) later) (Takes all_written all_deep limit tokens)
    made_sound tokens x None h more = tt
    made_sound tokens x (Some l) h more = record {
      whole = ap (λ r. r ++ l.1) (writes x.0 l.0) ∙ append_assoc (written x.0) (joined token written l.0) l.1
          ∙ ap (λ r. written x.0 ++ r) more.whole ∙ h.whole;
      not_deep = subst (λ n. n ≤ limit) (sym (deepens x.0 l.0)) (omega (arith, h.not_deep, more.not_deep));
    }

    chained : (tokens : List Token) (x : Option (A × List Token)) → IfSome x (Takes written deep limit tokens)
        → IfSome (chain_on made (operands sign read) x) (Takes all_written all_deep limit tokens)
    chained tokens None h = tt
    chained tokens (Some x) h = made_sound tokens x (operands sign read x.1) h (operands-sound x.1)

    pub chain-sound : IsSound all_written all_deep limit (λ tokens. chain_on made (operands sign read) (read tokens))
    chain-sound tokens = chained tokens (read tokens) (sound tokens)

nots_written : (more : List NotTree) → later_not_tokens (later_nots more) ≡ joined t.And not_tokens more
nots_written [] = refl
nots_written (x ∷ more) = ap (λ l. t.And ∷ (not_tokens x ++ l)) (nots_written more)

nots_deep : (more : List NotTree) → later_not_depth (later_nots more) ≡ deepest not_depth more
nots_deep [] = refl
nots_deep (x ∷ more) = ap (max (not_depth x)) (nots_deep more)

ands_written : (more : List AndTree) → later_and_tokens (later_ands more) ≡ joined t.Or and_tokens more
ands_written [] = refl
ands_written (x ∷ more) = ap (λ l. t.Or ∷ (and_tokens x ++ l)) (ands_written more)

ands_deep : (more : List AndTree) → later_and_depth (later_ands more) ≡ deepest and_depth more
ands_deep [] = refl
ands_deep (x ∷ more) = ap (max (and_depth x)) (ands_deep more)

pub and-sound : (limit : ℕ) (read : Reader NotTree) → IsSound not_tokens not_depth limit read
    → IsSound and_tokens and_depth limit (and_by read)
and-sound limit read sound tokens =
    chain-sound t.And after_and and-sign not_tokens not_depth limit read sound (λ first more. AndOf first (later_nots more)) and_tokens
    and_depth
    (λ x more. ap (λ l. not_tokens x ++ l) (nots_written more)) (λ x more. ap (max (not_depth x)) (nots_deep more)) tokens

pub or-sound : (limit : ℕ) (read : Reader NotTree) → IsSound not_tokens not_depth limit read → IsSound or_tokens or_depth limit (or_by read)
or-sound limit read sound tokens =
    chain-sound t.Or after_or or-sign and_tokens and_depth limit (and_by read) (and-sound limit read sound)
    (λ first more. OrOf first (later_ands more)) or_tokens or_depth
    (λ x more. ap (λ l. and_tokens x ++ l) (ands_written more)) (λ x more. ap (max (and_depth x)) (ands_deep more)) tokens

sided_sound : (limit : ℕ) (left : Side) (rest : List Token)
    → IfSome (side_term left rest (first_comparison rest)) (Takes not_tokens not_depth limit (t.Side left ∷ rest))
sided_sound limit left [] = record { whole = refl; not_deep = omega arith }
sided_sound limit left (t.Compare comparison ∷ []) = tt
sided_sound limit left (t.Compare comparison ∷ t.Side right ∷ rest) = record { whole = refl; not_deep = omega arith }
sided_sound limit left (t.Compare comparison ∷ token ∷ rest) = tt
sided_sound limit left (token ∷ rest) = record { whole = refl; not_deep = omega arith }

turned_sound : (limit : ℕ) (tokens : List Token) (x : Option (NotTree × List Token)) → IfSome x (Takes not_tokens not_depth limit tokens)
    → IfSome (negate x) (Takes not_tokens not_depth (suc limit) (t.Not ∷ tokens))
turned_sound limit tokens None h = tt
turned_sound limit tokens (Some x) h = record { whole = ap (λ l. t.Not ∷ l) h.whole; not_deep = omega (arith, h.not_deep) }

closed_sound : (limit : ℕ) (tokens : List Token) (x : OrTree × List Token) (behind : Option (List Token))
    → Takes or_tokens or_depth limit tokens x
    → IfSome behind (λ rest. x.1 ≡ t.Right ∷ rest)
    → IfSome (close_group x.0 behind) (Takes not_tokens not_depth (suc limit) (t.Left ∷ tokens))
closed_sound limit tokens x None h is = tt
closed_sound limit tokens x (Some rest) h is = record {
  whole = ap (λ l. t.Left ∷ l) (append_assoc (or_tokens x.0) (t.Right ∷ []) rest ∙ ap (λ l. or_tokens x.0 ++ l) (sym is) ∙ h.whole);
  not_deep = omega (arith, h.not_deep);
}

grouped_sound : (limit : ℕ) (tokens : List Token) (x : Option (OrTree × List Token)) → IfSome x (Takes or_tokens or_depth limit tokens)
    → IfSome (group x) (Takes not_tokens not_depth (suc limit) (t.Left ∷ tokens))
grouped_sound limit tokens None h = tt
grouped_sound limit tokens (Some x) h = closed_sound limit tokens x (after_right x.1) h (right-sign x.1)

pub not-sound : (levels : ℕ) → IsSound not_tokens not_depth levels (read_not levels)
unfolding inside_of
not-sound levels [] = tt
not-sound zero (t.Not ∷ rest) = tt
not-sound zero (t.Left ∷ rest) = tt
not-sound (suc levels) (t.Not ∷ rest) = turned_sound levels rest (read_not levels rest) (not-sound levels rest)
not-sound (suc levels) (t.Left ∷ rest) = grouped_sound levels rest (or_by (read_not levels) rest)
    (or-sound levels (read_not levels) (not-sound levels) rest)
not-sound levels (t.Call call argument ∷ rest) = record { whole = refl; not_deep = omega arith }
not-sound levels (t.Side side ∷ rest) = sided_sound levels side rest
not-sound levels (token ∷ rest) = tt

-- so each sign takes some, and each reading leaves no more than was there
pub and-takes : TakesSome after_and
and-takes = takes t.And after_and and-sign

pub or-takes : TakesSome after_or
or-takes = takes t.Or after_or or-sign

pub not-shrinks : (levels : ℕ) → Shrinks (read_not levels)
not-shrinks levels = shrinks not_tokens not_depth levels (read_not levels) (not-sound levels)

pub and-shrinks : (levels : ℕ) → Shrinks (read_and levels)
and-shrinks levels = shrinks and_tokens and_depth levels (read_and levels) (and-sound levels (read_not levels) (not-sound levels))
