-- The tree of a condition, and which tokens are those of a tree. The grammar is that of make(1)
-- ("CONDITIONALS"), where `!` binds most tightly, then `&&`, then `||`:
--   or  = and {"||" and}
--   and = not {"&&" not}
--   not = "!" not | "(" or ")" | call | side [comparison side]
use Rattle.std.specs.Prelude.{◌≡◌, ◌≤◌, ℕ, suc, max, List, [], ◌∷◌, ◌++◌}
use Rattle.mk_text.specs.declared.word_spans.Span.{Span}
use Rattle.mk_cond_tree.specs.declared.tokens.Comparison.{Comparison}
use Rattle.mk_cond_tree.specs.declared.tokens.Call.{Call}
use Rattle.mk_cond_tree.specs.declared.tokens.Side.{Side}
use Rattle.mk_cond_tree.specs.declared.tokens.Token.{Token}
use Rattle.mk_cond_tree.specs.declared.tokens.Token.TheVariants as t

mutual
  -- one conjunction or more, with `||` between
  pub data OrTree : Type 0 where
    OrOf : AndTree → LaterAnds → OrTree

  -- the conjunctions after the first
  pub data LaterAnds : Type 0 where
    NoAnds : LaterAnds
    MoreAnds : AndTree → LaterAnds → LaterAnds

  -- one term or more, with `&&` between
  pub data AndTree : Type 0 where
    AndOf : NotTree → LaterNots → AndTree

  -- the terms after the first
  pub data LaterNots : Type 0 where
    NoNots : LaterNots
    MoreNots : NotTree → LaterNots → LaterNots

  -- a term: one after a `!`; one in parentheses; a call with the place of its argument; two sides compared;
  -- a side alone
  pub data NotTree : Type 0 where
    Negated : NotTree → NotTree
    Grouped : OrTree → NotTree
    Called : Call → Span → NotTree
    Compared : Side → Comparison → Side → NotTree
    Alone : Side → NotTree

-- the tokens of a tree, in order
abbrev mutual
  pub or_tokens : OrTree → List Token
  or_tokens (OrOf and more) = and_tokens and ++ later_and_tokens more

  pub later_and_tokens : LaterAnds → List Token
  later_and_tokens NoAnds = []
  later_and_tokens (MoreAnds and more) = t.Or ∷ (and_tokens and ++ later_and_tokens more)

  pub and_tokens : AndTree → List Token
  and_tokens (AndOf not more) = not_tokens not ++ later_not_tokens more

  pub later_not_tokens : LaterNots → List Token
  later_not_tokens NoNots = []
  later_not_tokens (MoreNots not more) = t.And ∷ (not_tokens not ++ later_not_tokens more)

  pub not_tokens : NotTree → List Token
  not_tokens (Negated not) = t.Not ∷ not_tokens not
  not_tokens (Grouped or) = t.Left ∷ (or_tokens or ++ t.Right ∷ [])
  not_tokens (Called call argument) = t.Call call argument ∷ []
  not_tokens (Compared left comparison right) = t.Side left ∷ t.Compare comparison ∷ t.Side right ∷ []
  not_tokens (Alone side) = t.Side side ∷ []

-- how many `!` and parentheses are one inside another, at most
abbrev mutual
  pub or_depth : OrTree → ℕ
  or_depth (OrOf and more) = max (and_depth and) (later_and_depth more)

  pub later_and_depth : LaterAnds → ℕ
  later_and_depth NoAnds = 0
  later_and_depth (MoreAnds and more) = max (and_depth and) (later_and_depth more)

  pub and_depth : AndTree → ℕ
  and_depth (AndOf not more) = max (not_depth not) (later_not_depth more)

  pub later_not_depth : LaterNots → ℕ
  later_not_depth NoNots = 0
  later_not_depth (MoreNots not more) = max (not_depth not) (later_not_depth more)

  pub not_depth : NotTree → ℕ
  not_depth (Negated not) = suc (not_depth not)
  not_depth (Grouped or) = suc (or_depth or)
  not_depth (Called call argument) = 0
  not_depth (Compared left comparison right) = 0
  not_depth (Alone side) = 0

-- the tree whose tokens, in order, these are, and in which no more than this many `!` and parentheses are
-- one inside another
pub record IsTreeOf (limit : ℕ) (tokens : List Token) (tree : OrTree) : Type 0 where
  pub in_order : or_tokens tree ≡ tokens
  pub not_deep : or_depth tree ≤ limit
