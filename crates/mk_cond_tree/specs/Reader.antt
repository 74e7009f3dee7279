-- How tokens are read into their tree, for those who want the reading as a function. It gives the tree of
-- `IsTreeOf`, and none if there is none.
use Rattle.std.specs.Prelude.{ℕ, zero, suc, List, [], ◌∷◌, length, Option, Some, None, option_map}
use Rattle.mk_cond_tree.specs.declared.tokens.Comparison.{Comparison}
use Rattle.mk_cond_tree.specs.declared.tokens.Side.{Side}
use Rattle.mk_cond_tree.specs.declared.tokens.Token.{Token}
use Rattle.mk_cond_tree.specs.declared.tokens.Token.TheVariants as t
use Rattle.mk_cond_tree.specs.Trees.{OrTree, OrOf, LaterAnds, NoAnds, MoreAnds, AndTree, AndOf, LaterNots, NoNots}
use Rattle.mk_cond_tree.specs.Trees.{MoreNots, NotTree, Negated, Grouped, Called, Compared, Alone}

-- a reader takes something off the front of tokens, and gives what is left after it
abbrev pub Reader : Type 0 → Type 0
Reader A = List Token → Option (A × List Token)

-- the tokens after a sign that comes first
abbrev pub after_or : List Token → Option (List Token)
after_or [] = None
after_or (t.Or ∷ rest) = Some rest
after_or (token ∷ rest) = None

abbrev pub after_and : List Token → Option (List Token)
after_and [] = None
after_and (t.And ∷ rest) = Some rest
after_and (token ∷ rest) = None

abbrev pub after_right : List Token → Option (List Token)
after_right [] = None
after_right (t.Right ∷ rest) = Some rest
after_right (token ∷ rest) = None

abbrev pub first_side : Reader Side
first_side [] = None
first_side (t.Side side ∷ rest) = Some (side, rest)
first_side (token ∷ rest) = None

abbrev pub first_comparison : Reader Comparison
first_comparison [] = None
first_comparison (t.Compare comparison ∷ rest) = Some (comparison, rest)
first_comparison (token ∷ rest) = None

-- one operand, and those that `more` reads after it
abbrev pub operand_on : {A : Type 0} → Reader (List A) → Option (A × List Token) → Option (List A × List Token)
operand_on more None = None
operand_on more (Some (first, rest)) = option_map (λ later. (first ∷ later.0, later.1)) (more rest)

-- what `read` makes of what follows a sign; if there is no sign, nothing is read
abbrev pub operands_after : {A : Type 0} → Reader (List A) → List Token → Option (List Token) → Option (List A × List Token)
operands_after read tokens None = Some ([], tokens)
operands_after read tokens (Some behind) = read behind

-- Operands, each after a sign, as many as there are. The number bounds how many are read.
unfoldable pub operands_by : {A : Type 0} → (List Token → Option (List Token)) → Reader A → ℕ → Reader (List A)
operands_by sign read zero tokens = None
operands_by sign read (suc fuel) tokens =
    operands_after (λ behind. operand_on (operands_by sign read fuel) (read behind)) tokens (sign tokens)

-- the same with no bound: there are fewer operands than tokens
unfoldable pub operands : {A : Type 0} → (List Token → Option (List Token)) → Reader A → Reader (List A)
operands sign read tokens = operands_by sign read (suc (length tokens)) tokens

-- the trees of operands in a list
abbrev pub later_nots : List NotTree → LaterNots
later_nots [] = NoNots
later_nots (not ∷ more) = MoreNots not (later_nots more)

abbrev pub later_ands : List AndTree → LaterAnds
later_ands [] = NoAnds
later_ands (and ∷ more) = MoreAnds and (later_ands more)

-- a first operand, and those that are read after it
abbrev pub chain_on : {A B : Type 0} → (A → List A → B) → Reader (List A) → Option (A × List Token) → Option (B × List Token)
chain_on made more None = None
chain_on made more (Some (first, rest)) = option_map (λ later. (made first later.0, later.1)) (more rest)

-- a conjunction and a condition, if `read` reads the terms
abbrev pub and_by : Reader NotTree → Reader AndTree
and_by read tokens = chain_on (λ first more. AndOf first (later_nots more)) (operands after_and read) (read tokens)

abbrev pub or_by : Reader NotTree → Reader OrTree
or_by read tokens = chain_on (λ first more. OrOf first (later_ands more)) (operands after_or (and_by read)) (and_by read tokens)

-- a side, and what it is compared with, if anything
abbrev pub right_of : Side → Comparison → Option (Side × List Token) → Option (NotTree × List Token)
right_of left comparison None = None
right_of left comparison (Some (right, rest)) = Some (Compared left comparison right, rest)

abbrev pub side_term : Side → List Token → Option (Comparison × List Token) → Option (NotTree × List Token)
side_term left tokens None = Some (Alone left, tokens)
side_term left tokens (Some (comparison, rest)) = right_of left comparison (first_side rest)

-- a condition whose parenthesis closes
abbrev pub close_group : OrTree → Option (List Token) → Option (NotTree × List Token)
close_group or None = None
close_group or (Some rest) = Some (Grouped or, rest)

abbrev pub group : Option (OrTree × List Token) → Option (NotTree × List Token)
group None = None
group (Some (or, rest)) = close_group or (after_right rest)

-- a term negated
abbrev pub negate : Option (NotTree × List Token) → Option (NotTree × List Token)
negate read = option_map (λ x. (Negated x.0, x.1)) read

-- a term; `inner` reads the terms one level deeper
abbrev pub not_with : Reader NotTree → Reader NotTree
not_with inner [] = None
not_with inner (t.Not ∷ rest) = negate (inner rest)
not_with inner (t.Left ∷ rest) = group (or_by inner rest)
not_with inner (t.Call call argument ∷ rest) = Some (Called call argument, rest)
not_with inner (t.Side side ∷ rest) = side_term side rest (first_comparison rest)
not_with inner (token ∷ rest) = None

-- The term that tokens begin with, itself inside a `!` or parentheses. At most this many of these, that one
-- included, may be one inside another; so it is none if the number is zero.
unfoldable pub inside_of : ℕ → Reader NotTree
inside_of zero tokens = None
inside_of (suc levels) tokens = not_with (inside_of levels) tokens

-- the term that tokens begin with; no more than this many `!` and parentheses are one inside another in it
abbrev pub read_not : ℕ → Reader NotTree
read_not levels tokens = not_with (inside_of levels) tokens

-- what follows a `!`, and what follows a parenthesis
abbrev pub negation_below : ℕ → Reader NotTree
negation_below levels tokens = negate (inside_of levels tokens)

abbrev pub group_below : ℕ → Reader NotTree
group_below levels tokens = group (or_by (inside_of levels) tokens)

abbrev pub read_and : ℕ → Reader AndTree
read_and levels = and_by (read_not levels)

abbrev pub read_or : ℕ → Reader OrTree
read_or levels = or_by (read_not levels)

-- the tree, if nothing is left after it
abbrev pub with_nothing_left : Option (OrTree × List Token) → Option OrTree
with_nothing_left None = None
with_nothing_left (Some (or, [])) = Some or
with_nothing_left (Some (or, token ∷ rest)) = None

-- the tree of tokens
abbrev pub tree_of_tokens : ℕ → List Token → Option OrTree
tree_of_tokens levels tokens = with_nothing_left (read_or levels tokens)
