-- The places in tokens, in the text that they were cut out of.
use Rattle.std.specs.Prelude.{ℕ, List, ⊤}
use Rattle.mk_text.specs.Words.{IsSpanOf}
use Rattle.mk_cond_tree.specs.declared.tokens.Side.{Side}
use Rattle.mk_cond_tree.specs.declared.tokens.Side.TheVariants.{Quoted, Bare}
use Rattle.mk_cond_tree.specs.declared.tokens.Token.{Token}
use Rattle.mk_cond_tree.specs.declared.tokens.Token.TheVariants as t

-- the place of a side can be cut out of the text
abbrev pub IsSideIn : List ℕ → Side → Type 0
IsSideIn text (Quoted span) = IsSpanOf text span
IsSideIn text (Bare span) = IsSpanOf text span

-- the place in a token, if it has one, can be cut out of the text
abbrev pub IsTokenIn : List ℕ → Token → Type 0
IsTokenIn text (t.Side side) = IsSideIn text side
IsTokenIn text (t.Call call argument) = IsSpanOf text argument
IsTokenIn text token = ⊤
