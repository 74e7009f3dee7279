-- How the code cuts a condition into tokens, by places in the text. `Tokens.antt` says what the tokens are, and
-- it is proved that they are these.
use Rattle.std.specs.Prelude.{ℕ, zero, suc, ◌+◌, ◌-◌, ◌==◌, Bool, false, List, [], ◌∷◌, drop, take}
use Rattle.std.specs.Prelude.{Option, Some, None, option_map, not, if◌then◌else◌}
use Rattle.general_facts.specs.Ascii.{bang, double_quote, ampersand, left_paren, right_paren, less_sign, equals_sign}
use Rattle.general_facts.specs.Ascii.{greater_sign, bar}
use Rattle.mk_text.specs.Blanks.{is_blank}
use Rattle.mk_cond_tree.specs.declared.tokens.Comparison.TheVariants as o
use Rattle.mk_cond_tree.specs.declared.tokens.Call.{Call}
use Rattle.mk_cond_tree.specs.declared.tokens.Side.TheVariants.{Quoted, Bare}
use Rattle.mk_cond_tree.specs.declared.tokens.Token.{Token}
use Rattle.mk_cond_tree.specs.declared.tokens.Token.TheVariants as t
use Rattle.mk_cond_tree.specs.Tokens.{is_stop, call_of}

-- whether a text begins with a byte
abbrev pub begins : ℕ → List ℕ → Bool
begins byte [] = false
begins byte (b ∷ rest) = b == byte

-- the place of the first byte with a property, in a text that begins at a place
abbrev pub place_of_first : (ℕ → Bool) → ℕ → List ℕ → Option ℕ
place_of_first p at [] = None
place_of_first p at (b ∷ rest) = if p b then Some at else place_of_first p (at + 1) rest

-- that place, or the end of the text
abbrev pub first_or_end : (ℕ → Bool) → ℕ → List ℕ → ℕ
first_or_end p at [] = at
first_or_end p at (b ∷ rest) = if p b then at else first_or_end p (at + 1) rest

-- The place of the parenthesis that closes an earlier one, in the text after that one. The text begins at a
-- place, and this many others are open there.
abbrev pub closing_place : ℕ → ℕ → List ℕ → Option ℕ
closing_place at depth [] = None
closing_place at depth (b ∷ rest) =
    if b == left_paren then closing_place (at + 1) (suc depth) rest
    else if b == right_paren then (if depth == 0 then Some at else closing_place (at + 1) (depth - 1) rest)
    else closing_place (at + 1) depth rest

-- a quoted side: its text begins at this place, after the first double quote, and goes up to the next
-- one
abbrev pub quoted_side : ℕ → Option ℕ → Option (Token × ℕ)
quoted_side start None = None
quoted_side start (Some end) = Some (t.Side (Quoted (record { start = start; end = end })), end + 1)

-- a call whose argument begins at a place and goes up to the parenthesis that closes it
abbrev pub call_token : Call → ℕ → Option ℕ → Option (Token × ℕ)
call_token call start None = None
call_token call start (Some end) = Some (t.Call call (record { start = start; end = end }), end + 1)

-- the end of the blanks at the front of a text that begins at a place
abbrev pub blanks_end : ℕ → List ℕ → ℕ
blanks_end at text = first_or_end (λ b. not (is_blank b)) at text

-- A side that isn't quoted, from one place up to another. If it is a call's word and there is a parenthesis
-- at the third place, it is a call. `rest` follows its first byte.
abbrev pub word_token : ℕ → List ℕ → ℕ → ℕ → Option Call → Option (Token × ℕ)
word_token at rest end left None = Some (t.Side (Bare (record { start = at; end = end })), end)
word_token at rest end left (Some call) =
    if begins left_paren (drop (left - (at + 1)) rest) then call_token call (left + 1)
    (closing_place (left + 1) 0 (drop (left + 1 - (at + 1)) rest))
    else Some (t.Side (Bare (record { start = at; end = end })), end)

-- the same, of the longest run of bytes that don't end a side; the first is `b`
abbrev pub word_at : ℕ → ℕ → List ℕ → Option (Token × ℕ)
word_at at b rest =
    let end = first_or_end is_stop (at + 1) rest in
    word_token at rest end (blanks_end end (drop (end - (at + 1)) rest)) (call_of (b ∷ take (end - (at + 1)) rest))

-- a sign of two bytes, or of one if the second isn't there
abbrev pub sign_of_two_or_one : ℕ → Bool → Token → Token → Option (Token × ℕ)
sign_of_two_or_one at doubled two one = if doubled then Some (two, at + 2) else Some (one, at + 1)

-- a sign that has two bytes; none if the second isn't there
abbrev pub sign_of_two : ℕ → Bool → Token → Option (Token × ℕ)
sign_of_two at doubled two = if doubled then Some (two, at + 2) else None

-- The token that begins with byte `b` at a place, and the place after it; none if there is no token. `b`
-- isn't a blank, and `rest` follows it. References are covered by dollars in the text.
unfoldable pub token_at : ℕ → ℕ → List ℕ → Option (Token × ℕ)
token_at at b rest =
    if b == left_paren then Some (t.Left, at + 1)
    else if b == right_paren then Some (t.Right, at + 1)
    else if b == bang then sign_of_two_or_one at (begins equals_sign rest) (t.Compare o.Unequal) t.Not
    else if b == less_sign then sign_of_two_or_one at (begins equals_sign rest) (t.Compare o.AtMost) (t.Compare o.Less)
    else if b == greater_sign then sign_of_two_or_one at (begins equals_sign rest) (t.Compare o.AtLeast) (t.Compare o.Greater)
    else if b == equals_sign then sign_of_two at (begins equals_sign rest) (t.Compare o.Equal)
    else if b == ampersand then sign_of_two at (begins ampersand rest) t.And
    else if b == bar then sign_of_two at (begins bar rest) t.Or
    else if b == double_quote then quoted_side (at + 1) (place_of_first (λ c. c == double_quote) (at + 1) rest)
    else word_at at b rest

-- a token before those that `more` gives from the place after it on
abbrev pub token_before : (ℕ → Option (List Token)) → Option (Token × ℕ) → Option (List Token)
token_before more None = None
token_before more (Some (token, end)) = option_map (λ tokens. token ∷ tokens) (more end)

-- The tokens of a text that begins at a place, from its byte of this number on. Blanks are passed over, and
-- so are the bytes of a token after its first.
unfoldable pub walk : ℕ → ℕ → List ℕ → Option (List Token)
walk at skipped [] = Some []
walk at (suc skipped) (b ∷ rest) = walk (at + 1) skipped rest
walk at zero (b ∷ rest) =
    if is_blank b then walk (at + 1) 0 rest
    else token_before (λ end. walk (at + 1) (end - (at + 1)) rest) (token_at at b rest)
