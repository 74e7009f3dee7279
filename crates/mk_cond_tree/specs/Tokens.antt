-- The tokens of a condition. A text is cut into pieces from the left: each is the longest that the text begins
-- with there. All but blanks are tokens, which have their places in the text.
use Rattle.std.specs.Prelude.{ℕ, zero, suc, ◌+◌, ◌-◌, ◌==◌, ◌||◌, ◌&&◌, Bool, true, false, List, [], ◌∷◌, ◌++◌, length, drop, codes}
use Rattle.std.specs.Prelude.{Option, Some, None, option_map, not, if◌then◌else◌}
use Rattle.std.specs.Option.{option_or}
use Rattle.std.specs.Str.{bytes_eq}
use Rattle.general_facts.specs.Ascii.{bang, double_quote, ampersand, left_paren, right_paren, less_sign, equals_sign}
use Rattle.general_facts.specs.Ascii.{greater_sign, bar}
use Rattle.mk_text.specs.declared.word_spans.Span.{Span}
use Rattle.mk_text.specs.Blanks.{is_blank}
use Rattle.mk_cond_tree.specs.declared.tokens.Comparison.TheVariants as o
use Rattle.mk_cond_tree.specs.declared.tokens.Call.{Call}
use Rattle.mk_cond_tree.specs.declared.tokens.Call.TheVariants.{Defined, Empty, Exists, Make, Target}
use Rattle.mk_cond_tree.specs.declared.tokens.Side.TheVariants.{Quoted, Bare}
use Rattle.mk_cond_tree.specs.declared.tokens.Token.{Token}
use Rattle.mk_cond_tree.specs.declared.tokens.Token.TheVariants as t

-- a piece of a text: its bytes, those whose place its token has between others; and its token by that place,
-- if it has one
pub record Piece : Type 0 where
  pub before : List ℕ
  pub inside : List ℕ
  pub after : List ℕ
  pub tokens : Span → List Token

-- all its bytes
abbrev pub spelling : Piece → List ℕ
spelling piece = piece.before ++ piece.inside ++ piece.after

-- a blank, which is no token
abbrev pub blank_piece : ℕ → Piece
blank_piece b = record { before = b ∷ []; inside = []; after = []; tokens = λ place. [] }

-- a sign
abbrev pub sign_piece : List ℕ → Token → Piece
sign_piece bytes token = record { before = bytes; inside = []; after = []; tokens = λ place. token ∷ [] }

-- a text between double quotes, as a side
abbrev pub quoted_piece : List ℕ → Piece
quoted_piece text =
    record { before = double_quote ∷ []; inside = text; after = double_quote ∷ []; tokens = λ place. t.Side (Quoted place) ∷ [] }

-- a word, as a side
abbrev pub word_piece : List ℕ → Piece
word_piece word = record { before = []; inside = word; after = []; tokens = λ place. t.Side (Bare place) ∷ [] }

-- a call: its word, any blanks, and its argument between parentheses
abbrev pub call_piece : Call → List ℕ → List ℕ → List ℕ → Piece
call_piece call word blanks argument =
    record {
      before = word ++ blanks ++ left_paren ∷ [];
      inside = argument;
      after = right_paren ∷ [];
      tokens = λ place. t.Call call place ∷ [];
    }

-- the signs by their bytes; if one begins another, the longer comes first
abbrev pub signs_by_bytes : List (List ℕ × Token)
signs_by_bytes =
    (codes "||", t.Or) ∷ (codes "&&", t.And) ∷ (codes "==", t.Compare o.Equal) ∷ (codes "!=", t.Compare o.Unequal)
    ∷ (codes "<=", t.Compare o.AtMost) ∷ (codes ">=", t.Compare o.AtLeast) ∷ (codes "<", t.Compare o.Less)
    ∷ (codes ">", t.Compare o.Greater) ∷ (codes "!", t.Not) ∷ (codes "(", t.Left) ∷ (codes ")", t.Right) ∷ []

-- whether a text begins with these bytes
abbrev pub begins_with : List ℕ → List ℕ → Bool
begins_with [] text = true
begins_with (b ∷ bytes) [] = false
begins_with (b ∷ bytes) (c ∷ text) = c == b && begins_with bytes text

-- the first of these signs that a text begins with
abbrev pub first_sign : List (List ℕ × Token) → List ℕ → Option Piece
first_sign [] text = None
first_sign (sign ∷ more) text = if begins_with sign.0 text then Some (sign_piece sign.0 sign.1) else first_sign more text

-- a byte that ends a word: a blank, or one of `( ) ! = < > & | "`
abbrev pub is_stop : ℕ → Bool
is_stop b =
    is_blank b || b == left_paren || b == right_paren || b == bang || b == equals_sign || b == less_sign || b == greater_sign
    || b == ampersand || b == bar || b == double_quote

-- a text cut before its first byte with a property; if there is none, nothing comes after the cut
abbrev pub cut_before : (ℕ → Bool) → List ℕ → List ℕ × List ℕ
cut_before p [] = ([], [])
cut_before p (b ∷ rest) = if p b then ([], b ∷ rest) else (let cut = cut_before p rest in (b ∷ cut.0, cut.1))

-- a text up to the next double quote, which has to come
abbrev pub quoted_up_to : List ℕ → List ℕ → Option Piece
quoted_up_to text [] = None
quoted_up_to text (quote ∷ rest) = Some (quoted_piece text)

-- the call with this word
abbrev pub call_of : List ℕ → Option Call
call_of word =
    if bytes_eq word (codes "defined") then Some Defined
    else if bytes_eq word (codes "empty") then Some Empty
    else if bytes_eq word (codes "exists") then Some Exists
    else if bytes_eq word (codes "make") then Some Make
    else if bytes_eq word (codes "target") then Some Target
    else None

-- the text up to the parenthesis that closes an earlier one; this many others are open
abbrev pub before_closing : ℕ → List ℕ → Option (List ℕ)
before_closing depth [] = None
before_closing depth (b ∷ rest) =
    if b == left_paren then option_map (λ text. b ∷ text) (before_closing (suc depth) rest)
    else if b == right_paren then (if depth == 0 then Some [] else option_map (λ text. b ∷ text) (before_closing (depth - 1) rest))
    else option_map (λ text. b ∷ text) (before_closing depth rest)

-- A call's word, if blanks and then this text follow it. With a parenthesis next it is a call, whose argument
-- goes up to the parenthesis that closes this one.
abbrev pub call_or_word : Call → List ℕ → List ℕ → List ℕ → Option Piece
call_or_word call word blanks [] = Some (word_piece word)
call_or_word call word blanks (b ∷ rest) =
    if b == left_paren then option_map (call_piece call word blanks) (before_closing 0 rest) else Some (word_piece word)

-- a word that this text follows, or a call, if it is the word of one
abbrev pub word_or_call : List ℕ → List ℕ → Option Call → Option Piece
word_or_call word rest None = Some (word_piece word)
word_or_call word rest (Some call) = let cut = cut_before (λ b. not (is_blank b)) rest in call_or_word call word cut.0 cut.1

-- the same if the word isn't empty
abbrev pub some_word : List ℕ → List ℕ → Option Piece
some_word [] rest = None
some_word (b ∷ word) rest = word_or_call (b ∷ word) rest (call_of (b ∷ word))

-- The piece that a text begins with, if there is one: a blank; a text in quotes; a sign; or a word, up to a
-- byte that ends it.
unfoldable pub first_piece : List ℕ → Option Piece
first_piece [] = None
first_piece (b ∷ rest) =
    if is_blank b then Some (blank_piece b)
    else if b == double_quote then (let cut = cut_before (λ c. c == double_quote) rest in quoted_up_to cut.0 cut.1)
    else option_or (first_sign signs_by_bytes (b ∷ rest)) (let cut = cut_before is_stop (b ∷ rest) in some_word cut.0 cut.1)

-- a piece before those that `more` gives after it
abbrev pub piece_before : (Piece → Option (List Piece)) → Option Piece → Option (List Piece)
piece_before more None = None
piece_before more (Some piece) = option_map (λ pieces. piece ∷ pieces) (more piece)

-- the pieces of a text, if it can be cut into pieces; the number bounds how many there are
unfoldable pub pieces_by : ℕ → List ℕ → Option (List Piece)
pieces_by zero text = None
pieces_by (suc bound) [] = Some []
pieces_by (suc bound) (b ∷ rest) =
    piece_before (λ piece. pieces_by bound (drop (length (spelling piece)) (b ∷ rest))) (first_piece (b ∷ rest))

-- the same with no bound: a text has no more pieces than bytes
abbrev pub condition_pieces : List ℕ → Option (List Piece)
condition_pieces text = pieces_by (suc (length text)) text

-- the place of what is inside a piece, if this many bytes come before the piece
abbrev pub place_inside : ℕ → Piece → Span
place_inside at piece = record { start = at + length piece.before; end = at + length piece.before + length piece.inside }

-- the tokens of pieces, with their places; this many bytes come before the first
unfoldable pub tokens_at : ℕ → List Piece → List Token
tokens_at at [] = []
tokens_at at (piece ∷ pieces) = piece.tokens (place_inside at piece) ++ tokens_at (at + length (spelling piece)) pieces

-- the tokens of a text in which dollars cover the references
abbrev pub tokens_of : List ℕ → Option (List Token)
tokens_of text = option_map (tokens_at 0) (condition_pieces text)
