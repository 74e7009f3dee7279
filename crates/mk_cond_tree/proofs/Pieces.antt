-- The tokens that the code finds by places are those of the pieces of the text.
use Rattle.std.proofs.Common.{◌≡◌, inl, inr, ◌<◌, ◌==◌, ℕ, zero, suc, ◌+◌, ◌-◌, Bool, true, false, not, List, [], ◌∷◌, ◌++◌, length, take}
use Rattle.std.proofs.Common.{drop, Option, Some, None, option_map, cond, refl, sym, ap, subst, ◌∙◌, arith, drop-drop, append_assoc}
use Rattle.std.proofs.Common.{length-append, length-drop}
use Rattle.std.proofs.lemmas.Bool.Decides.{eqb_tells}
use Rattle.std.proofs.Math.Seq.{take-append_seam, drop-append_seam}
use Rattle.std.specs.Option.{option_or}
use Rattle.mk_text.specs.Blanks.{is_blank}
use Rattle.mk_cond_tree.specs.declared.tokens.Call.{Call}
use Rattle.mk_cond_tree.specs.declared.tokens.Side.TheVariants.{Bare}
use Rattle.mk_cond_tree.specs.declared.tokens.Token.{Token}
use Rattle.mk_cond_tree.specs.declared.tokens.Token.TheVariants as t
use Rattle.mk_cond_tree.specs.Tokens.{Piece, spelling, blank_piece, sign_piece, word_piece, call_piece, begins_with, is_stop, cut_before}
use Rattle.mk_cond_tree.specs.Tokens.{quoted_up_to, call_of, before_closing, call_or_word, word_or_call, first_piece, piece_before}
use Rattle.mk_cond_tree.specs.Tokens.{pieces_by, place_inside, tokens_at, tokens_of}
use Rattle.mk_cond_tree.specs.Scanner.{begins, place_of_first, first_or_end, closing_place, quoted_side, call_token, blanks_end, word_token}
use Rattle.mk_cond_tree.specs.Scanner.{word_at, sign_of_two_or_one, sign_of_two, token_at, token_before, walk}
use Rattle.mk_cond_tree.proofs.Scans.{walk_passes}

-- a token at a place, with the place after it, is that of a piece there
abbrev SamePiece : ℕ → Option (Token × ℕ) → Option Piece → Type 0
SamePiece at None None = Unit {0}
SamePiece at None (Some piece) = ⊥
SamePiece at (Some found) None = ⊥
SamePiece at (Some found) (Some piece) =
    (piece.tokens (place_inside at piece) ≡ found.0 ∷ []) × (found.1 ≡ at + length (spelling piece)) × (0 < length (spelling piece))

-- a cut loses nothing
cut_whole : (p : ℕ → Bool) (text : List ℕ) → (cut_before p text).0 ++ (cut_before p text).1 ≡ text
cut_whole p [] = refl
cut_whole p (b ∷ rest) =
    let parts : Bool → List ℕ × List ℕ = λ v. cond v ([], b ∷ rest) (b ∷ (cut_before p rest).0, (cut_before p rest).1) in
    elim (p b) as (λ v. (parts v).0 ++ (parts v).1 ≡ b ∷ rest) [ true ↦ refl | false ↦ ap (λ l. b ∷ l) (cut_whole p rest) ]

-- where a scan ends, by the text before its end
cut_end : (p : ℕ → Bool) (at : ℕ) (text : List ℕ) → first_or_end p at text ≡ at + length (cut_before p text).0
cut_end p at [] = omega arith
cut_end p at (b ∷ rest) =
    let parts : Bool → List ℕ × List ℕ = λ v. cond v ([], b ∷ rest) (b ∷ (cut_before p rest).0, (cut_before p rest).1) in
    elim (p b) as (λ v. cond v at (first_or_end p (at + 1) rest) ≡ at + length (parts v).0)
    [ true ↦ omega arith | false ↦ omega (arith, cut_end p (at + 1) rest) ]

-- the place of a cut, if something comes after it
abbrev place_of_cut : ℕ → List ℕ → List ℕ → Option ℕ
place_of_cut at front [] = None
place_of_cut at front (b ∷ rest) = Some (at + length front)

place_on : (at b : ℕ) (front rest : List ℕ) → place_of_cut (at + 1) front rest ≡ place_of_cut at (b ∷ front) rest
place_on at b front [] = refl
place_on at b front (c ∷ rest) = ap Some (omega arith)

cut_place : (p : ℕ → Bool) (at : ℕ) (text : List ℕ) → place_of_first p at text ≡ place_of_cut at (cut_before p text).0 (cut_before p text).1
cut_place p at [] = refl
cut_place p at (b ∷ rest) =
    let parts : Bool → List ℕ × List ℕ = λ v. cond v ([], b ∷ rest) (b ∷ (cut_before p rest).0, (cut_before p rest).1) in
    elim (p b) as (λ v. cond v (Some at) (place_of_first p (at + 1) rest) ≡ place_of_cut at (parts v).0 (parts v).1) [
      | true ↦ ap Some (omega arith)
      | false ↦ cut_place p (at + 1) rest ∙ place_on at b (cut_before p rest).0 (cut_before p rest).1
    ]

-- the parenthesis that closes an earlier one
one_longer : (at b : ℕ) (more : Option (List ℕ)) → option_map (λ a. at + 1 + length a) more ≡ option_map (λ a. at + length a)
    (option_map (λ a. b ∷ a) more)
one_longer at b None = refl
one_longer at b (Some a) = ap Some (omega arith)

closing_at : (at depth : ℕ) (text : List ℕ) → closing_place at depth text ≡ option_map (λ a. at + length a) (before_closing depth text)
closing_at at depth [] = refl
closing_at at depth (b ∷ rest) =
    elim (eqb_tells b 40) [
      | inl left ↦ rw left.0 (closing_at (at + 1) (suc depth) rest ∙ one_longer at b (before_closing (suc depth) rest))
      | inr other ↦ rw other.0 (elim (eqb_tells b 41) [
        | inl right ↦ rw right.0 (elim (eqb_tells depth 0) [
          | inl none ↦ rw none.0 (ap Some (omega arith))
          | inr some ↦ rw some.0 (closing_at (at + 1) (depth - 1) rest ∙ one_longer at b (before_closing (depth - 1) rest))
        ])
        | inr plain ↦ rw plain.0 (closing_at (at + 1) depth rest ∙ one_longer at b (before_closing depth rest))
      ])
    ]

same_quoted : (at : ℕ) (front rest : List ℕ) → SamePiece at (quoted_side (at + 1) (place_of_cut (at + 1) front rest))
    (quoted_up_to front rest)
same_quoted at front [] = tt
same_quoted at front (b ∷ rest) = (refl, omega (arith, length-append front (34 ∷ [])), omega arith)

-- a sign of two bytes, or of one; `other` isn't looked at
same_sign : (at first second : ℕ) (two one : Token) (other : Option Piece) (rest : List ℕ)
    → SamePiece at (sign_of_two_or_one at (begins second rest) two one)
    (option_or (cond (begins_with (second ∷ []) rest) (Some (sign_piece (first ∷ second ∷ []) two)) (Some (sign_piece (first ∷ []) one)))
    other)
same_sign at first second two one other [] = (refl, refl, omega arith)
same_sign at first second two one other (c ∷ rest) =
    elim (eqb_tells c second) [ inl is ↦ rw is.0 (refl, refl, omega arith) | inr other ↦ rw other.0 (refl, refl, omega arith) ]

-- a sign that has two bytes
same_pair : (at first second : ℕ) (two : Token) (rest : List ℕ)
    → SamePiece at (sign_of_two at (begins second rest) two)
    (option_or (cond (begins_with (second ∷ []) rest) (Some (sign_piece (first ∷ second ∷ []) two)) None) None)
same_pair at first second two [] = tt
same_pair at first second two (c ∷ rest) = elim (eqb_tells c second)
    [ inl is ↦ rw is.0 (refl, refl, omega arith) | inr other ↦ rw other.0 tt ]

-- a word
same_bare : (at b : ℕ) (word : List ℕ) (end : ℕ) → end ≡ at + 1 + length word
    → SamePiece at (Some (t.Side (Bare (record { start = at; end = end })), end)) (Some (word_piece (b ∷ word)))
same_bare at b word end is = (
  ap (λ s. t.Side (Bare (record { start = s; end = s + suc (length word) })) ∷ []) (let e : at + 0 ≡ at = omega arith in e)
      ∙ ap (λ e. t.Side (Bare (record { start = at; end = e })) ∷ []) (let e : at + suc (length word) ≡ end = omega (arith, is) in e),
  omega (arith, is, length-append word []),
  omega arith,
)

-- a call, if its parenthesis closes
same_call : (at b : ℕ) (word blanks : List ℕ) (left : ℕ) (call : Call) (argument : Option (List ℕ))
    → left ≡ at + 1 + length word + length blanks
    → SamePiece at (call_token call (left + 1) (option_map (λ a. left + 1 + length a) argument))
    (option_map (call_piece call (b ∷ word) blanks) argument)
same_call at b word blanks left call None is = tt
same_call at b word blanks left call (Some a) is =
    let front = word ++ blanks ++ 40 ∷ [] in
    let before : length front ≡ length word + length blanks + 1 =
    omega (arith, length-append (word ++ blanks) (40 ∷ []), length-append word blanks) in
    let start : at + suc (length front) ≡ left + 1 = omega (arith, before, is) in (
      ap (λ s. t.Call call (record { start = s; end = s + length a }) ∷ []) start,
      omega (arith, before, is, length-append (front ++ a) (41 ∷ []), length-append front a),
      omega arith,
    )

same_called : (at b : ℕ) (word blanks behind : List ℕ) (end left : ℕ) (call : Call) → end ≡ at + 1 + length word
    → left ≡ at + 1 + length word + length blanks
    → SamePiece at
    (cond (begins 40 behind) (call_token call (left + 1) (closing_place (left + 1) 0 (drop 1 behind)))
    (Some (t.Side (Bare (record { start = at; end = end })), end)))
    (call_or_word call (b ∷ word) blanks behind)
same_called at b word blanks [] end left call end_is left_is = same_bare at b word end end_is
same_called at b word blanks (c ∷ rest) end left call end_is left_is =
    elim (eqb_tells c 40) [
      | inl is ↦ rw is.0 (subst (λ o. SamePiece at (call_token call (left + 1) o)
          (option_map (call_piece call (b ∷ word) blanks) (before_closing 0 rest)))
          (sym (closing_at (left + 1) 0 rest)) (same_call at b word blanks left call (before_closing 0 rest) left_is))
      | inr other ↦ rw other.0 (same_bare at b word end end_is)
    ]

-- a word or a call, in a text that goes on like this after the first byte of the word
same_word : (at b : ℕ) (word behind rest : List ℕ) (end : ℕ) (call : Option Call) → rest ≡ word ++ behind → end ≡ at + 1 + length word
    → SamePiece at (word_token at rest end (blanks_end end behind) call) (word_or_call (b ∷ word) behind call)
same_word at b word behind rest end None whole end_is = same_bare at b word end end_is
same_word at b word behind rest end (Some call) whole end_is =
    let blanks = (cut_before (λ c. not (is_blank c)) behind).0 in
    let after = (cut_before (λ c. not (is_blank c)) behind).1 in
    let left = blanks_end end behind in
    let left_is : left ≡ at + 1 + length word + length blanks = omega (arith, end_is, cut_end (λ c. not (is_blank c)) end behind) in
    let parts : rest ≡ (word ++ blanks) ++ after =
    whole ∙ ap (λ l. word ++ l) (sym (cut_whole (λ c. not (is_blank c)) behind)) ∙ sym (append_assoc word blanks after) in
    let front : left - (at + 1) ≡ length (word ++ blanks) = omega (arith, left_is, length-append word blanks) in
    let there : drop (left - (at + 1)) rest ≡ after = ap (λ n. drop n rest) front ∙ ap (drop (length (word ++ blanks))) parts
    ∙ drop-append_seam (word ++ blanks) after in
    let more : left + 1 - (at + 1) ≡ left - (at + 1) + 1 = omega (arith, left_is) in
    let beyond : drop (left + 1 - (at + 1)) rest ≡ drop 1 after = ap (λ n. drop n rest) more
    ∙ sym (drop-drop 1 (left - (at + 1)) rest) ∙ ap (drop 1) there in
    let bare = Some (t.Side (Bare (record { start = at; end = end })), end) in
    subst (λ l. SamePiece at (cond (begins 40 l) (call_token call (left + 1) (closing_place (left + 1) 0 (drop (left + 1 - (at + 1)) rest)))
    bare) (call_or_word call (b ∷ word) blanks after)) (sym there)
    (subst (λ l. SamePiece at (cond (begins 40 after) (call_token call (left + 1) (closing_place (left + 1) 0 l)) bare)
    (call_or_word call (b ∷ word) blanks after)) (sym beyond)
    (same_called at b word blanks after end left call end_is left_is))

same_word_at : (at b : ℕ) (rest : List ℕ)
    → SamePiece at (word_at at b rest) (word_or_call (b ∷ (cut_before is_stop rest).0) (cut_before is_stop rest).1
    (call_of (b ∷ (cut_before is_stop rest).0)))
same_word_at at b rest =
    let word = (cut_before is_stop rest).0 in
    let behind = (cut_before is_stop rest).1 in
    let end = first_or_end is_stop (at + 1) rest in
    let whole : rest ≡ word ++ behind = sym (cut_whole is_stop rest) in
    let end_is : end ≡ at + 1 + length word = cut_end is_stop (at + 1) rest in
    let size : end - (at + 1) ≡ length word = omega (arith, end_is) in
    let taken : take (end - (at + 1)) rest ≡ word = ap (λ n. take n rest) size ∙ ap (take (length word)) whole
    ∙ take-append_seam word behind in
    let dropped : drop (end - (at + 1)) rest ≡ behind = ap (λ n. drop n rest) size ∙ ap (drop (length word)) whole
    ∙ drop-append_seam word behind in
    let piece = word_or_call (b ∷ word) behind (call_of (b ∷ word)) in
    subst (λ l. SamePiece at (word_token at rest end (blanks_end end (drop (end - (at + 1)) rest)) (call_of (b ∷ l))) piece) (sym taken)
    (subst (λ l. SamePiece at (word_token at rest end (blanks_end end l) (call_of (b ∷ word))) piece) (sym dropped)
    (same_word at b word behind rest end (call_of (b ∷ word)) whole end_is))

-- the token that begins with a byte, and the piece that does
abbrev SameAt : ℕ → List ℕ → ℕ → Type 0
SameAt at rest b = SamePiece at (token_at at b rest) (first_piece (b ∷ rest))

same-token : (at b : ℕ) (rest : List ℕ) → is_blank b ≡ false → SameAt at rest b
unfolding token_at first_piece
same-token at b rest blank =
    elim (eqb_tells b 40) [
      | inl is ↦ subst (SameAt at rest) (sym is.1) (refl, refl, omega arith)
      | inr no40 ↦ elim (eqb_tells b 41) [
        | inl is ↦ subst (SameAt at rest) (sym is.1) (refl, refl, omega arith)
        | inr no41 ↦ elim (eqb_tells b 33) [
          | inl is ↦ subst (SameAt at rest) (sym is.1) (same_sign at 33 61 _ _ _ rest)
          | inr no33 ↦ elim (eqb_tells b 60) [
            | inl is ↦ subst (SameAt at rest) (sym is.1) (same_sign at 60 61 _ _ _ rest)
            | inr no60 ↦ elim (eqb_tells b 62) [
              | inl is ↦ subst (SameAt at rest) (sym is.1) (same_sign at 62 61 _ _ _ rest)
              | inr no62 ↦ elim (eqb_tells b 61) [
                | inl is ↦ subst (SameAt at rest) (sym is.1) (same_pair at 61 61 _ rest)
                | inr no61 ↦ elim (eqb_tells b 38) [
                  | inl is ↦ subst (SameAt at rest) (sym is.1) (same_pair at 38 38 _ rest)
                  | inr no38 ↦ elim (eqb_tells b 124) [
                    | inl is ↦ subst (SameAt at rest) (sym is.1) (same_pair at 124 124 _ rest)
                    | inr no124 ↦ elim (eqb_tells b 34) [
                      | inl is ↦ subst (SameAt at rest) (sym is.1)
                          (subst (λ o. SamePiece at (quoted_side (at + 1) o)
                          (quoted_up_to (cut_before (λ c. c == 34) rest).0 (cut_before (λ c. c == 34) rest).1))
                          (sym (cut_place (λ c. c == 34) (at + 1) rest))
                          (same_quoted at (cut_before (λ c. c == 34) rest).0 (cut_before (λ c. c == 34) rest).1))
                      | inr no34 ↦ rw (blank, no40.0, no41.0, no33.0, no60.0, no62.0, no61.0, no38.0, no124.0, no34.0)
                          (same_word_at at b rest)
                    ]
                  ]
                ]
              ]
            ]
          ]
        ]
      ]
    ]

blank-first : (b : ℕ) (rest : List ℕ) → is_blank b ≡ true → first_piece (b ∷ rest) ≡ Some (blank_piece b)
unfolding first_piece
blank-first b rest is = rw is refl

-- one piece before others
put_blank : (at b : ℕ) (pieces : Option (List Piece)) → option_map (tokens_at (at + 1)) pieces ≡ option_map (tokens_at at)
    (option_map (λ l. blank_piece b ∷ l) pieces)
unfolding tokens_at
put_blank at b None = refl
put_blank at b (Some pieces) = refl

put_token : (at : ℕ) (token : Token) (piece : Piece) (pieces : Option (List Piece)) → piece.tokens (place_inside at piece) ≡ token ∷ []
    → option_map (λ l. token ∷ l) (option_map (tokens_at (at + length (spelling piece))) pieces) ≡ option_map (tokens_at at)
    (option_map (λ l. piece ∷ l) pieces)
unfolding tokens_at
put_token at token piece None is = refl
put_token at token piece (Some pieces) is = ap (λ l. Some (l ++ tokens_at (at + length (spelling piece)) pieces)) (sym is)

-- The walk from a place gives the tokens of the pieces from there. `bound` is more than enough for them.
abbrev WalksPieces : ℕ → ℕ → List ℕ → Type 0
WalksPieces bound at text = walk at 0 text ≡ option_map (tokens_at at) (pieces_by bound text)

walks-nothing : (bound at : ℕ) → WalksPieces (suc bound) at []
unfolding walk pieces_by tokens_at
walks-nothing bound at = refl

walk_on : (bound at b : ℕ) (rest : List ℕ) (found : Option (Token × ℕ)) (piece : Option Piece)
    → SamePiece at found piece → length rest < bound
    → ((at' : ℕ) (text : List ℕ) → length text < bound → WalksPieces bound at' text)
    → token_before (λ end. walk (at + 1) (end - (at + 1)) rest) found
    ≡ option_map (tokens_at at) (piece_before (λ p. pieces_by bound (drop (length (spelling p)) (b ∷ rest))) piece)
walk_on bound at b rest None None same low each = refl
walk_on bound at b rest None (Some piece) same low each = absurd same
walk_on bound at b rest (Some found) None same low each = absurd same
walk_on bound at b rest (Some found) (Some piece) same low each =
    let size = length (spelling piece) in
    let passed = found.1 - (at + 1) in
    let one : suc passed ≡ size = omega (arith, same.1, same.2) in
    let there : at + 1 + passed ≡ at + size = omega (arith, one) in
    let left : drop passed rest ≡ drop size (b ∷ rest) = ap (λ n. drop n (b ∷ rest)) one in
    let low' : length (drop size (b ∷ rest)) < bound = omega (arith, length-drop size (b ∷ rest), low, same.2) in
    ap (option_map (λ tokens. found.0 ∷ tokens))
    (walk_passes (at + 1) passed rest ∙ ap (λ n. walk n 0 (drop passed rest)) there ∙ ap (walk (at + size) 0) left
    ∙ each (at + size) (drop size (b ∷ rest)) low')
    ∙ put_token at found.0 piece (pieces_by bound (drop size (b ∷ rest))) same.0

walk-pieces : (bound at : ℕ) (text : List ℕ) → length text < bound → WalksPieces bound at text
unfolding walk pieces_by
walk-pieces zero at text low = absurd (omega (arith, low))
walk-pieces (suc bound) at [] low = walks-nothing bound at
walk-pieces (suc bound) at (b ∷ rest) low =
    let more : Piece → Option (List Piece) = λ p. pieces_by bound (drop (length (spelling p)) (b ∷ rest)) in
    let pieces = option_map (tokens_at at) (piece_before more (first_piece (b ∷ rest))) in
    let walked : Bool → Option (List Token) = λ v. cond v (walk (at + 1) 0 rest) (token_before (λ end. walk (at + 1) (end - (at + 1)) rest)
    (token_at at b rest)) in
    let cases : (v : Bool) → is_blank b ≡ v → walked v ≡ pieces =
    λ v. elim v as (λ v. is_blank b ≡ v → walked v ≡ pieces) [
      | true ↦ λ is.
          walk-pieces bound (at + 1) rest (omega (arith, low)) ∙ put_blank at b (pieces_by bound rest)
          ∙ ap (λ p. option_map (tokens_at at) (piece_before more p)) (sym (blank-first b rest is))
      | false ↦ λ is. walk_on bound at b rest (token_at at b rest) (first_piece (b ∷ rest)) (same-token at b rest is)
          (omega (arith, low)) (walk-pieces bound)
    ] in
    cases (is_blank b) refl

pub walk-tokens : (text : List ℕ) → walk 0 0 text ≡ tokens_of text
walk-tokens text = walk-pieces (suc (length text)) 0 text (omega arith)
