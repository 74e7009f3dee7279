-- Steps of the scans, at a place of the bytes.
use Rattle.std.proofs.Common.{◌≡◌, ◌<◌, ◌≤◌, ℕ, zero, suc, ◌+◌, ◌-◌, Bool, true, false, not, List, [], ◌∷◌, ◌++◌, length, take, drop}
use Rattle.std.proofs.Common.{get_or, Option, Some, None, option_map, if◌then◌else◌, cond, refl, sym, ap, ◌∙◌, arith, add-one, drop-cons}
use Rattle.std.proofs.Common.{drop-drop, append_assoc}
use Rattle.mk_text.specs.Blanks.{is_blank}
use Rattle.mk_cond_tree.specs.declared.tokens.Call.{Call}
use Rattle.mk_cond_tree.specs.declared.tokens.Side.TheVariants.{Bare}
use Rattle.mk_cond_tree.specs.declared.tokens.Token.{Token}
use Rattle.mk_cond_tree.specs.declared.tokens.Token.TheVariants as t
use Rattle.mk_cond_tree.specs.Tokens.{is_stop, call_of}
use Rattle.mk_cond_tree.specs.Scanner.{begins, first_or_end, closing_place, call_token, blanks_end, word_token, word_at, token_at}
use Rattle.mk_cond_tree.specs.Scanner.{token_before, walk}

pub drop-next : (bytes : List ℕ) (at : ℕ) → at < length bytes → drop at bytes ≡ get_or bytes at 0 ∷ drop (at + 1) bytes
drop-next bytes at room = drop-cons bytes at 0 room ∙ ap (λ n. get_or bytes at 0 ∷ drop n bytes) (sym (add-one at))

pub drop-past : (bytes : List ℕ) (at : ℕ) → length bytes ≤ at → drop at bytes ≡ []
drop-past [] zero room = refl
drop-past [] (suc at) room = refl
drop-past (b ∷ rest) zero room = absurd (omega arith)
drop-past (b ∷ rest) (suc at) room = drop-past rest at (omega arith)

-- a scan ends within the text
pub end-low : (p : ℕ → Bool) (at : ℕ) (text : List ℕ) → at ≤ first_or_end p at text
end-low p at [] = omega arith
end-low p at (b ∷ rest) = elim (p b) as (λ v. at ≤ cond v at (first_or_end p (at + 1) rest))
    [ true ↦ omega arith | false ↦ omega (arith, end-low p (at + 1) rest) ]

-- what there is from a later place on
pub dropped : (bytes : List ℕ) (at n : ℕ) → at ≤ n → drop (n - at) (drop at bytes) ≡ drop n bytes
dropped bytes at n low = drop-drop (n - at) at bytes ∙ ap (λ k. drop k bytes) (omega arith)

-- the token of a word whose end is known, and the place after the blanks that follow it
abbrev pub placed : List ℕ → ℕ → ℕ → ℕ → Option Call → Option (Token × ℕ)
placed bytes at end left None = Some (t.Side (Bare (record { start = at; end = end })), end)
placed bytes at end left (Some call) =
    if begins 40 (drop left bytes) then call_token call (left + 1) (closing_place (left + 1) 0 (drop (left + 1) bytes))
    else Some (t.Side (Bare (record { start = at; end = end })), end)

placed_here : (bytes : List ℕ) (at end left : ℕ) (call : Option Call) → at + 1 ≤ left → word_token at (drop (at + 1) bytes) end left call ≡
    placed bytes at end left call
placed_here bytes at end left None low = refl
placed_here bytes at end left (Some call) low =
    ap (λ l. cond (begins 40 l) (call_token call (left + 1) (closing_place (left + 1) 0 (drop (left + 1 - (at + 1)) (drop (at + 1) bytes))))
    (Some (t.Side (Bare (record { start = at; end = end })), end)))
    (dropped bytes (at + 1) left low)
    ∙ ap (λ l. cond (begins 40 (drop left bytes)) (call_token call (left + 1) (closing_place (left + 1) 0 l))
    (Some (t.Side (Bare (record { start = at; end = end })), end)))
    (dropped bytes (at + 1) (left + 1) (omega arith))

taken : (bytes : List ℕ) (at end : ℕ) → at < length bytes → at + 1 ≤ end → get_or bytes at 0 ∷ take (end - (at + 1)) (drop (at + 1) bytes) ≡
    take (end - at) (drop at bytes)
taken bytes at end room low =
    let more : end - at ≡ suc (end - (at + 1)) = omega arith in
    sym (ap (λ n. take n (drop at bytes)) more ∙ ap (take (suc (end - (at + 1)))) (drop-next bytes at room))

pub word-is : (bytes : List ℕ) (at end left : ℕ) (call : Option Call) → at < length bytes
    → end ≡ first_or_end is_stop (at + 1) (drop (at + 1) bytes)
    → left ≡ blanks_end end (drop end bytes) → call ≡ call_of (take (end - at) (drop at bytes))
    → placed bytes at end left call ≡ word_at at (get_or bytes at 0) (drop (at + 1) bytes)
word-is bytes at end left call room end_is left_is call_is =
    let low : at + 1 ≤ end = omega (arith, end-low is_stop (at + 1) (drop (at + 1) bytes)) in
    let low_left : end ≤ left = omega (arith, end-low (λ b. not (is_blank b)) end (drop end bytes)) in
    let rest : List ℕ = drop (at + 1) bytes in
    sym (placed_here bytes at end left call (omega arith))
    ∙ ap (λ l. word_token at rest end l call) (left_is ∙ ap (blanks_end end) (sym (dropped bytes (at + 1) end low)))
    ∙ ap (λ o. word_token at rest end (blanks_end end (drop (end - (at + 1)) rest)) o)
    (call_is ∙ ap call_of (sym (taken bytes at end room low)))
    ∙ ap (λ e. word_token at rest e (blanks_end e (drop (e - (at + 1)) rest)) (call_of (get_or bytes at 0 ∷ take (e - (at + 1)) rest)))
    end_is

pub placed-bare : (bytes : List ℕ) (at end left : ℕ) (call : Call) → false ≡ begins 40 (drop left bytes)
    → Some (t.Side (Bare (record { start = at; end = end })), end) ≡ placed bytes at end left (Some call)
placed-bare bytes at end left call is =
    ap (λ v. cond v (call_token call (left + 1) (closing_place (left + 1) 0 (drop (left + 1) bytes)))
    (Some (t.Side (Bare (record { start = at; end = end })), end))) is

pub placed-call : (bytes : List ℕ) (at end left : ℕ) (call : Call) (close : Option ℕ) → true ≡ begins 40 (drop left bytes)
    → close ≡ closing_place (left + 1) 0 (drop (left + 1) bytes)
    → call_token call (left + 1) close ≡ placed bytes at end left (Some call)
placed-call bytes at end left call close is close_is =
    ap (call_token call (left + 1)) close_is
    ∙ ap (λ v. cond v (call_token call (left + 1) (closing_place (left + 1) 0 (drop (left + 1) bytes)))
    (Some (t.Side (Bare (record { start = at; end = end })), end))) is

-- steps of the walk
pub walk_passes : (at skipped : ℕ) (text : List ℕ) → walk at skipped text ≡ walk (at + skipped) 0 (drop skipped text)
unfolding walk
walk_passes at zero [] = refl
walk_passes at (suc skipped) [] = refl
walk_passes at zero (b ∷ rest) = ap (λ n. walk n 0 (b ∷ rest)) (omega arith)
walk_passes at (suc skipped) (b ∷ rest) = walk_passes (at + 1) skipped rest ∙ ap (λ n. walk n 0 (drop skipped rest)) (omega arith)

walk_cons : (at b : ℕ) (rest : List ℕ)
    → walk at 0 (b ∷ rest) ≡ cond (is_blank b) (walk (at + 1) 0 rest)
    (token_before (λ end. walk (at + 1) (end - (at + 1)) rest) (token_at at b rest))
unfolding walk
walk_cons at b rest = refl

walk_here : (bytes : List ℕ) (at : ℕ) (blank : Bool) → at < length bytes → blank ≡ is_blank (get_or bytes at 0)
    → walk at 0 (drop at bytes)
    ≡ cond blank (walk (at + 1) 0 (drop (at + 1) bytes)) (token_before (λ end. walk (at + 1) (end - (at + 1)) (drop (at + 1) bytes))
    (token_at at (get_or bytes at 0) (drop (at + 1) bytes)))
walk_here bytes at blank room is =
    ap (walk at 0) (drop-next bytes at room) ∙ walk_cons at (get_or bytes at 0) (drop (at + 1) bytes)
    ∙ ap (λ v. cond v (walk (at + 1) 0 (drop (at + 1) bytes)) (token_before (λ end. walk (at + 1) (end - (at + 1)) (drop (at + 1) bytes))
    (token_at at (get_or bytes at 0) (drop (at + 1) bytes)))) (sym is)

pub walk-blank : (bytes : List ℕ) (at : ℕ) → at < length bytes → true ≡ is_blank (get_or bytes at 0) → walk (at + 1) 0 (drop (at + 1) bytes)
    ≡ walk at 0 (drop at bytes)
walk-blank bytes at room is = sym (walk_here bytes at true room is)

pub walk-token : (bytes : List ℕ) (at : ℕ) (token : Token) (end : ℕ) → at < length bytes → false ≡ is_blank (get_or bytes at 0)
    → Some (token, end) ≡ token_at at (get_or bytes at 0) (drop (at + 1) bytes) → at < end
    → option_map (λ tokens. token ∷ tokens) (walk end 0 (drop end bytes)) ≡ walk at 0 (drop at bytes)
walk-token bytes at token end room is token_is later =
    let passed : at + 1 + (end - (at + 1)) ≡ end = omega arith in
    sym (walk_here bytes at false room is ∙ ap (token_before (λ e. walk (at + 1) (e - (at + 1)) (drop (at + 1) bytes))) (sym token_is)
    ∙ ap (option_map (λ tokens. token ∷ tokens)) (walk_passes (at + 1) (end - (at + 1)) (drop (at + 1) bytes)
    ∙ ap (λ l. walk (at + 1 + (end - (at + 1))) 0 l) (dropped bytes (at + 1) end (omega arith))
    ∙ ap (λ n. walk n 0 (drop end bytes)) passed))

pub walk-refused : (bytes : List ℕ) (at : ℕ) → at < length bytes → false ≡ is_blank (get_or bytes at 0)
    → None ≡ token_at at (get_or bytes at 0) (drop (at + 1) bytes) → walk at 0 (drop at bytes) ≡ None
walk-refused bytes at room is token_is =
    walk_here bytes at false room is ∙ ap (token_before (λ e. walk (at + 1) (e - (at + 1)) (drop (at + 1) bytes))) (sym token_is)

walk_nil : (at : ℕ) → walk at 0 [] ≡ Some []
unfolding walk
walk_nil at = refl

pub walk-done : (bytes : List ℕ) (at : ℕ) → length bytes ≤ at → walk at 0 (drop at bytes) ≡ Some []
walk-done bytes at room = ap (walk at 0) (drop-past bytes at room) ∙ walk_nil at

pub token-added : (found : List Token) (token : Token) (later : Option (List Token))
    → option_map (λ tokens. (found ++ token ∷ []) ++ tokens) later ≡ option_map (λ tokens. found ++ tokens)
    (option_map (λ tokens. token ∷ tokens) later)
token-added found token None = refl
token-added found token (Some tokens) = ap Some (append_assoc found (token ∷ []) tokens)
