-- Looking for the mark at which a text is cut, from place to place.
use Rattle.std.proofs.Common.{◌≡◌, ◌==◌, ◌+◌, ◌<◌, ◌≤◌, ℕ, Bool, true, false, ◌&&◌, List, [], ◌∷◌, ◌++◌, length, take, drop, get_or, Option}
use Rattle.std.proofs.Common.{Some, None, sym, ap, refl, ◌∙◌, append-nil}
use Rattle.std.proofs.lemmas.List.{append_assoc, drop_more, at_drop_all, take_more}
use Rattle.std.specs.Option.{option_map}
use Rattle.text_parts.specs.Cuts.{Cut, cut_where, cut_at}

-- a cut of what follows a front
abbrev pub shifted : List ℕ → Option Cut → Option Cut
shifted front cut = option_map (λ (cut : Cut). record { before = front ++ cut.before; behind = cut.behind }) cut

pub shifted-none : (cut : Option Cut) → shifted [] cut ≡ cut
shifted-none None = refl
shifted-none (Some cut) = refl

shifted-more : (front : List ℕ) (byte : ℕ) (cut : Option Cut) → shifted front (shifted (byte ∷ []) cut) ≡ shifted (front ++ byte ∷ []) cut
shifted-more front byte None = refl
shifted-more front byte (Some cut) = ap (λ before. Some (record { before = before; behind = cut.behind }))
    (sym (append_assoc front (byte ∷ []) cut.before))

on : (mark : ℕ) (test : List ℕ → Bool) (byte : ℕ) (rest : List ℕ) → (byte == mark && test rest) ≡ false
    → cut_where mark test (byte ∷ rest) ≡ shifted (byte ∷ []) (cut_where mark test rest)
unfolding cut_where
on mark test byte rest other = rw other refl

here : (mark : ℕ) (test : List ℕ → Bool) (byte : ℕ) (rest : List ℕ) → (byte == mark && test rest) ≡ true
    → cut_where mark test (byte ∷ rest) ≡ Some (record { before = []; behind = rest })
unfolding cut_where
here mark test byte rest such = rw such refl

nowhere : (mark : ℕ) (test : List ℕ → Bool) → cut_where mark test [] ≡ None
unfolding cut_where
nowhere mark test = refl

-- what is found from a place on
abbrev pub from_here : ℕ → (List ℕ → Bool) → List ℕ → ℕ → Option Cut
from_here mark test text at = shifted (take at text) (cut_where mark test (drop at text))

-- the text is cut at this place
abbrev pub is_cut_at : ℕ → (List ℕ → Bool) → List ℕ → ℕ → Bool
is_cut_at mark test text at = get_or text at 0 == mark && test (drop (at + 1) text)

-- where it isn't, it may be cut further on
pub from_here-on : (mark : ℕ) (test : List ℕ → Bool) (text : List ℕ) (at : ℕ) → at < length text → is_cut_at mark test text at ≡ false
    → from_here mark test text at ≡ from_here mark test text (at + 1)
from_here-on mark test text at inside other =
    let behind = drop (at + 1) text in
    ap (λ rest. shifted (take at text) (cut_where mark test rest)) (drop_more text at 0 inside)
    ∙ ap (shifted (take at text)) (on mark test (get_or text at 0) behind other)
    ∙ shifted-more (take at text) (get_or text at 0) (cut_where mark test behind)
    ∙ ap (λ front. shifted front (cut_where mark test behind)) (sym (take_more text at 0 inside))

-- where it is, this is the cut
pub from_here-found : (mark : ℕ) (test : List ℕ → Bool) (text : List ℕ) (at : ℕ) → at < length text → is_cut_at mark test text at ≡ true
    → from_here mark test text at ≡ Some (cut_at text at)
from_here-found mark test text at inside such =
    let behind = drop (at + 1) text in
    ap (λ rest. shifted (take at text) (cut_where mark test rest)) (drop_more text at 0 inside)
    ∙ ap (shifted (take at text)) (here mark test (get_or text at 0) behind such)
    ∙ ap (λ before. Some (record { before = before; behind = behind })) (append-nil (take at text))

-- at the end nothing is found
pub from_here-end : (mark : ℕ) (test : List ℕ → Bool) (text : List ℕ) (at : ℕ) → length text ≤ at → from_here mark test text at ≡ None
from_here-end mark test text at past =
    at_drop_all (λ rest. shifted (take at text) (cut_where mark test rest)) text at past ∙ ap (shifted (take at text)) (nowhere mark test)
