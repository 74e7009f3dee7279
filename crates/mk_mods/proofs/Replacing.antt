-- Old texts in words, and new ones in their place.
use Rattle.std.proofs.Common.{◌≡◌, ◌≢◌, ℕ, zero, ◌-◌, ◌+◌, ◌<◌, Bool, true, false, eqb, List, [], ◌∷◌, ◌++◌, length, take, drop, Option}
use Rattle.std.proofs.Common.{Some, None, option_map, MatchOption, Bor, IsUtf8, refl, sym, ap, subst, ◌∙◌, arith, length-append, take_at}
use Rattle.std.proofs.Common.{drop_at, take-append-drop}
use Rattle.std.specs.List.{starts_with, ends_with}
use Rattle.std.specs.Cmp.Lexicographic.{pointwise}
use Rattle.std.specs.Str.Pattern.{FindsText, FindsTextPrefix, FindsTextSuffix, SplitsAroundMatch, StripsPrefix, StripsSuffix}
use Rattle.std.proofs.lemmas.Bool.{cond-true, cond-false, true≢false}
use Rattle.std.proofs.lemmas.Slice.Eq.{bytes_eq-Decides}
use Rattle.std.proofs.lemmas.Str.{IsUtf8-drop}
use Rattle.std.proofs.lemmas.Str.Pattern.{starts_text, ends_text}
use Rattle.mk_mods.specs.Actions.{Replacement}
use Rattle.mk_mods.specs.WordChanges.{with_suffix}
use Rattle.mk_mods.specs.Places.{IsNowhere, FirstCut}
use Rattle.mk_mods.specs.Substituted.{first_replaced, all_replaced, somewhere_replaced, replaced}

pub starts-append : (old rest : List ℕ) → starts_with eqb (old ++ rest) old ≡ true
starts-append old rest = ap (pointwise eqb old) (take_at old rest (length old) refl) ∙ (bytes_eq-Decides old old).1 refl

pub starts-lacks : (old text : List ℕ) → ((rest : List ℕ) → text ≢ old ++ rest) → starts_with eqb text old ≡ false
starts-lacks old text none = sym (starts_text false old text none)

pub ends-append : (front old : List ℕ) → ends_with eqb (front ++ old) old ≡ true
ends-append front old =
    ap (pointwise eqb old) (drop_at front old (length (front ++ old) - length old) (omega (arith, length-append front old)))
    ∙ (bytes_eq-Decides old old).1 refl

pub ends-lacks : (old text : List ℕ) → ((front : List ℕ) → text ≢ front ++ old) → ends_with eqb text old ≡ false
ends-lacks old text none = sym (ends_text false old text none)

pub first_replaced-none : (old new word : List ℕ) → IsNowhere old word → first_replaced old new word ≡ None
first_replaced-none old new [] none = refl
first_replaced-none old new (b ∷ rest) none =
    cond-false (starts_with eqb (b ∷ rest) old) (Some (new ++ drop (length old) (b ∷ rest)))
    (option_map (λ made. b ∷ made) (first_replaced old new rest))
    (starts-lacks old (b ∷ rest) (λ behind e. none [] behind e))
    ∙ ap (option_map (λ made. b ∷ made)) (first_replaced-none old new rest (λ front behind e. none (b ∷ front) behind (ap (λ l. b ∷ l) e)))

pub all_replaced-none : (old new word : List ℕ) → IsNowhere old word → all_replaced old new zero word ≡ word
all_replaced-none old new [] none = refl
all_replaced-none old new (b ∷ rest) none =
    cond-false (starts_with eqb (b ∷ rest) old) (new ++ all_replaced old new (length old - 1) rest) (b ∷ all_replaced old new zero rest)
    (starts-lacks old (b ∷ rest) (λ behind e. none [] behind e))
    ∙ ap (λ l. b ∷ l) (all_replaced-none old new rest (λ front behind e. none (b ∷ front) behind (ap (λ l. b ∷ l) e)))

-- no earlier place in what follows the first byte
abbrev Least : List ℕ → List ℕ → List ℕ → Type 0
Least old word front = (f b : List ℕ) → length f < length front → word ≢ f ++ (old ++ b)

least-later : (old : List ℕ) (x : ℕ) (word front : List ℕ) → Least old (x ∷ word) (x ∷ front) → Least old word front
least-later old x word front least = λ f b l e. least (x ∷ f) b (omega arith) (ap (λ l. x ∷ l) e)

least-first : (old : List ℕ) (x : ℕ) (word front : List ℕ) → Least old (x ∷ word) (x ∷ front) → starts_with eqb (x ∷ word) old ≡ false
least-first old x word front least = starts-lacks old (x ∷ word) (λ behind e. least [] behind (omega arith) e)

first_replaced-at : (o : ℕ) (old new front behind : List ℕ) → Least (o ∷ old) (front ++ ((o ∷ old) ++ behind)) front
    → first_replaced (o ∷ old) new (front ++ ((o ∷ old) ++ behind)) ≡ Some (front ++ (new ++ behind))
first_replaced-at o old new [] behind least =
    cond-true (starts_with eqb ((o ∷ old) ++ behind) (o ∷ old)) (Some (new ++ drop (length (o ∷ old)) ((o ∷ old) ++ behind)))
    (option_map (λ made. o ∷ made) (first_replaced (o ∷ old) new (old ++ behind))) (starts-append (o ∷ old) behind)
    ∙ ap (λ l. Some (new ++ l)) (drop_at (o ∷ old) behind (length (o ∷ old)) refl)
first_replaced-at o old new (x ∷ front) behind least =
    let later = front ++ ((o ∷ old) ++ behind) in
    cond-false (starts_with eqb (x ∷ later) (o ∷ old)) (Some (new ++ drop (length (o ∷ old)) (x ∷ later)))
    (option_map (λ made. x ∷ made) (first_replaced (o ∷ old) new later)) (least-first (o ∷ old) x later front least)
    ∙ ap (option_map (λ made. x ∷ made)) (first_replaced-at o old new front behind (least-later (o ∷ old) x later front least))

all_replaced-skip : (old new mid behind : List ℕ) → all_replaced old new (length mid) (mid ++ behind) ≡ all_replaced old new zero behind
all_replaced-skip old new [] behind = refl
all_replaced-skip old new (m ∷ mid) behind = all_replaced-skip old new mid behind

all_replaced-at : (o : ℕ) (old new front behind : List ℕ) → Least (o ∷ old) (front ++ ((o ∷ old) ++ behind)) front
    → all_replaced (o ∷ old) new zero (front ++ ((o ∷ old) ++ behind)) ≡ front ++ (new ++ all_replaced (o ∷ old) new zero behind)
all_replaced-at o old new [] behind least =
    let one_less : length (o ∷ old) - 1 ≡ length old = omega arith in
    cond-true (starts_with eqb ((o ∷ old) ++ behind) (o ∷ old)) (new ++ all_replaced (o ∷ old) new (length (o ∷ old) - 1) (old ++ behind))
    (o ∷ all_replaced (o ∷ old) new zero (old ++ behind)) (starts-append (o ∷ old) behind)
    ∙ ap (λ n. new ++ all_replaced (o ∷ old) new n (old ++ behind)) one_less
    ∙ ap (λ l. new ++ l) (all_replaced-skip (o ∷ old) new old behind)
all_replaced-at o old new (x ∷ front) behind least =
    let later = front ++ ((o ∷ old) ++ behind) in
    cond-false (starts_with eqb (x ∷ later) (o ∷ old)) (new ++ all_replaced (o ∷ old) new (length (o ∷ old) - 1) later)
    (x ∷ all_replaced (o ∷ old) new zero later) (least-first (o ∷ old) x later front least)
    ∙ ap (λ l. x ∷ l) (all_replaced-at o old new front behind (least-later (o ∷ old) x later front least))

-- the clause of `split_once` at a text
pub cut-of : (old word : List ℕ) (r : Option (Bor (List ℕ) × Bor (List ℕ)))
    → MatchOption r (FindsText old word None) (λ x. SplitsAroundMatch (FindsText old) word x.0.now x.1.now)
    → MatchOption r (IsNowhere old word) (λ x. FirstCut old word x.0.now x.1.now)
cut-of old word None none = λ front behind e.
    none (length front) (omega (arith, ap length e, length-append front (old ++ behind))) behind (ap (drop (length front)) e
    ∙ drop_at front (old ++ behind) (length front) refl)
cut-of old word (Some (front, behind)) (i, j, finds, is_front, is_after, le, len_front, len_after) = record {
  whole = sym (take-append-drop i word) ∙ ap (λ l. take i word ++ l) finds.1.split ∙ ap (λ l. l ++ (old ++ drop j word)) (sym is_front)
      ∙ ap (λ l. front.now ++ (old ++ l)) (sym is_after);
  least = λ f b l e. finds.0 (length f) (omega arith) b (ap (drop (length f)) e ∙ drop_at f (old ++ b) (length f) refl);
}

-- what follows an old text is text
pub after-utf8 : (old word : List ℕ) (front behind : Bor (List ℕ)) → SplitsAroundMatch (FindsText old) word front.now behind.now
    → IsUtf8 word → IsUtf8 behind.now
after-utf8 old word front behind (i, j, finds, is_front, is_after, le, len_front, len_after) text =
    subst IsUtf8 (ap (λ n. drop n word) (sym finds.1.ends) ∙ sym is_after) (IsUtf8-drop word (i + length old) text finds.1.after)

-- a turn: an old text that isn't empty, at its first place
pub all_replaced-cut : (old new word front behind : List ℕ) → 0 < length old → FirstCut old word front behind
    → all_replaced old new zero word ≡ front ++ (new ++ all_replaced old new zero behind)
all_replaced-cut [] new word front behind some cut = absurd (omega arith)
all_replaced-cut (o ∷ old) new word front behind some cut =
    ap (all_replaced (o ∷ old) new zero) cut.whole ∙ all_replaced-at o old new front behind
    (subst (λ w. Least (o ∷ old) w front) cut.whole cut.least)

first_replaced-cut : (o : ℕ) (old new word front behind : List ℕ) → FirstCut (o ∷ old) word front behind
    → first_replaced (o ∷ old) new word ≡ Some (front ++ (new ++ behind))
first_replaced-cut o old new word front behind cut =
    ap (first_replaced (o ∷ old) new) cut.whole ∙ first_replaced-at o old new front behind
    (subst (λ w. Least (o ∷ old) w front) cut.whole cut.least)

pub first-cut : (old new word front behind : List ℕ) → 0 < length old → FirstCut old word front behind → first_replaced old new word ≡ Some
    (front ++ (new ++ behind))
first-cut [] new word front behind some cut = absurd (omega arith)
first-cut (o ∷ old) new word front behind some cut = first_replaced-cut o old new word front behind cut

pub somewhere-none : (every : Bool) (old new word : List ℕ) → IsNowhere old word → somewhere_replaced every old new word ≡ None
somewhere-none every [] new word none = refl
somewhere-none true (o ∷ old) new word none = ap (option_map (λ _. all_replaced (o ∷ old) new zero word))
    (first_replaced-none (o ∷ old) new word none)
somewhere-none false (o ∷ old) new word none = first_replaced-none (o ∷ old) new word none

pub somewhere-all : (every : Bool) (old new word front behind : List ℕ) → every ≡ true → 0 < length old → FirstCut old word front behind
    → somewhere_replaced every old new word ≡ Some (front ++ (new ++ all_replaced old new zero behind))
somewhere-all every [] new word front behind e some cut = absurd (omega arith)
somewhere-all every (o ∷ old) new word front behind e some cut =
    ap (λ b. somewhere_replaced b (o ∷ old) new word) e
    ∙ ap (option_map (λ _. all_replaced (o ∷ old) new zero word)) (first_replaced-cut o old new word front behind cut)
    ∙ ap Some (all_replaced-cut (o ∷ old) new word front behind some cut)

pub somewhere-first : (every : Bool) (old new word front behind : List ℕ) → every ≡ false → 0 < length old → FirstCut old word front behind
    → somewhere_replaced every old new word ≡ Some (front ++ (new ++ behind))
somewhere-first every [] new word front behind e some cut = absurd (omega arith)
somewhere-first every (o ∷ old) new word front behind e some cut =
    ap (λ b. somewhere_replaced b (o ∷ old) new word) e ∙ first_replaced-cut o old new word front behind cut

-- the clause of `strip_prefix`
pub replaced-starts : (s : Replacement) (old new word : List ℕ) (r : Option (Bor (List ℕ))) → s.starts ≡ true → s.ends ≡ false
    → MatchOption r (FindsTextPrefix old word None) (λ x. StripsPrefix (FindsTextPrefix old) word x.now)
    → replaced s old new word ≡ option_map (λ x. new ++ x.now) r
replaced-starts s old new word None starts ends none = rw (starts, ends, starts-lacks old word none)
replaced-starts s old new word (Some behind) starts ends (n, finds, is_after, len) =
    let whole : word ≡ old ++ behind.now = finds.1 ∙ ap (λ l. old ++ l) (sym is_after) in
    rw (starts, ends, whole, starts-append old behind.now, drop_at old behind.now (length old) refl)

-- the clause of `strip_suffix`
pub replaced-ends : (s : Replacement) (old new word : List ℕ) (r : Option (Bor (List ℕ))) → s.starts ≡ false → s.ends ≡ true
    → MatchOption r (FindsTextSuffix old word None) (λ x. StripsSuffix (FindsTextSuffix old) word x.now)
    → replaced s old new word ≡ option_map (λ x. x.now ++ new) r
replaced-ends s old new word None starts ends none = rw (starts, ends, ends-lacks old word none)
replaced-ends s old new word (Some front) starts ends (n, finds, is_front, len) =
    let whole : word ≡ front.now ++ old = finds.1 ∙ ap (λ l. l ++ old) (sym is_front) in
    rw (
      starts,
      ends,
      whole,
      ends-append front.now old,
      take_at front.now old (length (front.now ++ old) - length old)
          (omega (arith, length-append front.now old)),
    )

-- a word that ends in the old text, and one that doesn't
pub suffix-some : (old new word front : List ℕ) → StripsSuffix (FindsTextSuffix old) word front → with_suffix old new word ≡ front ++ new
suffix-some old new word front (n, finds, is_front, len) =
    let whole : word ≡ front ++ old = finds.1 ∙ ap (λ l. l ++ old) (sym is_front) in
    rw (whole, ends-append front old, take_at front old (length (front ++ old) - length old) (omega (arith, length-append front old)))

pub suffix-none : (old new word : List ℕ) → FindsTextSuffix old word None → with_suffix old new word ≡ word
suffix-none old new word none = rw (ends-lacks old word none)

-- the last turn: what is left holds no old text
pub all_replaced-end : (old new made rest whole : List ℕ) (r : Option (Bor (List ℕ) × Bor (List ℕ))) → r ≡ None
    → MatchOption r (FindsText old rest None) (λ x. SplitsAroundMatch (FindsText old) rest x.0.now x.1.now)
    → made ++ all_replaced old new zero rest ≡ whole → made ++ rest ≡ whole
all_replaced-end old new made rest whole None e none goes = ap (λ l. made ++ l)
    (sym (all_replaced-none old new rest (cut-of old rest None none))) ∙ goes
all_replaced-end old new made rest whole (Some x) e none goes = absurd (cc)

pub some-bytes : (text : List ℕ) → eqb (length text) 0 ≡ false → 0 < length text
some-bytes [] e = absurd (true≢false e)
some-bytes (b ∷ rest) e = omega arith
