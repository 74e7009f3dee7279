-- A word matched item by item: what is left, and the last run, to which the matching goes back.
use Rattle.std.proofs.Common.{◌≡◌, ℕ, suc, ◌+◌, ◌*◌, ◌<◌, ◌≤◌, Bool, true, false, ◌&&◌, ◌||◌, List, [], ◌∷◌, length, refl, ap, sym, ◌∙◌}
use Rattle.std.proofs.Common.{subst, arith, Option, Some, None, MatchOption}
use Rattle.std.proofs.Math.Bool.{or-false}
use Rattle.std.proofs.Math.Nat.{mul-le-mul_right}
use Rattle.std.proofs.lemmas.Bool.{or_right}
use Rattle.std.specs.Prelude.{◌↔◌, IsTrue}
use Rattle.std.specs.Str.{chars}
use Rattle.mk_glob.specs.declared.pattern_signs.PatternSign.{PatternSign}
use Rattle.mk_glob.specs.declared.matcher.Rest.{Rest}
use Rattle.mk_glob.specs.Signs.{signs_of}
use Rattle.mk_glob.specs.Items.{any_run, one_of, First, first_at, items, items_of}
use Rattle.mk_glob.specs.Matcher.{Fits, some_end, fits_items, fits}
use Rattle.mk_glob.specs.Steps.{UnclosedWithin, Learns, IsAfterRun, IsAfterOne, IsOneFurther, GoesFurther}
use Rattle.mk_glob.proofs.EndLemmas.{EndsIn, ends_along, ends_shorter, first_at-ends, items-cons, UnclosedWithin-learnt}
use Rattle.mk_glob.proofs.FitLemmas.{some_end-twice, some_end-one, fits_where_cut}
use Rattle.mk_glob.proofs.StepLemmas.{bare_sign}

-- whether an end of a word passes a test that begins after its first character
abbrev pub some_later : (List ℕ → Bool) → List ℕ → Bool
some_later test [] = false
some_later test (c ∷ rest) = some_end test rest

-- whether the word fits by a longer run at the place to go back to
abbrev pub by_back : Option Rest → Bool
by_back None = false
by_back (Some back) = some_later (fits_items (items_of back.pattern.now)) (chars back.word.now)

-- what is left at the place to go back to is at the pattern's end
abbrev pub BackWithin : List PatternSign → Option Rest → Type 0
BackWithin pattern None = Unit {0}
BackWithin pattern (Some back) = EndsIn pattern (signs_of back.pattern.now)

-- how many characters a run may still take before there is nothing to go back to, and one more before the first run
abbrev pub room : List ℕ → Option Rest → ℕ
room word None = suc (length (chars word))
room word (Some back) = length (chars back.word.now)

pub record Goes (pattern word : List ℕ) (rest : Rest) (back : Option Rest) (unclosed : ℕ) : Type 0 where
  pub same : fits pattern word ≡ (fits rest.pattern.now rest.word.now || by_back back)
  pub serves : by_back back ≡ true → some_end (fits_items (items_of rest.pattern.now)) (chars rest.word.now) ≡ true
  pub known : UnclosedWithin (signs_of pattern) unclosed
  pub within : EndsIn (signs_of pattern) (signs_of rest.pattern.now)
  pub back_within : BackWithin (signs_of pattern) back
  pub shorter : length (chars rest.word.now) ≤ room word back

-- what falls with each step
abbrev pub left : List ℕ → List ℕ → Rest → Option Rest → ℕ
left pattern word rest back = room word back * suc (length (signs_of pattern)) + length (signs_of rest.pattern.now)

or_same : (a b : Bool) → (b ≡ true → a ≡ true) → (a || b) ≡ a
or_same true b h = refl
or_same false true h = sym (h refl)
or_same false false h = refl

some_end-splits : (test : List ℕ → Bool) (word : List ℕ) → some_end test word ≡ (test word || some_later test word)
some_end-splits test [] = sym (or-false (test []))
some_end-splits test (c ∷ rest) = refl

some_later-serves : (test : List ℕ → Bool) (word : List ℕ) → some_later test word ≡ true → some_end test word ≡ true
some_later-serves test word h = some_end-splits test word ∙ or_right (test word) (some_later test word) h

fits-open : (pattern word : List ℕ) → fits pattern word ≡ fits_items (items_of pattern) (chars word)
unfolding fits
fits-open pattern word = refl

items_of-first : (pattern : List ℕ) (sign : PatternSign) (more : List PatternSign) (first : First) → signs_of pattern ≡ sign ∷ more
    → first_at sign more ≡ first → items_of pattern ≡ first.item ∷ items first.behind
unfolding items_of
items_of-first pattern sign more first reads stands =
    ap items reads ∙ items-cons sign more ∙ ap (λ f. First.item f ∷ items (First.behind f)) stands

items_of-open : (pattern : List ℕ) → items_of pattern ≡ items (signs_of pattern)
unfolding items_of
items_of-open pattern = refl

items-nothing : items [] ≡ []
unfolding items
items-nothing = refl

falls_first : (a b n p q : ℕ) → a ≤ b → p < q → a * suc n + p < b * suc n + q
falls_first a b n p q h k = let m : a * suc n ≤ b * suc n = mul-le-mul_right (suc n) h in omega (arith, m)

falls_second : (a b n p q : ℕ) → suc a ≤ b → p ≤ n → a * suc n + p < b * suc n + q
falls_second a b n p q h k =
    let m : suc a * suc n ≤ b * suc n = mul-le-mul_right (suc n) h in
    omega (arith, m)

-- what follows the first sign, or the first item, is at the pattern's end
within_sign : (whole here behind : List PatternSign) (sign : PatternSign) → EndsIn whole here → here ≡ sign ∷ behind → EndsIn whole behind
within_sign whole here behind sign within e = ends_along whole here behind within record { front = sign ∷ []; joins = e }

within_first : (whole here : List PatternSign) (sign : PatternSign) (more : List PatternSign) (first : First)
    → EndsIn whole here → here ≡ sign ∷ more
    → first_at sign more ≡ first → EndsIn whole first.behind
within_first whole here sign more first within e stands =
    let later : EndsIn more first.behind = subst (λ f. EndsIn more (First.behind f)) stands (first_at-ends sign more) in
    ends_along whole more first.behind (within_sign whole here more sign within e) later

-- after a run, which is the one to go back to from now on: what a longer earlier run could take, this one can
pub Goes-run : (pattern word : List ℕ) (rest : Rest) (back : Option Rest) (unclosed learnt : ℕ) (behind : Rest)
    → Goes pattern word rest back unclosed → Learns (signs_of rest.pattern.now) unclosed learnt → IsAfterRun rest behind
    → Goes pattern word behind (Some behind) learnt
Goes-run pattern word rest back unclosed learnt behind goes learns run =
    let first : First = record { item = any_run; behind = signs_of behind.pattern.now } in
    let stands : first_at run.sign (signs_of behind.pattern.now) ≡ first =
    ap (λ s. first_at s (signs_of behind.pattern.now)) (bare_sign 42 run.sign run.is_run) in
    let test = fits_items (items_of behind.pattern.now) in
    let items_are : items_of rest.pattern.now ≡ any_run ∷ items_of behind.pattern.now =
    items_of-first rest.pattern.now run.sign (signs_of behind.pattern.now) first run.pattern stands
    ∙ ap (λ l. any_run ∷ l) (sym (items_of-open behind.pattern.now)) in
    let word_is : chars rest.word.now ≡ chars behind.word.now = ap chars (sym run.word) in
    let here : fits rest.pattern.now rest.word.now ≡ some_end test (chars behind.word.now) =
    fits-open rest.pattern.now rest.word.now ∙ (λ i. fits_items (items_are i) (word_is i)) in
    let ends : some_end (fits_items (items_of rest.pattern.now)) (chars rest.word.now) ≡ some_end (some_end test) (chars behind.word.now) =
    λ i. some_end (fits_items (items_are i)) (word_is i) in
    let twice : by_back back ≡ true → some_end test (chars behind.word.now) ≡ true = λ h.
    some_end-twice test (chars behind.word.now) (sym ends ∙ goes.serves h) in
    let inside : EndsIn (signs_of pattern) (signs_of behind.pattern.now) =
    within_sign (signs_of pattern) (signs_of rest.pattern.now) (signs_of behind.pattern.now) run.sign goes.within run.pattern in record {
      same =
          goes.same ∙ ap (λ b. b || by_back back) here ∙ or_same (some_end test (chars behind.word.now)) (by_back back) twice
          ∙ some_end-splits test (chars behind.word.now)
          ∙ ap (λ b. b || some_later test (chars behind.word.now)) (sym (fits-open behind.pattern.now behind.word.now));
      serves = λ h. some_later-serves test (chars behind.word.now) h;
      known = UnclosedWithin-learnt (signs_of pattern) (signs_of rest.pattern.now) unclosed learnt goes.within learns goes.known;
      within = inside;
      back_within = inside;
      shorter = omega arith;
    }

-- after an item of one character and a character that it takes
pub Goes-one : (pattern word : List ℕ) (rest : Rest) (back : Option Rest) (unclosed learnt : ℕ) (behind : Rest)
    → Goes pattern word rest back unclosed → Learns (signs_of rest.pattern.now) unclosed learnt → IsAfterOne rest behind
    → Goes pattern word behind back learnt
Goes-one pattern word rest back unclosed learnt behind goes learns one =
    let negated = one.tells.negated in
    let ranges = one.tells.ranges in
    let first : First = record { item = one_of negated ranges; behind = signs_of behind.pattern.now } in
    let items_are : items_of rest.pattern.now ≡ one_of negated ranges ∷ items_of behind.pattern.now =
    items_of-first rest.pattern.now one.sign one.more first one.pattern one.tells.stands
    ∙ ap (λ l. one_of negated ranges ∷ l) (sym (items_of-open behind.pattern.now)) in
    let rest_fits = fits_items (items_of behind.pattern.now) (chars behind.word.now) in
    let here : fits rest.pattern.now rest.word.now ≡ fits behind.pattern.now behind.word.now =
    fits-open rest.pattern.now rest.word.now ∙ (λ i. fits_items (items_are i) (one.word i))
    ∙ ap (λ b. b && rest_fits) (sym one.tells.tells) ∙ sym (fits-open behind.pattern.now behind.word.now) in
    let ends : some_end (fits_items (items_of rest.pattern.now)) (chars rest.word.now)
    ≡ some_end (fits_items (one_of negated ranges ∷ items_of behind.pattern.now)) (one.c ∷ chars behind.word.now) =
    λ i. some_end (fits_items (items_are i)) (one.word i) in record {
      same = goes.same ∙ ap (λ b. b || by_back back) here;
      serves = λ h. some_end-one negated ranges (items_of behind.pattern.now) one.c (chars behind.word.now) (sym ends ∙ goes.serves h);
      known = UnclosedWithin-learnt (signs_of pattern) (signs_of rest.pattern.now) unclosed learnt goes.within learns goes.known;
      within = within_first (signs_of pattern) (signs_of rest.pattern.now) one.sign one.more first goes.within one.pattern one.tells.stands;
      back_within = goes.back_within;
      shorter = let n = ap length one.word in let m = goes.shorter in omega arith;
    }

-- after one character more for the last run, where what is left didn't fit
Goes-further : (pattern word : List ℕ) (rest back : Rest) (unclosed learnt : ℕ) (further : Rest)
    → Goes pattern word rest (Some back) unclosed → Learns (signs_of rest.pattern.now) unclosed learnt
    → fits rest.pattern.now rest.word.now ≡ false → IsOneFurther back further
    → Goes pattern word further (Some further) learnt
Goes-further pattern word rest back unclosed learnt further goes learns refused one =
    let test = fits_items (items_of further.pattern.now) in
    let longer : by_back (Some back) ≡ some_end test (chars further.word.now) =
    λ i. some_later (fits_items (items_of (sym one.pattern i))) (one.word i) in
    let inside : EndsIn (signs_of pattern) (signs_of further.pattern.now) =
    subst (λ t. EndsIn (signs_of pattern) (signs_of t)) (sym one.pattern) goes.back_within in record {
      same =
          goes.same ∙ ap (λ b. b || by_back (Some back)) refused ∙ longer ∙ some_end-splits test (chars further.word.now)
          ∙ ap (λ b. b || some_later test (chars further.word.now)) (sym (fits-open further.pattern.now further.word.now));
      serves = λ h. some_later-serves test (chars further.word.now) h;
      known = UnclosedWithin-learnt (signs_of pattern) (signs_of rest.pattern.now) unclosed learnt goes.within learns goes.known;
      within = inside;
      back_within = inside;
      shorter = omega arith;
    }

-- where nothing is left of either, the word fits
pub fits-over : (pattern word : List ℕ) (rest : Rest) (back : Option Rest) (unclosed : ℕ) → Goes pattern word rest back unclosed
    → signs_of rest.pattern.now ≡ [] → chars rest.word.now ≡ [] → fits pattern word ≡ true
fits-over pattern word rest back unclosed goes e f =
    let items_are : items_of rest.pattern.now ≡ [] = items_of-open rest.pattern.now ∙ ap items e ∙ items-nothing in
    goes.same ∙ ap (λ b. b || by_back back) (fits-open rest.pattern.now rest.word.now ∙ (λ i. fits_items (items_are i) (f i)))

-- where what is left doesn't fit and there is nothing to go back to, the word doesn't
pub fits-stuck : (pattern word : List ℕ) (rest : Rest) (back : Option Rest) (unclosed : ℕ) → Goes pattern word rest back unclosed
    → fits rest.pattern.now rest.word.now ≡ false → by_back back ≡ false → fits pattern word ≡ false
fits-stuck pattern word rest back unclosed goes refused none =
    goes.same ∙ ap (λ b. b || by_back back) refused ∙ none

-- what is left if the last run takes one character more: none without a run, or without a character for it
abbrev pub TakesMore : Option Rest → Option Rest → Type 0
TakesMore back more = MatchOption back (more ≡ None) (λ last. GoesFurther last more)

-- where the last run can't take one character more, the word doesn't fit by a longer one
pub by_back-over : (back : Option Rest) → TakesMore back None → by_back back ≡ false
by_back-over None over = refl
by_back-over (Some last) over = ap (some_later (fits_items (items_of last.pattern.now))) over

-- where what is left doesn't fit, the last run takes one character more
pub Goes-more : (pattern word : List ℕ) (rest : Rest) (back : Option Rest) (unclosed learnt : ℕ) (further : Rest)
    → Goes pattern word rest back unclosed → Learns (signs_of rest.pattern.now) unclosed learnt
    → fits rest.pattern.now rest.word.now ≡ false → TakesMore back (Some further)
    → Goes pattern word further (Some further) learnt
Goes-more pattern word rest None unclosed learnt further goes learns refused more = cc
Goes-more pattern word rest (Some last) unclosed learnt further goes learns refused more =
    Goes-further pattern word rest last unclosed learnt further goes learns refused more

pub cut_where_fits : (pattern word : List ℕ) (found : Bool) → found ≡ fits pattern word
    → IsTrue found ↔ Fits (items_of pattern) (chars word)
cut_where_fits pattern word found e =
    subst (λ b. IsTrue b ↔ Fits (items_of pattern) (chars word)) (sym e) (fits_where_cut pattern word)

-- what is left falls
pub left-run : (pattern word : List ℕ) (rest : Rest) (back : Option Rest) (unclosed : ℕ) (behind : Rest)
    → Goes pattern word rest back unclosed
    → IsAfterRun rest behind → left pattern word behind (Some behind) < left pattern word rest back
left-run pattern word rest back unclosed behind goes run =
    let n = ap length run.pattern in
    let m : length (chars behind.word.now) ≤ room word back = subst (λ t. length (chars t) ≤ room word back) (sym run.word) goes.shorter in
    falls_first (length (chars behind.word.now)) (room word back) (length (signs_of pattern)) (length (signs_of behind.pattern.now))
    (length (signs_of rest.pattern.now)) m (omega arith)

pub left-one : (pattern word : List ℕ) (rest : Rest) (back : Option Rest) (unclosed : ℕ) (behind : Rest)
    → Goes pattern word rest back unclosed
    → IsAfterOne rest behind → left pattern word behind back < left pattern word rest back
left-one pattern word rest back unclosed behind goes one =
    let n = ap length one.pattern in
    let later : EndsIn one.more (signs_of behind.pattern.now) =
    subst (λ f. EndsIn one.more (First.behind f)) one.tells.stands (first_at-ends one.sign one.more) in
    let m = ends_shorter one.more (signs_of behind.pattern.now) later in omega arith

left-further : (pattern word : List ℕ) (rest back further : Rest) (unclosed : ℕ) → Goes pattern word rest (Some back) unclosed
    → IsOneFurther back further → left pattern word further (Some further) < left pattern word rest (Some back)
left-further pattern word rest back further unclosed goes one =
    let n = ap length one.word in
    let inside : EndsIn (signs_of pattern) (signs_of further.pattern.now) =
    subst (λ t. EndsIn (signs_of pattern) (signs_of t)) (sym one.pattern) goes.back_within in
    let m = ends_shorter (signs_of pattern) (signs_of further.pattern.now) inside in
    falls_second (length (chars further.word.now)) (length (chars back.word.now)) (length (signs_of pattern))
    (length (signs_of further.pattern.now)) (length (signs_of rest.pattern.now)) (omega arith) m

pub left-more : (pattern word : List ℕ) (rest : Rest) (back : Option Rest) (further : Rest) (unclosed : ℕ)
    → Goes pattern word rest back unclosed
    → TakesMore back (Some further) → left pattern word further (Some further) < left pattern word rest back
left-more pattern word rest None further unclosed goes more = cc
left-more pattern word rest (Some last) further unclosed goes more = left-further pattern word rest last further unclosed goes more
