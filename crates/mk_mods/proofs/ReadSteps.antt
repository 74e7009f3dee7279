-- Patterns and flags read from marks, one on.
use Rattle.std.proofs.Common.{◌≡◌, ℕ, ◌++◌, Bool, true, false, not, ◌&&◌, ◌||◌, cond, List, [], ◌∷◌, sym, ap, ap₂, ◌∙◌, append_assoc}
use Rattle.std.proofs.Common.{append-nil}
use Rattle.std.proofs.lemmas.Bool.{cond-true, cond-false}
use Rattle.std.proofs.Math.Bool.{or-true, or-false}
use Rattle.mk_mods.specs.Marks.{TextMark, is_char, mark_source}
use Rattle.mk_mods.specs.Grammar.{pattern_from, in_pattern, Flags, flags_of}

-- a pattern of which this was read before
abbrev pub pattern_after : List ℕ → List ℕ × List TextMark → List ℕ × List TextMark
pattern_after front read = (front ++ read.0, read.1)

pub pattern-more : (whole : List ℕ × List TextMark) (front front' : List ℕ) (escaped : Bool) (mark : TextMark) (rest marks : List TextMark)
    → whole ≡ pattern_after front (pattern_from escaped rest) → rest ≡ mark ∷ marks → (is_char 58 mark && not escaped) ≡ false
    → front' ≡ front ++ mark_source mark
    → whole ≡ pattern_after front' (pattern_from (is_char 92 mark) marks)
pattern-more whole front front' escaped mark rest marks so_far next inside is =
    let later = pattern_from (is_char 92 mark) marks in
    so_far ∙ ap (λ l. pattern_after front (pattern_from escaped l)) next
    ∙ ap (pattern_after front) (cond-false (is_char 58 mark && not escaped) ([], mark ∷ marks) (in_pattern mark later) inside)
    ∙ ap (λ l. (l, later.1)) (sym (append_assoc front (mark_source mark) later.0) ∙ ap (λ l. l ++ later.0) (sym is))

pub pattern-all : (whole : List ℕ × List TextMark) (front : List ℕ) (escaped : Bool) (mark : TextMark) (rest marks : List TextMark)
    → whole ≡ pattern_after front (pattern_from escaped rest) → rest ≡ mark ∷ marks → (is_char 58 mark && not escaped) ≡
    true → whole ≡ (front, rest)
pattern-all whole front escaped mark rest marks so_far next ends =
    so_far ∙ ap (λ l. pattern_after front (pattern_from escaped l)) next
    ∙ ap (pattern_after front) (cond-true (is_char 58 mark && not escaped) ([], mark ∷ marks)
    (in_pattern mark (pattern_from (is_char 92 mark) marks)) ends)
    ∙ ap₂ (λ l m. (l, m)) (append-nil front) (sym next)

-- flags with those that were read before
abbrev pub flags_after : Bool → Bool → Flags → Flags
flags_after every once flags = record { every = every || flags.every; once = once || flags.once; behind = flags.behind }

pub flags-every : (whole : Flags) (every once : Bool) (mark : TextMark) (rest marks : List TextMark)
    → whole ≡ flags_after every once (flags_of rest) → rest ≡ mark ∷ marks
    → is_char 103 mark ≡ true → whole ≡ flags_after true once (flags_of marks)
flags-every whole every once mark rest marks so_far next is =
    let later = flags_of marks in
    so_far ∙ ap (λ l. flags_after every once (flags_of l)) next
    ∙ ap (flags_after every once)
    (cond-true (is_char 103 mark) (record later { every = true }) (cond (is_char 49 mark) (record later { once = true })
    (record { every = false; once = false; behind = mark ∷ marks })) is)
    ∙ ap (λ b. record { every = b; once = once || later.once; behind = later.behind }) (or-true every)

pub flags-once : (whole : Flags) (every once : Bool) (mark : TextMark) (rest marks : List TextMark)
    → whole ≡ flags_after every once (flags_of rest) → rest ≡ mark ∷ marks
    → is_char 103 mark ≡ false → is_char 49 mark ≡ true → whole ≡ flags_after every true (flags_of marks)
flags-once whole every once mark rest marks so_far next other is =
    let later = flags_of marks in
    let none : Flags = record { every = false; once = false; behind = mark ∷ marks } in
    so_far ∙ ap (λ l. flags_after every once (flags_of l)) next
    ∙ ap (flags_after every once)
    (cond-false (is_char 103 mark) (record later { every = true }) (cond (is_char 49 mark) (record later { once = true }) none) other
    ∙ cond-true (is_char 49 mark) (record later { once = true }) none is)
    ∙ ap (λ b. record { every = every || later.every; once = b; behind = later.behind }) (or-true once)

pub flags-all : (whole : Flags) (every once : Bool) (mark : TextMark) (rest marks : List TextMark)
    → whole ≡ flags_after every once (flags_of rest) → rest ≡ mark ∷ marks
    → is_char 103 mark ≡ false → is_char 49 mark ≡ false → whole ≡ record { every = every; once = once; behind = rest }
flags-all whole every once mark rest marks so_far next other more =
    let later = flags_of marks in
    let none : Flags = record { every = false; once = false; behind = mark ∷ marks } in
    so_far ∙ ap (λ l. flags_after every once (flags_of l)) next
    ∙ ap (flags_after every once)
    (cond-false (is_char 103 mark) (record later { every = true }) (cond (is_char 49 mark) (record later { once = true }) none) other
    ∙ cond-false (is_char 49 mark) (record later { once = true }) none more)
    ∙ ap₂ (λ a b. record { every = a; once = b; behind = mark ∷ marks }) (or-false every) (or-false once)
    ∙ ap (λ l. record { every = every; once = once; behind = l }) (sym next)
