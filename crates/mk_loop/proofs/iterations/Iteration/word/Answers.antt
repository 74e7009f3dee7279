use Rattle.std.proofs.Common.{◌≡◌, ℕ, ◌+◌, ◌-◌, ◌*◌, ◌<◌, ◌≤◌, true, false, cond, List, ◌∷◌, map, take, drop, length, get_or, string_bytes}
use Rattle.std.proofs.Common.{Some, sym, ap, subst, ◌∙◌, arith, take_all, length-drop, String, Global}
use Rattle.std.specs.List.{zip}
use Rattle.std.specs.Str.{bytes_eq}
use Rattle.std.proofs.lemmas.List.{drop_more}
use Rattle.mk_text.specs.declared.word_spans.Span.{Span}
use Rattle.mk_text.specs.Words.{span_text}
use Rattle.mk_loop.specs.declared.iterations.Iterations.{Iterations}
use Rattle.mk_loop.specs.LoopWords.{LoopWords, word_of}
use Rattle.mk_loop.specs.Scopes.{words_from}
use Rattle.mk_loop.proofs.iterations.Iteration.word.Goals as goal

-- what is left of a list from a place on
rest : {A : Type 0} (all : List A) (from : ℕ) → take (length all - from) (drop from all) ≡ drop from all
rest all from = take_all (length all - from) (drop from all) (omega (arith, length-drop from all))

-- there are as many words left as variables
enough : {A : Type 0} (all : List A) (from size : ℕ) → from + size ≤ length all → size ≤ length (take (length all - from) (drop from all))
enough all from size fits = subst (λ l. size ≤ length l) (sym (rest all from)) (omega (arith, length-drop from all))

-- variables with words, by what the code has of a loop
abbrev paired : Iterations → List (String Global) → List Span → LoopWords
paired iterations names words = zip (map string_bytes names) (map (span_text (string_bytes iterations.text)) words)

same-words : (iterations shown : Iterations) (names : List (String Global)) (words : List Span) (index : ℕ) → shown ≡ iterations
    → names ≡ shown.names.items → words ≡ shown.words.items
    → paired shown names (take (length words - index * length names) (drop (index * length names) words)) ≡ words_from iterations
    (index * length iterations.names.items)
same-words iterations shown names words index is names-are words-are =
    ap (λ n. paired shown n (take (length words - index * length n) (drop (index * length n) words))) names-are
    ∙ ap (λ l. paired shown shown.names.items
    (take (length l - index * length shown.names.items) (drop (index * length shown.names.items) l))) words-are
    ∙ ap (paired shown shown.names.items) (rest shown.words.items (index * length shown.names.items))
    ∙ ap (λ t. words_from t (index * length t.names.items)) is

words-left : (iterations shown : Iterations) (names : List (String Global)) (words : List Span) (index : ℕ) → shown ≡ iterations
    → names ≡ shown.names.items → words ≡ shown.words.items
    → index * length iterations.names.items + length iterations.names.items ≤ length iterations.words.items
    → length names ≤ length (take (length words - index * length names) (drop (index * length names) words))
words-left iterations shown names words index is names-are words-are inside =
    enough words (index * length names) (length names)
    (subst (λ n. index * length n + length n ≤ length words) (sym (names-are ∙ ap (λ t. t.names.items) is))
    (subst (λ l. index * length iterations.names.items + length iterations.names.items ≤ length l)
    (sym (words-are ∙ ap (λ t. t.words.items) is)) inside))

-- the next variable is this one, or another counts
word-next : {X Y : Type 0} (f : X → List ℕ) (g : Y → List ℕ) (xs : List X) (ys : List Y) (at : ℕ) (x : X) (y : Y) (name : List ℕ)
    → at < length xs → length xs ≤ length ys
    → word_of (zip (map f (drop at xs)) (map g (drop at ys))) name
    ≡ cond (bytes_eq name (f (get_or xs at x))) (Some (g (get_or ys at y)))
    (word_of (zip (map f (drop (at + 1) xs)) (map g (drop (at + 1) ys))) name)
word-next f g xs ys at x y name near same =
    ap (λ l. word_of (zip (map f l) (map g (drop at ys))) name) (drop_more xs at x near)
    ∙ ap (λ l. word_of (zip (map f (get_or xs at x ∷ drop (at + 1) xs)) (map g l)) name) (drop_more ys at y (omega (arith, near, same)))

word-here : {X Y : Type 0} (f : X → List ℕ) (g : Y → List ℕ) (xs : List X) (ys : List Y) (at : ℕ) (x : X) (y : Y) (name : List ℕ)
    → at < length xs → length xs ≤ length ys
    → bytes_eq name (f (get_or xs at x)) ≡ true → Some (g (get_or ys at y)) ≡ word_of (zip (map f (drop at xs)) (map g (drop at ys))) name
word-here f g xs ys at x y name near same is =
    sym (word-next f g xs ys at x y name near same
    ∙ ap (λ t. cond t (Some (g (get_or ys at y))) (word_of (zip (map f (drop (at + 1) xs)) (map g (drop (at + 1) ys))) name)) is)

word-other : {X Y : Type 0} (f : X → List ℕ) (g : Y → List ℕ) (xs : List X) (ys : List Y) (at : ℕ) (x : X) (y : Y) (name : List ℕ)
    → at < length xs → length xs ≤ length ys
    → bytes_eq name (f (get_or xs at x)) ≡ false → word_of (zip (map f (drop (at + 1) xs)) (map g (drop (at + 1) ys))) name ≡ word_of
    (zip (map f (drop at xs)) (map g (drop at ys))) name
word-other f g xs ys at x y name near same is =
    sym (word-next f g xs ys at x y name near same
    ∙ ap (λ t. cond t (Some (g (get_or ys at y))) (word_of (zip (map f (drop (at + 1) xs)) (map g (drop (at + 1) ys))) name)) is)

pub loop-at-init : goal.loop-at-init
loop-at-init c =
    let iteration = c.args.self.now in
    ap (λ words. word_of words c.args.name.now) (same-words iteration.iterations.value c.deref-iterations.result.now
    c.as_slice-names.result.now c.as_slice.result.now iteration.index c.deref-iterations.ensures c.as_slice-names.ensures.value
    c.as_slice.ensures.value)

pub returns-then-eq : goal.returns-then-eq
returns-then-eq c =
    let iteration = c.args.self.now in
    let names = c.as_slice-names.result.now in
    let words = take (length c.as_slice.result.now - iteration.index * length names)
    (drop (iteration.index * length names) c.as_slice.result.now) in
    let within = words-left iteration.iterations.value c.deref-iterations.result.now names c.as_slice.result.now iteration.index
    c.deref-iterations.ensures c.as_slice-names.ensures.value c.as_slice.ensures.value iteration.inside in
    ap Some (c.of.ensures ∙ ap (λ text. span_text text (get_or words c.loop-at.at (record { start = 0; end = 0 })))
    c.as_str-then-eq.ensures.value)
    ∙ word-here string_bytes (span_text (string_bytes c.deref-iterations.result.now.text)) names words c.loop-at.at c.index-names-at.result
    (record { start = 0; end = 0 }) c.args.name.now c.loop-at-test.true within
    (ap (bytes_eq c.args.name.now) (sym (c.as_str.ensures.value ∙ ap string_bytes c.index-names-at.is)) ∙ sym c.eq.ensures ∙ c.if-eq.true)
    ∙ c.loop-at.invariant

pub loop-at-preserved : goal.loop-at-preserved
loop-at-preserved c =
    let iteration = c.args.self.now in
    let names = c.as_slice-names.result.now in
    let words = take (length c.as_slice.result.now - iteration.index * length names)
    (drop (iteration.index * length names) c.as_slice.result.now) in
    let within = words-left iteration.iterations.value c.deref-iterations.result.now names c.as_slice.result.now iteration.index
    c.deref-iterations.ensures c.as_slice-names.ensures.value c.as_slice.ensures.value iteration.inside in
    word-other string_bytes (span_text (string_bytes c.deref-iterations.result.now.text)) names words c.loop-at.at c.index-names-at.result
    (record { start = 0; end = 0 }) c.args.name.now c.loop-at-test.true within
    (ap (bytes_eq c.args.name.now) (sym (c.as_str.ensures.value ∙ ap string_bytes c.index-names-at.is)) ∙ sym c.eq.ensures ∙ c.if-eq.false)
    ∙ c.loop-at.invariant
