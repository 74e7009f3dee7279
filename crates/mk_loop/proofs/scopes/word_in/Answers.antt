use Rattle.std.proofs.Common.{◌≡◌, ℕ, ◌+◌, ◌-◌, ◌<◌, ◌≤◌, List, ◌∷◌, [], ◌++◌, take, length, get_or, Option, Some, None, cond, true, false}
use Rattle.std.proofs.Common.{Bool, refl, sym, ap, ◌∙◌, arith}
use Rattle.std.specs.Str.{bytes_eq}
use Rattle.std.proofs.lemmas.List.{take_more}
use Rattle.mk_loop.specs.declared.iterations.Iteration.{Iteration}
use Rattle.mk_loop.specs.LoopWords.{LoopWords, word_of}
use Rattle.mk_loop.specs.Scopes.{iteration_words, words_in, words_in-inside}
use Rattle.mk_loop.proofs.scopes.word_in.Goals as goal

found-by : (test : Bool) (word found : List ℕ) (first all : Option (List ℕ)) → Some found ≡ cond test (Some word) first
    → (Some found ≡ first → Some found ≡ all) → Some found ≡ cond test (Some word) all
found-by true word found first all is h = is
found-by false word found first all is h = h is

-- a word among the first counts
among-first : (words more : LoopWords) (name found : List ℕ) → Some found ≡ word_of words name → Some found ≡ word_of (words ++ more) name
among-first [] more name found is = cc
among-first (entry ∷ words) more name found is = found-by (bytes_eq name entry.0) entry.1 found (word_of words name)
    (word_of (words ++ more) name) is (among-first words more name found)

none-by : (test : Bool) (word : List ℕ) (first all last : Option (List ℕ)) → None ≡ cond test (Some word) first
    → (None ≡ first → all ≡ last) → cond test (Some word) all ≡ last
none-by true word first all last is h = cc
none-by false word first all last is h = h is

-- if none is among the first, it is among the others
among-more : (words more : LoopWords) (name : List ℕ) → None ≡ word_of words name → word_of (words ++ more) name ≡ word_of more name
among-more [] more name is = refl
among-more (entry ∷ words) more name is = none-by (bytes_eq name entry.0) entry.1 (word_of words name) (word_of (words ++ more) name)
    (word_of more name) is (among-more words more name)

-- the words of the innermost of the first loops come first
innermost : (loops : List Iteration) (at : ℕ) (iteration : Iteration) → 0 < at → at ≤ length loops → iteration ≡ get_or loops (at - 1)
    iteration → words_in (take at loops) ≡ iteration_words iteration ++ words_in (take (at - 1) loops)
innermost loops at iteration some within is =
    ap (λ n. words_in (take n loops)) (let e : at ≡ (at - 1) + 1 = omega arith in e)
    ∙ ap words_in (take_more loops (at - 1) iteration (omega arith) ∙ ap (λ x. take (at - 1) loops ++ x ∷ []) (sym is))
    ∙ words_in-inside (take (at - 1) loops) iteration

pub returns-in-Some : goal.returns-in-Some
returns-in-Some c =
    let iteration = c.index-loops-at.result in
    among-first (iteration_words iteration) (words_in (take (c.loop-at.at - 1) c.args.loops.now)) c.args.name.now
    c.in-Some.word.now c.in-Some.ensures
    ∙ ap (λ words. word_of words c.args.name.now)
    (sym (innermost c.args.loops.now c.loop-at.at iteration c.loop-at-test.true (omega arith) c.index-loops-at.is))
    ∙ c.loop-at.invariant

pub loop-at-preserved : goal.loop-at-preserved
loop-at-preserved c =
    let iteration = c.index-loops-at.result in
    sym (among-more (iteration_words iteration) (words_in (take (c.loop-at.at - 1) c.args.loops.now)) c.args.name.now c.in_default.ensures)
    ∙ ap (λ words. word_of words c.args.name.now)
    (sym (innermost c.args.loops.now c.loop-at.at iteration c.loop-at-test.true (omega arith) c.index-loops-at.is))
    ∙ c.loop-at.invariant
