-- What follows a slash, and what is left without an end, in the words of std.
use Rattle.std.proofs.Common.{◌≡◌, ◌≢◌, ◌∙◌, ◌<◌, ◌-◌, suc, sym, ap, refl, ℕ, ◌+◌, Bool, true, false, cond, not, eqb, ltb, ◌||◌, List, []}
use Rattle.std.proofs.Common.{◌∷◌, ◌++◌, length, take, Some, None, arith}
use Rattle.std.proofs.lemmas.Bool.{cond-true, cond-false}
use Rattle.std.proofs.lemmas.Bool.Decides.{nat_tests}
use Rattle.std.proofs.lemmas.Str.Pattern.{ends_text}
use Rattle.std.specs.List.{list_any, ends_with, position_or_len, after_first}
use Rattle.port_index.specs.TreePaths.{is_slash, after_slash, without_suffix}

any_step : (passes rest : Bool) (place size : ℕ) → rest ≡ ltb place size
    → (passes || rest) ≡ ltb (cond (not passes) (1 + place) 0) (suc size)
any_step true rest place size is = grind (arith, nat_tests)
any_step false rest place size is = is ∙ grind (arith, nat_tests)

-- a list has an element that passes a test just if the first place of such an element is in it
any_at : {X : Type 0} (p : X → Bool) (xs : List X) → list_any p xs ≡ ltb (position_or_len p xs) (length xs)
any_at p [] = refl
any_at p (x ∷ xs) = any_step (p x) (list_any p xs) (position_or_len p xs) (length xs) (any_at p xs)

pub after_slash-none : (text : List ℕ) → position_or_len is_slash text ≡ length text → None ≡ after_slash text
after_slash-none text at =
    let outside : ltb (position_or_len is_slash text) (length text) ≡ false = grind (arith, nat_tests) in
    sym (cond-false (list_any is_slash text) (Some (after_first is_slash text)) None (any_at is_slash text ∙ outside))

pub after_slash-some : (text after : List ℕ) → position_or_len is_slash text < length text → after ≡ after_first is_slash text
    → Some after ≡ after_slash text
after_slash-some text after at is =
    let inside : ltb (position_or_len is_slash text) (length text) ≡ true = grind (arith, nat_tests) in
    ap Some is ∙ sym (cond-true (list_any is_slash text) (Some (after_first is_slash text)) None (any_at is_slash text ∙ inside))

pub without_suffix-none : (end text : List ℕ) → ((front : List ℕ) → text ≢ front ++ end) → None ≡ without_suffix end text
without_suffix-none end text none =
    sym (cond-false (ends_with eqb text end) (Some (take (length text - length end) text)) None (sym (ends_text false end text none)))
