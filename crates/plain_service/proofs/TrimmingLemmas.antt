-- Spaces that are skipped, one after another.
use Rattle.std.proofs.Common.{◌≡◌, ℕ, true, false, List, [], ◌∷◌, ◌++◌, reverse, sym, ap, ◌∙◌}
use Rattle.std.proofs.lemmas.Bool.{cond-true, cond-false}
use Rattle.std.proofs.lemmas.List.{reverse-append, reverse-reverse}
use Rattle.plain_service.specs.Spaces.{is_space, skip_spaces}

skips : (byte : ℕ) (rest : List ℕ) → is_space byte ≡ true → skip_spaces (byte ∷ rest) ≡ skip_spaces rest
unfolding skip_spaces
skips byte rest is = cond-true (is_space byte) (skip_spaces rest) (byte ∷ rest) is

stops : (byte : ℕ) (rest : List ℕ) → is_space byte ≡ false → skip_spaces (byte ∷ rest) ≡ byte ∷ rest
unfolding skip_spaces
stops byte rest is = cond-false (is_space byte) (skip_spaces rest) (byte ∷ rest) is

pub first_skipped : (text rest all : List ℕ) (first : ℕ) → text ≡ first ∷ rest → is_space first ≡ true → skip_spaces text ≡ all
    → skip_spaces rest ≡ all
first_skipped text rest all first is space same = sym (skips first rest space) ∙ ap skip_spaces (sym is) ∙ same

pub first_stays : (text rest all : List ℕ) (first : ℕ) → text ≡ first ∷ rest → is_space first ≡ false → skip_spaces text ≡ all → text ≡ all
first_stays text rest all first is other same = is ∙ sym (stops first rest other) ∙ ap skip_spaces (sym is) ∙ same

pub none_left : (text all : List ℕ) → text ≡ [] → skip_spaces text ≡ all → text ≡ all
unfolding skip_spaces
none_left text all is same = is ∙ ap skip_spaces (sym is) ∙ same

-- the same from the end
turned : (text rest : List ℕ) (last : ℕ) → text ≡ rest ++ last ∷ [] → reverse text ≡ last ∷ reverse rest
turned text rest last is = ap reverse is ∙ reverse-append rest (last ∷ [])

pub last_skipped : (text rest all : List ℕ) (last : ℕ) → text ≡ rest ++ last ∷ [] → is_space last ≡ true → skip_spaces (reverse text) ≡ all
    → skip_spaces (reverse rest) ≡ all
last_skipped text rest all last is space same = first_skipped (reverse text) (reverse rest) all last (turned text rest last is) space same

pub last_stays : (text rest all : List ℕ) (last : ℕ) → text ≡ rest ++ last ∷ [] → is_space last ≡ false
    → skip_spaces (reverse text) ≡ all → text ≡ reverse all
last_stays text rest all last is other same =
    sym (reverse-reverse text) ∙ ap reverse (first_stays (reverse text) (reverse rest) all last (turned text rest last is) other same)

pub none_left-reverse : (text all : List ℕ) → text ≡ [] → skip_spaces (reverse text) ≡ all → text ≡ reverse all
none_left-reverse text all is same = sym (reverse-reverse text) ∙ ap reverse (none_left (reverse text) all (ap reverse is) same)
