-- What is printed.
use Rattle.std.proofs.Common.{◌≡◌, ℕ, zero, suc, ◌<◌, ◌≤◌, List, [], ◌∷◌, ◌++◌, length, drop, get_or, refl, sym, arith, Some, None, Result}
use Rattle.std.proofs.Common.{Ok, Err, append_assoc}
use Rattle.std.specs.List.{slice_get}
use Rattle.std.proofs.lemmas.List.{drop_all}
use Rattle.std.specs.Result.{OnOk}
use Rattle.ports_core.specs.Effects.{Effect}
use Rattle.portsd_text.specs.Entries.{EventValue}
use Rattle.portsd_text.specs.Transcript.{printed, transcript}

-- four texts are pushed, one after the other
pub four_pushed : {T E : Type 0} (r : Result T E) (s t u v w a b c d : List ℕ) → t ≡ s ++ a → u ≡ t ++ b → v ≡ u ++ c → OnOk r (w ≡ v ++ d)
    → OnOk r (w ≡ s ++ (a ++ (b ++ (c ++ d))))
four_pushed (Ok x) s t u v w a b c d e f g h = rw (h, g, f, e) (simp append_assoc)
four_pushed (Err x) s t u v w a b c d e f g h = h

-- one more event is printed
pub transcript-more : (entries : List (ℕ × EventValue)) (steps : List Effect) (i : ℕ) (entry : ℕ × EventValue) (step : Effect)
    → slice_get entries i ≡ Some entry → i < length steps → step ≡ get_or steps i step → transcript (drop i entries) (drop i steps) ≡
    printed entry.0 entry.1 step ++ transcript (drop (suc i) entries) (drop (suc i) steps)
transcript-more [] steps i entry step e h s = absurd (cc)
transcript-more (first ∷ entries) [] i entry step e h s = absurd (omega arith)
transcript-more (first ∷ entries) (front ∷ steps) zero entry step e h s =
    let same : first ≡ entry = cc in
    rw (same, sym s)
transcript-more (first ∷ entries) (front ∷ steps) (suc i) entry step e h s = transcript-more entries steps i entry step e (omega arith) s

-- nothing is printed after the last event
pub transcript-past : (entries : List (ℕ × EventValue)) (steps others : List Effect) (i j : ℕ) → slice_get entries i ≡ None → i ≤ j
    → transcript (drop i entries) steps ≡ transcript (drop j entries) others
transcript-past [] steps others i j e h =
    rw (drop_all {X = ℕ × EventValue} i [] (omega arith), drop_all {X = ℕ × EventValue} j [] (omega arith))
transcript-past (first ∷ entries) steps others zero j e h = absurd (cc)
transcript-past (first ∷ entries) steps others (suc i) zero e h = absurd (omega arith)
transcript-past (first ∷ entries) steps others (suc i) (suc j) e h = transcript-past entries steps others i j e (omega arith)

-- nor after the last step
pub transcript-end : (entries : List (ℕ × EventValue)) (steps : List Effect) (i j : ℕ) → length steps ≤ j
    → transcript (drop i entries) (drop j steps) ≡ []
transcript-end entries steps i j h = rw (drop_all j steps h) (by (drop i entries))
  where
    by : (rest : List (ℕ × EventValue)) → transcript rest [] ≡ []
    by [] = refl
    by (entry ∷ rest) = refl
