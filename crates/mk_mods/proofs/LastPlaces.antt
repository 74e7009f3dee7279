-- What `rsplit_once` at a character gives: what is around its last place.
use Rattle.std.proofs.Common.{◌≡◌, ◌≢◌, ℕ, suc, ◌<◌, eqb, true, false, eqb-true, List, [], ◌∷◌, ◌++◌, length, get_or, take, drop, Option}
use Rattle.std.proofs.Common.{Some, None, MatchOption, Bor, refl, sym, ap, ◌∙◌, subst, arith, ne_eqb, eq-eqb, take-append-drop}
use Rattle.std.proofs.lemmas.Bool.{cond-true, cond-false, true≢false}
use Rattle.std.proofs.lemmas.Str.Pattern.{NoCharPasses-char, drop_at_char}
use Rattle.std.specs.Str.{NoCharPasses}
use Rattle.std.specs.Str.Pattern.{RFindsChar, SplitsAroundMatch}
use Rattle.mk_mods.specs.WordChanges.{around_last, around_here, or_slash}

-- a text lacks a byte
abbrev pub Lacks : ℕ → List ℕ → Type 0
Lacks byte text = (i : ℕ) → i < length text → get_or text i 0 ≢ byte

pub around_last-lacks : (byte : ℕ) (text : List ℕ) → Lacks byte text → around_last byte text ≡ None
around_last-lacks byte [] none = refl
around_last-lacks byte (b ∷ rest) none =
    ap (around_here byte b rest) (around_last-lacks byte rest (λ i l. none (suc i) (omega arith)))
    ∙ cond-false (eqb b byte) (Some ([], rest)) None (ne_eqb b byte (none 0 (omega arith)))

pub around_last-at : (byte : ℕ) (front back : List ℕ) → Lacks byte back → around_last byte (front ++ byte ∷ back) ≡ Some (front, back)
around_last-at byte [] back none =
    ap (around_here byte byte back) (around_last-lacks byte back none) ∙ cond-true (eqb byte byte) (Some ([], back))
    None (eq-eqb byte byte refl)
around_last-at byte (f ∷ front) back none = ap (around_here byte f (front ++ byte ∷ back)) (around_last-at byte front back none)

-- the clause of `rsplit_once`
pub around_of : (byte : ℕ) (text : List ℕ) (r : Option (Bor (List ℕ) × Bor (List ℕ)))
    → MatchOption r (RFindsChar byte text None) (λ x. SplitsAroundMatch (RFindsChar byte) text x.0.now x.1.now) → byte < 128
    → MatchOption r (around_last byte text ≡ None) (λ x. around_last byte text ≡ Some (x.0.now, x.1.now))
around_of byte text None none small = around_last-lacks byte text (λ i l. NoCharPasses-char byte text i none small l)
around_of byte text (Some (front, back)) (i, j, finds, is_front, is_back, le, len_front, len_back) small =
    let apart : text ≡ front.now ++ byte ∷ back.now =
    sym (take-append-drop i text) ∙ ap (λ l. take i text ++ l) (drop_at_char byte text i j finds.1 small)
    ∙ ap (λ l. l ++ byte ∷ drop j text) (sym is_front) ∙ ap (λ l. front.now ++ byte ∷ l) (sym is_back) in
    ap (around_last byte) apart
    ∙ around_last-at byte front.now back.now
    (λ k l. NoCharPasses-char byte back.now k (subst (λ s. NoCharPasses (λ d. eqb d byte) s) (sym is_back) finds.0) small l)

pub or_slash-empty : (text : List ℕ) → eqb (length text) 0 ≡ true → or_slash text ≡ 47 ∷ []
or_slash-empty [] e = refl
or_slash-empty (b ∷ rest) e = absurd (omega (arith, eqb-true (length (b ∷ rest)) 0 e))

pub or_slash-other : (text : List ℕ) → eqb (length text) 0 ≡ false → or_slash text ≡ text
or_slash-other [] e = absurd (true≢false e)
or_slash-other (b ∷ rest) e = refl
