-- What is cut off a text before the first reference that doesn't end is cut the same alone.
use Rattle.std.proofs.Common.{◌≡◌, ℕ, zero, suc, ◌+◌, ◌≤◌, List, [], ◌∷◌, ◌++◌, length, take, drop, get_or, Option, Some, None, IfSome}
use Rattle.std.proofs.Common.{refl, sym, ap, subst, ◌∙◌, arith, cond, inl, inr, length-append, length-drop}
use Rattle.std.proofs.lemmas.Bool.Decides.{eqb_tells}
use Rattle.std.proofs.lemmas.List.{drop_more, take_at}
use Rattle.mk_ref.specs.Places.{IsUnclosedAt}
use Rattle.mk_ref.specs.Atoms.{TextAtom, Byte, source, sources, opening_after, atom_before, atom_by, up_to_mark, first_atom, cut_on, cut}
use Rattle.mk_ref.specs.Atoms.{atoms_of, left_of}
use Rattle.mk_ref.proofs.AtomSteps.{IsAtomOf, first_whole, first-nil, cut-next, atoms-text}
use Rattle.mk_ref.proofs.PartSteps.{StartsLike, first_same}

pub record IsCutAlone (text : List ℕ) : Type 0 where
  pub ends : first_atom (left_of text) ≡ None
  pub alone : cut (sources (atoms_of text)) ≡ (atoms_of text, [])

pub cut-nil : cut [] ≡ ([], [])
cut-nil = cut-next [] ∙ ap (cut_on cut []) first-nil

starts_front : (front back : List ℕ) → StartsLike (front ++ back) front
starts_front [] back = tt
starts_front (b ∷ front) back = refl

alone_none : (text : List ℕ) → first_atom text ≡ None → IsCutAlone text
alone_none text none =
    let whole : cut text ≡ ([], text) = cut-next text ∙ ap (cut_on cut text) none in
    record {
      ends = ap (λ x. first_atom x.1) whole ∙ none;
      alone = ap (λ x. cut (sources x.0)) whole ∙ cut-nil ∙ ap (λ x. (x.0, [])) (sym whole);
    }

alone_some : (text : List ℕ) (atom : TextAtom) (rest : List ℕ) → first_atom text ≡ Some (atom, rest) → IsCutAlone rest → IsCutAlone text
alone_some text atom rest is h =
    let whole : cut text ≡ atom_before atom (cut rest) = cut-next text ∙ ap (cut_on cut text) is in
    let after : List ℕ = sources (atoms_of rest) in
    let like : StartsLike rest after = subst (λ l. StartsLike l after) (atoms-text rest) (starts_front after (left_of rest)) in
    let step : cut (source atom ++ after) ≡ atom_before atom (cut after) =
    cut-next (source atom ++ after) ∙ ap (cut_on cut (source atom ++ after)) (first_same text atom rest after is like) in
    record {
      ends = ap (λ x. first_atom x.1) whole ∙ h.ends;
      alone = ap (λ x. cut (sources x.0)) whole ∙ step ∙ ap (atom_before atom) h.alone ∙ ap (λ x. (x.0, [])) (sym whole);
    }

alone_first : (bound : ℕ) (text : List ℕ) (first : Option (TextAtom × List ℕ)) → first_atom text ≡ first
    → IfSome first (λ x. IsAtomOf text x.0 x.1)
    → length text ≤ suc bound → ((rest : List ℕ) → length rest ≤ bound → IsCutAlone rest) → IsCutAlone text
alone_first bound text None is whole near h = alone_none text is
alone_first bound text (Some x) is whole near h =
    alone_some text x.0 x.1 is (h x.1 (omega (arith, near, whole.some, ap length whole.whole, length-append (source x.0) x.1)))

alone_by : (bound : ℕ) (text : List ℕ) → length text ≤ bound → IsCutAlone text
alone_by zero [] near = alone_none [] first-nil
alone_by zero (b ∷ text) near = absurd (omega (arith, near))
alone_by (suc bound) text near = alone_first bound text (first_atom text) refl (first_whole text) near (alone_by bound)

pub cut-alone : (text : List ℕ) → IsCutAlone text
cut-alone text = alone_by (length text) text (omega arith)

-- a reference that doesn't end begins with a dollar
unended : (b : ℕ) (rest : List ℕ) → first_atom (b ∷ rest) ≡ None → b ≡ 36
unfolding first_atom
unended b rest none =
    elim (eqb_tells b 36) [
      | inl dollar ↦ dollar.1
      | inr other ↦ absurd (let no : Some (Byte b, rest) ≡ None = ap (λ t. atom_by up_to_mark (cond t (opening_after rest) None) (b ∷ rest))
          (sym other.0) ∙ none in cc)
    ]

pub unclosed-dollar : (text : List ℕ) (at : ℕ) → IsUnclosedAt text at → get_or text at 0 ≡ 36
unclosed-dollar text at is =
    unended (get_or text at 0) (drop (at + 1) text) (ap first_atom (sym (is.left ∙ drop_more text at 0 is.inside)) ∙ (cut-alone text).ends)

-- what is before it, cut alone
pub cut-front : (text : List ℕ) (at : ℕ) → IsUnclosedAt text at → cut (take at text) ≡ (atoms_of text, [])
cut-front text at is =
    let front : List ℕ = sources (atoms_of text) in
    let whole : front ++ drop at text ≡ text = ap (λ l. front ++ l) (sym is.left) ∙ atoms-text text in
    let size : length front ≡ at = omega (arith, is.inside, ap length whole, length-append front (drop at text), length-drop at text) in
    ap (λ l. cut (take at l)) (sym whole) ∙ ap cut (take_at front (drop at text) at size) ∙ (cut-alone text).alone

-- in what is before it every reference ends
pub front-ends : (text front : List ℕ) (at other : ℕ) → IsUnclosedAt text at → front ≡ take at text → IsUnclosedAt front other → ⊥
front-ends text front at other is same again =
    let none : drop other front ≡ [] = sym again.left ∙ ap (λ l. (cut l).1) same ∙ ap (λ x. x.1) (cut-front text at is) in
    omega (arith, again.inside, ap length none, length-drop other front)
