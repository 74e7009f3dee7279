-- Putting words into a text, without the bound on its references.
use Rattle.std.proofs.Common.{◌≡◌, ℕ, zero, suc, ◌+◌, ◌-◌, ◌<◌, ◌≤◌, List, [], ◌∷◌, ◌++◌, length, take, drop, Option, Some, None, IfSome}
use Rattle.std.proofs.Common.{All, Result, Ok, Err, refl, sym, ap, subst, ◌∙◌, arith, inl, inr, length-append, length-take}
use Rattle.std.proofs.lemmas.List.Elements.{All-nil, All-cons, All-head, All-tail}
use Rattle.mk_base.specs.declared.faults.FaultKind.{FaultKind}
use Rattle.mk_base.specs.Meter.{Meter, pay}
use Rattle.mk_base.specs.Outcome.{Work, after, each, give}
use Rattle.mk_ref.specs.Atoms.{TextAtom, Byte, EscapedDollar, Reference, source, sources, atoms_of, left_of, cut, cut_on}
use Rattle.mk_ref.specs.Laws.{AreMarks, IsPutTogether, with_colon}
use Rattle.mk_ref.proofs.AtomSteps.{atoms-text, atoms-together, cut-next, first-nil}
use Rattle.mk_env.specs.Texts.{Variables}
use Rattle.mk_env.specs.Expansion.{modified_by}
use Rattle.mk_loop.specs.LoopWords.{LoopWords, word_named}
use Rattle.mk_loop.specs.BodyLine.{SoFar, nothing, as_written, with_loop_word, finished, Puts, inside, closing, modified_word}
use Rattle.mk_loop.specs.BodyLine.{put_reference, put_atom, put_by, put}

-- what is in a reference is shorter than this
abbrev pub HasSmallParts : ℕ → TextAtom → Type 0
HasSmallParts size (Byte b) = Unit {0}
HasSmallParts size EscapedDollar = Unit {0}
HasSmallParts size (Reference written name modifiers) = (length (inside written) < size) × IfSome modifiers (λ text. length text < size)

inside-small : (written : List ℕ) (size : ℕ) → 0 < length written → length written ≤ size → length (inside written) < size
inside-small written size some near = omega (arith, some, near, length-take (length written - 3) (drop 2 written))

modifiers-small : (front name : List ℕ) (mark size : ℕ) (modifiers : Option (List ℕ))
    → length (front ++ name ++ with_colon modifiers ++ mark ∷ []) ≤ size
    → IfSome modifiers (λ text. length text < size)
modifiers-small front name mark size None near = tt
modifiers-small front name mark size (Some text) near =
    omega (arith, near, length-append ((front ++ name) ++ 58 ∷ text) (mark ∷ []), length-append (front ++ name) (58 ∷ text))

front-some : (front : List ℕ) (mark : ℕ) → AreMarks front mark → 0 < length front
front-some front mark marks = elim marks [
  | inl brace ↦ subst (λ l. 0 < length l) (sym brace.0) (omega arith)
  | inr
      parenthesis ↦ subst (λ l. 0 < length l) (sym parenthesis.0) (omega arith)
]

parts-small : (atom : TextAtom) (size : ℕ) → IsPutTogether atom → length (source atom) ≤ size → HasSmallParts size atom
parts-small (Byte b) size together near = tt
parts-small EscapedDollar size together near = tt
parts-small (Reference written name modifiers) size (inl letter) near = (
  inside-small written size (subst (λ l. 0 < length l) (sym letter.written_as) (omega arith)) near,
  subst (λ o. IfSome o (λ text. length text < size)) (sym letter.bare) tt,
)
parts-small (Reference written name modifiers) size (inr marked) near =
    let some = front-some marked.front marked.mark marked.marks in
    let long : length written ≡ length marked.front + length (name ++ with_colon modifiers ++ marked.mark ∷ []) =
    ap length marked.written_as ∙ omega (
      arith,
      length-append ((marked.front ++ name) ++ with_colon modifiers) (marked.mark ∷ []),
      length-append (marked.front ++ name) (with_colon modifiers),
      length-append marked.front name,
      length-append
          (name ++ with_colon modifiers) (marked.mark ∷ []),
      length-append name (with_colon modifiers),
    ) in (
      inside-small written size (omega (arith, some, long)) near,
      modifiers-small marked.front name marked.mark size modifiers (subst (λ l. length l ≤ size) marked.written_as near),
    )

sources-small : (atoms : List TextAtom) (size : ℕ) → length (sources atoms) ≤ size → All (λ atom. length (source atom) ≤ size) atoms
sources-small [] size near = All-nil (λ atom. length (source atom) ≤ size)
sources-small (atom ∷ atoms) size near =
    All-cons (λ atom'. length (source atom') ≤ size) atom atoms (omega (arith, near, length-append (source atom) (sources atoms)))
    (sources-small atoms size (omega (arith, near, length-append (source atom) (sources atoms))))

-- what is in the references of a text is shorter than the text
pub all-small : (text : List ℕ) → All (HasSmallParts (length text)) (atoms_of text)
all-small text =
    let near = sources-small (atoms_of text) (length text)
    (omega (arith, ap length (atoms-text text), length-append (sources (atoms_of text)) (left_of text))) in
    let together = atoms-together text in
    λ k d lt. parts-small _ (length text) (together k d lt) (near k d lt)

module _ {M F S X : Type 0} (iteration other : S → X → Work M F S) where
  same-after : (xs : List X) (r : Result (S × M) (F × M)) → ((s : S) (m : M) → each iteration s xs m ≡ each other s xs m)
      → after r (λ next. each iteration next xs) ≡ after r (λ next. each other next xs)
  same-after xs (Ok end) h = h end.0 end.1
  same-after xs (Err end) h = refl

  -- walks whose steps are the same are the same
  pub each-same : (xs : List X) → All (λ x. (s : S) (m : M) → iteration s x m ≡ other s x m) xs → (s : S) (m : M)
      → each iteration s xs m ≡ each other s xs m
  unfolding each
  each-same [] h s m = refl
  each-same (x ∷ xs) h s m =
      ap (λ r. after r (λ next. each iteration next xs))
      (All-head (λ x'. (s' : S) (m' : M) → iteration s' x' m' ≡ other s' x' m') x xs h s m)
      ∙ same-after xs (other s x m) (each-same xs (All-tail (λ x'. (s' : S) (m' : M) → iteration s' x' m' ≡ other s' x' m') x xs h))

-- two ways to put words in that agree on shorter texts
abbrev pub AgreeBelow : ℕ → Puts → Puts → Type 0
AgreeBelow size puts other = (so_far : SoFar) (text : List ℕ) (m : Meter) → length text < size → puts so_far text m ≡ other so_far text m

module _ (words : LoopWords) (variables : Variables) where
  changed-same : (puts other : Puts) (size : ℕ) → AgreeBelow size puts other → (modifiers : Option (List ℕ))
      → IfSome modifiers (λ text. length text < size)
      → (word : List ℕ) (m : Meter) → modified_word variables puts modifiers word m ≡ modified_word variables other modifiers word m
  changed-same puts other size agree None small word m = refl
  changed-same puts other size agree (Some text) small word m =
      ap (λ r. after (after r finished) (λ found. modified_by variables found word)) (agree nothing text m small)

  paid-same : (puts other : Puts) (modifiers : Option (List ℕ)) (word : List ℕ) (so_far : SoFar)
      → ((m : Meter) → modified_word variables puts modifiers word m ≡ modified_word variables other modifiers word m)
      → (r : Result (Unit {0} × Meter) (FaultKind × Meter))
      → after r (λ _ m'. after (modified_word variables puts modifiers word m') (λ found. with_loop_word so_far found))
      ≡ after r (λ _ m'. after (modified_word variables other modifiers word m') (λ found. with_loop_word so_far found))
  paid-same puts other modifiers word so_far h (Ok end) = ap (λ r. after r (λ found. with_loop_word so_far found)) (h end.1)
  paid-same puts other modifiers word so_far h (Err end) = refl

  reference-same : (puts other : Puts) (size : ℕ) → AgreeBelow size puts other → (written : List ℕ) (modifiers found : Option (List ℕ))
      → length (inside written) < size → IfSome modifiers (λ text. length text < size) → (so_far : SoFar) (m : Meter)
      → put_reference variables puts so_far written modifiers found m ≡ put_reference variables other so_far written modifiers found m
  reference-same puts other size agree written modifiers None small parts so_far m =
      ap (λ r. after r (λ found. give (as_written found (closing written))))
      (agree (as_written so_far (take 2 written)) (inside written) m small)
  reference-same puts other size agree written modifiers (Some word) small parts so_far m =
      paid-same puts other modifiers word so_far (changed-same puts other size agree modifiers parts word) (pay m)

  atom-same : (puts other : Puts) (size : ℕ) → AgreeBelow size puts other → (atom : TextAtom) → HasSmallParts size atom
      → (so_far : SoFar) (m : Meter) → put_atom words variables puts so_far atom m ≡ put_atom words variables other so_far atom m
  atom-same puts other size agree (Byte b) small so_far m = refl
  atom-same puts other size agree EscapedDollar small so_far m = refl
  atom-same puts other size agree (Reference written name modifiers) small so_far m =
      reference-same puts other size agree written modifiers (word_named words name) small.0 small.1 so_far m

  atoms-same : (puts other : Puts) (text : List ℕ) → AgreeBelow (length text) puts other → (so_far : SoFar) (m : Meter)
      → each (put_atom words variables puts) so_far (atoms_of text) m ≡ each (put_atom words variables other) so_far (atoms_of text) m
  atoms-same puts other text agree so_far m =
      each-same (put_atom words variables puts) (put_atom words variables other) (atoms_of text)
      (λ k d lt. atom-same puts other (length text) agree _ (all-small text k d lt)) so_far m

  no-atoms : atoms_of [] ≡ []
  no-atoms = ap (λ x. x.0) (cut-next [] ∙ ap (cut_on cut []) first-nil)

  by-suc : (levels : ℕ) (so_far : SoFar) (text : List ℕ) (m : Meter) → put_by words variables (suc levels) so_far text m ≡ each
      (put_atom words variables (put_by words variables levels)) so_far (atoms_of text) m
  unfolding put_by
  by-suc levels so_far text m = refl

  by-nothing : (levels : ℕ) (so_far : SoFar) (m : Meter) → put_by words variables levels so_far [] m ≡ Ok (so_far, m)
  unfolding put_by each
  by-nothing zero so_far m = refl
  by-nothing (suc levels) so_far m = ap (λ atoms. each (put_atom words variables (put_by words variables levels)) so_far atoms m) no-atoms

  -- room for more references than bytes says nothing
  by-same : (levels other : ℕ) (text : List ℕ) → length text ≤ levels → length text ≤ other → (so_far : SoFar) (m : Meter)
      → put_by words variables levels so_far text m ≡ put_by words variables other so_far text m
  by-same zero other [] low high so_far m = by-nothing zero so_far m ∙ sym (by-nothing other so_far m)
  by-same zero other (b ∷ text) low high so_far m = absurd (omega arith)
  by-same (suc levels) zero [] low high so_far m = by-nothing (suc levels) so_far m ∙ sym (by-nothing zero so_far m)
  by-same (suc levels) zero (b ∷ text) low high so_far m = absurd (omega arith)
  by-same (suc levels) (suc other) text low high so_far m =
      by-suc levels so_far text m
      ∙ atoms-same (put_by words variables levels) (put_by words variables other) text
      (λ so_far' text' m' near. by-same levels other text' (omega arith) (omega arith) so_far' m') so_far m
      ∙ sym (by-suc other so_far text m)

  put-by : (levels : ℕ) (so_far : SoFar) (text : List ℕ) (m : Meter) → length text ≤ levels → put_by words variables levels so_far text m ≡
      put words variables so_far text m
  unfolding put
  put-by levels so_far text m near = by-same levels (length text) text near (omega arith) so_far m

  -- words are put into a text atom by atom
  pub put-atoms : (so_far : SoFar) (text : List ℕ) (m : Meter) → put words variables so_far text m ≡ each
      (put_atom words variables (put words variables)) so_far (atoms_of text) m
  put-atoms so_far text m =
      sym (put-by (suc (length text)) so_far text m (omega arith)) ∙ by-suc (length text) so_far text m
      ∙ atoms-same (put_by words variables (length text)) (put words variables) text (λ so_far' text' m' near. put-by (length text) so_far'
      text' m' (omega arith)) so_far m

  -- into nothing none are put
  pub put-nothing : (so_far : SoFar) (m : Meter) → put words variables so_far [] m ≡ Ok (so_far, m)
  unfolding put
  put-nothing so_far m = by-nothing zero so_far m
