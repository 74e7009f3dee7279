-- What is left of a line where a pass is, step by step.
use Rattle.std.proofs.Common.{◌≡◌, ℕ, ◌+◌, ◌-◌, ◌<◌, true, false, cond, List, [], ◌∷◌, ◌++◌, length, take, drop, get_or, Option, Some, None}
use Rattle.std.proofs.Common.{option_map, IfSome, Result, Ok, Err, refl, sym, ap, subst, ◌∙◌, arith, inl, inr, append-nil, length-append}
use Rattle.std.proofs.lemmas.Option.{none-some, same_Some}
use Rattle.std.proofs.lemmas.List.{take_at, drop_at, drop_more}
use Rattle.mk_base.specs.declared.faults.FaultKind.{FaultKind}
use Rattle.mk_base.specs.Meter.{Meter, pay}
use Rattle.mk_base.specs.Outcome.{Work, after, each, give}
use Rattle.mk_ref.specs.declared.opening.Opening.TheVariants.{Marked}
use Rattle.mk_ref.specs.Atoms.{TextAtom, sources, opening_of, marked_reference, marked_first, atom_before, with_more, up_to_mark}
use Rattle.mk_ref.specs.Atoms.{first_atom, cut_on, cut}
use Rattle.mk_ref.specs.Laws.{AreMarks, AreCutAlone}
use Rattle.mk_ref.proofs.AtomSteps.{up_to-cons, cut-next}
use Rattle.mk_ref.proofs.ScanSteps.{up_to-atom, first-marked}
use Rattle.mk_ref.proofs.PartSteps.{inside-alone}
use Rattle.mk_env.specs.Texts.{Variables}
use Rattle.mk_env.specs.Expansion.{modified_by}
use Rattle.mk_loop.specs.LoopWords.{LoopWords}
use Rattle.mk_loop.specs.BodyLine.{SoFar, nothing, as_written, with_loop_word, finished, inside, closing, stays, modified_word}
use Rattle.mk_loop.specs.BodyLine.{put_reference, put_atom, put}
use Rattle.mk_loop.specs.Places.{Surround, Staying, Changing, Left, Outermost, Within, mark_of, surrounds, IsLeft, close_reference, goes}
use Rattle.mk_loop.specs.Places.{closes_first}
use Rattle.mk_loop.proofs.Rolls.{put-atoms, put-nothing}

-- what is left with one more atom in front
abbrev pub with_atom : TextAtom → Left → Left
with_atom atom (Outermost atoms) = Outermost (atom ∷ atoms)
with_atom atom (Within atoms surround left) = Within (atom ∷ atoms) surround left

-- what is left begins with this atom
pub record BeginsWith (left : Left) (atom : TextAtom) (rest : List ℕ) : Type 0 where
  pub more : Left
  pub is : left ≡ with_atom atom more
  pub atoms : IsLeft more rest
  pub around : surrounds more ≡ surrounds left

split-read : (atom : TextAtom) (read : Option (List TextAtom × List ℕ)) (atoms : List TextAtom) (rest : List ℕ)
    → option_map (atom_before atom) read ≡ Some (atoms, rest)
    → (more : List TextAtom) × ((atoms ≡ atom ∷ more) × (read ≡ Some (more, rest)))
split-read atom None atoms rest is = cc
split-read atom (Some x) atoms rest is =
    let same = same_Some (atom ∷ x.0, x.1) (atoms, rest) is in
    (x.0, (sym (ap (λ y. y.0) same), ap (λ l. Some (x.0, l)) (ap (λ y. y.1) same)))

pub begins-with : (left : Left) (b : ℕ) (behind : List ℕ) (atom : TextAtom) (rest : List ℕ) → IsLeft left (b ∷ behind)
    → first_atom (b ∷ behind) ≡ Some (atom, rest)
    → closes_first (surrounds left) b ≡ false → BeginsWith left atom rest
begins-with (Outermost atoms) b behind atom rest is first other =
    let same : (atoms, []) ≡ atom_before atom (cut rest) = sym is ∙ cut-next (b ∷ behind) ∙ ap (cut_on cut (b ∷ behind)) first in
    record {
      more = Outermost (cut rest).0;
      is = ap (λ x. Outermost x.0) same;
      atoms = ap (λ l. ((cut rest).0, l)) (sym (ap (λ x. x.1) same));
      around = refl;
    }
begins-with (Within atoms surround left) b behind atom rest is first other =
    let mark = mark_of surround in
    let read : option_map (atom_before atom) (up_to_mark mark rest) ≡ Some (atoms, is.0) =
    sym (ap (with_more (up_to_mark mark)) first) ∙ sym (up_to-atom mark b behind other) ∙ is.1.0 in
    let split = split-read atom (up_to_mark mark rest) atoms is.0 read in
    record {
      more = Within split.0 surround left;
      is = ap (λ l. Within l surround left) split.1.0;
      atoms = (is.0, (split.1.1, is.1.1));
      around = refl;
    }

-- where something is left of a text, it begins with an atom
pub begins : (left : Left) (b : ℕ) (behind : List ℕ) → IsLeft left (b ∷ behind) → closes_first (surrounds left) b ≡ false
    → first_atom (b ∷ behind) ≡ None → ⊥
begins (Outermost atoms) b behind is other none =
    let whole : cut_on cut (b ∷ behind) None ≡ (atoms, []) = sym (ap (cut_on cut (b ∷ behind)) none) ∙ sym (cut-next (b ∷ behind)) ∙ is in
    let no : b ∷ behind ≡ [] = ap (λ x. x.1) whole in cc
begins (Within atoms surround left) b behind is other none =
    none-some (atoms, is.0) (sym (ap (with_more (up_to_mark (mark_of surround))) none)
    ∙ sym (up_to-atom (mark_of surround) b behind other) ∙ is.1.0)

-- the innermost reference ends here
pub record Closes (left : Left) (rest : List ℕ) : Type 0 where
  pub surround : Surround
  pub more : Left
  pub is : left ≡ Within [] surround more
  pub atoms : IsLeft more rest
  pub around : surrounds left ≡ surround ∷ surrounds more

pub closes-left : (left : Left) (b : ℕ) (behind : List ℕ) → IsLeft left (b ∷ behind)
    → closes_first (surrounds left) b ≡ true → Closes left behind
closes-left (Outermost atoms) b behind is shut = cc
closes-left (Within atoms surround left) b behind is shut =
    let mark = mark_of surround in
    let read : Some ([], behind) ≡ Some (atoms, is.0) =
    sym (ap (λ t. cond t (Some ([], behind)) (with_more (up_to_mark mark) (first_atom (b ∷ behind)))) shut)
    ∙ sym (up_to-cons mark b behind) ∙ is.1.0 in
    let same = same_Some ([], behind) (atoms, is.0) read in
    record {
      surround = surround;
      more = left;
      is = ap (λ l. Within l surround left) (sym (ap (λ x. x.0) same));
      atoms = subst (IsLeft left) (sym (ap (λ x. x.1) same)) is.1.1;
      around = refl;
    }

-- a reference with marks begins here
pub record BeginsMarked (left : Left) (line : List ℕ) (at mark : ℕ) : Type 0 where
  pub atoms : List TextAtom
  pub rest : List ℕ
  pub read : up_to_mark mark (drop (at + 2) line) ≡ Some (atoms, rest)
  pub begins : BeginsWith left (marked_reference (take 2 (drop at line)) atoms mark) rest
  pub alone : AreCutAlone atoms

begins-marked-by : (left : Left) (line : List ℕ) (at mark : ℕ) (read : Option (List TextAtom × List ℕ)) → at < length line
    → IsLeft left (drop at line)
    → closes_first (surrounds left) (get_or line at 0) ≡ false → opening_of (drop at line) ≡ Some (Marked mark)
    → up_to_mark mark (drop (at + 2) line) ≡ read
    → BeginsMarked left line at mark
begins-marked-by left line at mark None near is other opens read =
    let here = drop_more line at 0 near in
    absurd (begins left (get_or line at 0) (drop (at + 1) line) (subst (IsLeft left) here is) other
    (ap first_atom (sym here) ∙ first-marked line at mark opens ∙ ap (option_map (marked_first (take 2 (drop at line)) mark)) read))
begins-marked-by left line at mark (Some x) near is other opens read =
    let here = drop_more line at 0 near in
    record {
      atoms = x.0;
      rest = x.1;
      read = read;
      begins = begins-with left (get_or line at 0) (drop (at + 1) line) (marked_reference (take 2 (drop at line)) x.0 mark) x.1
          (subst (IsLeft left) here is)
          (ap first_atom (sym here) ∙ first-marked line at mark opens ∙ ap (option_map (marked_first (take 2 (drop at line)) mark)) read)
          other;
      alone = subst (λ o. IfSome o (λ y. AreCutAlone y.0)) read (inside-alone mark (drop (at + 2) line));
    }

pub begins-marked : (left : Left) (line : List ℕ) (at mark : ℕ) → at < length line → IsLeft left (drop at line)
    → closes_first (surrounds left) (get_or line at 0) ≡ false → opening_of (drop at line) ≡ Some (Marked mark)
    → BeginsMarked left line at mark
begins-marked left line at mark near is other opens = begins-marked-by left line at mark (up_to_mark mark (drop (at + 2) line))
    near is other opens refl

-- two bytes, and a mark after them
body-of : (a b mark : ℕ) (body : List ℕ) → inside (a ∷ b ∷ body ++ mark ∷ []) ≡ body
body-of a b mark body =
    let size : length (a ∷ b ∷ body ++ mark ∷ []) - 3 ≡ length body = omega (arith, length-append body (mark ∷ [])) in
    ap (λ n. take n (body ++ mark ∷ [])) size ∙ take_at body (mark ∷ []) (length body) refl

mark-of : (a b mark : ℕ) (body : List ℕ) → closing (a ∷ b ∷ body ++ mark ∷ []) ≡ mark ∷ []
mark-of a b mark body = ap (λ l. drop (length l) (body ++ mark ∷ [])) (body-of a b mark body) ∙ drop_at body (mark ∷ []) (length body) refl

after-twice : {M F A B C : Type 0} (r : Result (A × M) (F × M)) (first : A → Work M F B) (second : B → Work M F C)
    → after (after r first) second ≡ after r (λ x m. after (first x m) second)
after-twice (Ok end) first second = refl
after-twice (Err end) first second = refl

module _ (words : LoopWords) (variables : Variables) where
  -- an atom with the words put in
  abbrev pub iteration : SoFar → TextAtom → Work Meter FaultKind SoFar
  iteration = put_atom words variables (put words variables)

  pub goes-atom : (atom : TextAtom) (left : Left) (here : SoFar) (m : Meter) → goes words variables (with_atom atom left) here m ≡ after
      (iteration here atom m) (λ next m'. goes words variables left next m')
  unfolding each
  goes-atom atom (Outermost atoms) here m = after-twice (iteration here atom m) (λ next. each iteration next atoms) finished
  goes-atom atom (Within atoms surround left) here m =
      ap (λ r. after r (λ next m'. goes words variables left next m'))
      (after-twice (iteration here atom m) (λ next. each iteration next atoms) (close_reference variables surround))
      ∙ after-twice (iteration here atom m) (λ next m'. after (each iteration next atoms m') (close_reference variables surround))
      (λ next m'. goes words variables left next m')

  pub goes-closed : (surround : Surround) (left : Left) (here : SoFar) (m : Meter) → goes words variables (Within [] surround left) here m ≡
      after (close_reference variables surround here m) (λ next m'. goes words variables left next m')
  unfolding each
  goes-closed surround left here m = refl

  pub goes-nothing : (here : SoFar) (m : Meter) → goes words variables (Outermost []) here m ≡ finished here m
  unfolding each
  goes-nothing here m = refl

  stays-two : (a b mark : ℕ) (atoms : List TextAtom) (here : SoFar) (m : Meter) → cut (sources atoms) ≡ (atoms, [])
      → stays (put words variables) here (a ∷ b ∷ sources atoms ++ mark ∷ []) m ≡ after
      (each iteration (as_written here (a ∷ b ∷ [])) atoms m) (close_reference variables (Staying mark))
  stays-two a b mark atoms here m alone =
      ap (λ l. after (put words variables (as_written here (a ∷ b ∷ [])) l m)
      (λ found. give (as_written found (closing (a ∷ b ∷ sources atoms ++ mark ∷ []))))) (body-of a b mark (sources atoms))
      ∙ ap (λ l. after (put words variables (as_written here (a ∷ b ∷ [])) (sources atoms) m) (λ found. give (as_written found l)))
      (mark-of a b mark (sources atoms))
      ∙ ap (λ r. after r (λ found. give (as_written found (mark ∷ [])))) (put-atoms words variables (as_written here (a ∷ b ∷ []))
      (sources atoms) m ∙ ap (λ x. each iteration (as_written here (a ∷ b ∷ [])) x.0 m) alone)

  -- a reference with marks that stays
  pub stays-marked : (front : List ℕ) (mark : ℕ) (atoms : List TextAtom) (here : SoFar) (m : Meter) → AreMarks front mark
      → cut (sources atoms) ≡ (atoms, [])
      → stays (put words variables) here (front ++ sources atoms ++ mark ∷ []) m ≡ after (each iteration (as_written here front) atoms m)
      (close_reference variables (Staying mark))
  stays-marked front mark atoms here m marks alone =
      let P : List ℕ → Type 0 = λ f. stays (put words variables) here (f ++ sources atoms ++ mark ∷ []) m ≡ after
      (each iteration (as_written here f) atoms m) (close_reference variables (Staying mark)) in
      elim marks [
        | inl brace ↦ subst P (sym brace.0) (stays-two 36 123 mark atoms here m alone)
        | inr parenthesis ↦ subst P (sym parenthesis.0) (stays-two 36 40 mark atoms here m alone)
      ]

  -- a reference of one letter that stays
  pub stays-letter : (a b : ℕ) (here : SoFar) (m : Meter) → stays (put words variables) here (a ∷ b ∷ []) m ≡ Ok
      (as_written here (a ∷ b ∷ []), m)
  stays-letter a b here m =
      ap (λ r. after r (λ found. give (as_written found []))) (put-nothing words variables (as_written here (a ∷ b ∷ [])) m)
      ∙ ap (λ l. Ok (record here { text = l }, m)) (append-nil (here.text ++ a ∷ b ∷ []))

  -- a reference that is replaced, once it is paid for
  pub replaced-paid : (here : SoFar) (written : List ℕ) (modifiers : Option (List ℕ)) (word : List ℕ) (m m' : Meter)
      (unit : Unit {0}) → pay m ≡ Ok (unit, m')
      → put_reference variables (put words variables) here written modifiers (Some word) m ≡ after
      (modified_word variables (put words variables) modifiers word m') (λ found. with_loop_word here found)
  replaced-paid here written modifiers word m m' unit paid =
      ap (λ r. after r (λ _ m''. after (modified_word variables (put words variables) modifiers word m'')
      (λ found. with_loop_word here found))) paid

  pub replaced-unpaid : (here : SoFar) (written : List ℕ) (modifiers : Option (List ℕ)) (word : List ℕ) (m : Meter)
      (stop : FaultKind × Meter) → pay m ≡ Err stop
      → put_reference variables (put words variables) here written modifiers (Some word) m ≡ Err stop
  replaced-unpaid here written modifiers word m stop unpaid =
      ap (λ r. after r (λ _ m''. after (modified_word variables (put words variables) modifiers word m'')
      (λ found. with_loop_word here found))) unpaid

  -- what the modifiers of a replaced reference make of its word
  pub goes-changing : (atoms : List TextAtom) (mark : ℕ) (word : List ℕ) (here : SoFar) (left : Left) (m : Meter)
      → cut (sources atoms) ≡ (atoms, [])
      → after (after (modified_word variables (put words variables) (Some (sources atoms)) word m) (λ found. with_loop_word here found))
      (λ next m'. goes words variables left next m')
      ≡ goes words variables (Within atoms (Changing mark word here) left) nothing m
  goes-changing atoms mark word here left m alone =
      ap (λ r. after (after (after (after r finished) (λ text. modified_by variables text word)) (λ found. with_loop_word here found))
      (λ next m'. goes words variables left next m'))
      (put-atoms words variables nothing (sources atoms) m ∙ ap (λ x. each iteration nothing x.0 m) alone)
      ∙ ap (λ r. after r (λ next m'. goes words variables left next m'))
      (after-twice (after (each iteration nothing atoms m) finished) (λ text. modified_by variables text word)
      (λ found. with_loop_word here found)
      ∙ after-twice (each iteration nothing atoms m) finished (λ text m'. after (modified_by variables text word m')
      (λ found. with_loop_word here found)))
