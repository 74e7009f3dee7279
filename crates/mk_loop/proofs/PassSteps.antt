-- A pass over a line, step by step.
use Rattle.std.proofs.Common.{◌≡◌, ◌≢◌, ℕ, ◌+◌, ◌-◌, ◌<◌, ◌≤◌, true, false, List, [], ◌∷◌, ◌++◌, length, take, drop, get_or, map, reverse}
use Rattle.std.proofs.Common.{Option, Some, None, option_map, IfOk, IfSome, All, Result, Ok, Err, refl, sym, ap, subst, ◌∙◌, arith, cond}
use Rattle.std.proofs.Common.{inl, inr, lit<, drop-drop, append_assoc, append-nil, string_bytes}
use Rattle.std.specs.Prelude.{slice_range}
use Rattle.std.proofs.lemmas.Bool.{eqb-true}
use Rattle.std.proofs.lemmas.List.{drop_more, reverse-append, map-append}
use Rattle.std.proofs.lemmas.List.Elements.{All-pop, All-push}
use Rattle.std.proofs.lemmas.Bool.Decides.{eqb_tells}
use Rattle.std.proofs.lemmas.Str.{IsCharBoundary-after_ascii}
use Rattle.std.specs.Str.{IsUtf8, IsCharBoundary}
use Rattle.std.specs.List.{list_any}
use Rattle.mk_base.specs.declared.faults.FaultKind.{FaultKind}
use Rattle.mk_base.specs.declared.stops.PureStop.{PureStop}
use Rattle.mk_base.specs.Meter.{Meter, pay}
use Rattle.mk_base.specs.Outcome.{after}
use Rattle.mk_base.specs.Stops.{StopsPurelyAt, StopsPurelyAt-whole, GivesPurely}
use Rattle.mk_ref.specs.declared.opening.Opening.TheVariants.{Letter, Marked}
use Rattle.mk_ref.specs.Atoms.{TextAtom, Byte, Reference, source, sources, before_colon, following_colon, opening_of, marked_reference}
use Rattle.mk_ref.specs.Atoms.{atom_before, up_to_mark, first_atom, atoms_of, cut_on, cut}
use Rattle.mk_ref.proofs.AtomSteps.{opens_with, second_of, cut-next, first-nil}
use Rattle.mk_ref.proofs.ScanSteps.{first-opening}
use Rattle.general_facts.specs.Texts.{alphabetic-ascii}
use Rattle.mk_ref.proofs.PieceSteps.{MayCut, may_cut}
use Rattle.mk_ref.proofs.InsideSteps.{OccursAt, range_join, range_none}
use Rattle.mk_env.specs.Texts.{Variables}
use Rattle.mk_loop.specs.declared.pass.Around.{Around}
use Rattle.mk_loop.specs.declared.pass.Around.TheVariants as v
use Rattle.mk_loop.specs.declared.pass.Pass.{Pass}
use Rattle.mk_loop.specs.LoopWords.{LoopWords, is_reference, word_of, word_named}
use Rattle.mk_loop.specs.BodyLine.{SoFar, nothing, as_written, with_loop_word, put_reference, put}
use Rattle.mk_loop.specs.Joinings.{so_far}
use Rattle.mk_loop.specs.Places.{Staying, Changing, Left, Within, mark_of, surrounds, IsLeft, close_reference, goes, closes_first, closes}
use Rattle.mk_loop.specs.Places.{surround_of, here, HasAsciiMark, IsKeptReference, IsPlaced, HasLeft, ContinuesPass, NameEnds, EndsName}
use Rattle.mk_loop.proofs.Steps.{BeginsWith, begins-with, closes-left, begins-marked, iteration, goes-atom, goes-closed, stays-marked}
use Rattle.mk_loop.proofs.Steps.{replaced-paid, replaced-unpaid, goes-changing}

-- further bytes as they are written
written-on : (text : List ℕ) (line : List ℕ) (a b c : ℕ) → a ≤ b → b ≤ c → (text ++ slice_range line a b) ++ slice_range line b c ≡
    text ++ slice_range line a c
written-on text line a b c low high = append_assoc text (slice_range line a b) (slice_range line b c)
    ∙ ap (λ l. text ++ l) (range_join line a b c low high)

pub here-on : (line : List ℕ) (pass : Pass) (end : ℕ) (bytes : List ℕ) → pass.copied ≤ pass.at → pass.at ≤ end
    → bytes ≡ slice_range line pass.at end
    → as_written (here line pass) bytes ≡ as_written (so_far pass.joined) (slice_range line pass.copied end)
here-on line pass end bytes low high is =
    ap (λ l. record (so_far pass.joined) { text = l })
    (ap (λ l. (string_bytes pass.joined.text ++ slice_range line pass.copied pass.at) ++ l) is ∙ written-on (string_bytes pass.joined.text)
    line pass.copied pass.at end low high)

map-reverse : (items : List Around) → map surround_of (reverse items) ≡ reverse (map surround_of items)
map-reverse [] = refl
map-reverse (around ∷ items) =
    ap (map surround_of) (reverse-append (around ∷ []) items) ∙ map-append surround_of (reverse items) (around ∷ [])
    ∙ ap (λ l. l ++ surround_of around ∷ []) (map-reverse items) ∙ sym (reverse-append (surround_of around ∷ []) (map surround_of items))

-- the marks of the outer references, and that of the innermost one
pub last-mark : (items outer : List Around) (around : Around) → items ≡ outer ++ around ∷ [] → All HasAsciiMark items
    → All HasAsciiMark outer × HasAsciiMark around
last-mark items outer around is marks = All-pop HasAsciiMark items outer (Some around) is marks

-- a byte that closes the innermost reference is its mark
pub shut-mark : (pass : Pass) (outer : List Around) (around : Around) (b : ℕ) → pass.around.items ≡ outer ++ around ∷ []
    → closes pass b ≡ true → b ≡ mark_of (surround_of around)
shut-mark pass outer around b is shut =
    eqb-true b (mark_of (surround_of around))
    (sym (ap (λ l. closes_first l b) (ap (λ l. map surround_of (reverse l)) is ∙ ap (map surround_of) (reverse-append outer (around ∷ []))))
    ∙ shut)

-- the mark that an opening tells is one byte
pub ascii-mark : (text : List ℕ) (mark : ℕ) → opening_of text ≡ Some (Marked mark) → mark < 128
ascii-mark text mark opens = elim (opens_with text (Marked mark) opens).front [
  | inl brace ↦ subst (λ n. n < 128) (sym brace.1) (lit< tt)
  | inr parenthesis ↦ subst (λ n. n < 128) (sym parenthesis.1) (lit< tt)
]

-- a pass that goes on into a reference that stays
pub kept-placed : (line : List ℕ) (pass next : Pass) (mark : ℕ) → IsPlaced line pass → pass.at + 2 ≤ length line → mark < 128
    → next.joined ≡ pass.joined → next.around.items ≡ pass.around.items ++ v.Kept mark ∷ []
    → next.copied ≡ pass.copied → next.at ≡ pass.at + 2 → IsPlaced line next
kept-placed line pass next mark placed room ascii joined around copied at = record {
  text = placed.text;
  ordered = omega (arith, placed.ordered, copied, at);
  within = omega (arith, room, at);
  starts = subst (IsCharBoundary line) (sym copied) placed.starts;
  marks = subst (All HasAsciiMark) (sym around) (All-push HasAsciiMark pass.around.items (v.Kept mark) placed.marks ascii);
  untouched = λ none. ap so_far joined ∙ placed.untouched (sym copied ∙ none);
  kept = λ none. subst (All IsKeptReference) (sym around) (All-push IsKeptReference pass.around.items (v.Kept mark)
      (placed.kept (sym copied ∙ none)) tt);
}

-- a pass after a byte, up to which nothing is left to copy
pub after-placed : (line : List ℕ) (next : Pass) (end : ℕ) → IsUtf8 line → end < length line → get_or line end 0 < 128
    → All HasAsciiMark next.around.items
    → next.copied ≡ end + 1 → next.at ≡ end + 1 → IsPlaced line next
after-placed line next end text near ascii marks copied at = record {
  text = text;
  ordered = omega (arith, copied, at);
  within = omega (arith, near, at);
  starts = subst (IsCharBoundary line) (sym copied) (IsCharBoundary-after_ascii line end text near ascii);
  marks = marks;
  untouched = λ none. absurd (omega (arith, none, copied));
  kept = λ none. absurd (omega (arith, none, copied));
}

-- the same of a pass that put a word in
pub put-placed : (line : List ℕ) (pass : Pass) (end : ℕ) (result : Result Pass (PureStop FaultKind)) → IsPlaced line pass
    → end < length line → get_or line end 0 < 128
    → IfOk result (λ next. next.around.items ≡ pass.around.items) → IfOk result (λ next. next.copied ≡ end + 1)
    → IfOk result (λ next. next.at ≡ end + 1) → IfOk result (λ next. IsPlaced line next)
put-placed line pass end (Ok next) placed near ascii around copied at = after-placed line next end placed.text near ascii
    (subst (All HasAsciiMark) (sym around) placed.marks) copied at
put-placed line pass end (Err stop) placed near ascii around copied at = tt

-- a name with a reference in it is that of no loop's variable
pub named-none : (words : LoopWords) (atoms : List TextAtom) → cut (sources atoms) ≡ (atoms, []) → list_any is_reference atoms ≡ true
    → word_named words (sources atoms) ≡ None
named-none words atoms alone any =
    ap (λ t. cond t None (word_of words (sources atoms))) (ap (λ x. list_any is_reference x.0) alone ∙ any)

pub named-plain : (words : LoopWords) (atoms : List TextAtom) → cut (sources atoms) ≡ (atoms, []) → list_any is_reference atoms ≡ false
    → word_named words (sources atoms) ≡ word_of words (sources atoms)
named-plain words atoms alone none =
    ap (λ t. cond t None (word_of words (sources atoms))) (ap (λ x. list_any is_reference x.0) alone ∙ none)

alone-byte : (n : ℕ) → opening_of (n ∷ []) ≡ None
alone-byte n = elim (eqb_tells n 36) [ inl dollar ↦ rw dollar.0 refl | inr other ↦ rw other.0 refl ]

-- the word of the variable that a reference names whose name ends here
pub name-word : (words : LoopWords) (line : List ℕ) (start mark end : ℕ) (atoms : List TextAtom) (rest text : List ℕ)
    → NameEnds line start mark end atoms rest
    → cut (sources (before_colon atoms)) ≡ (before_colon atoms, []) → text ≡ slice_range line start end
    → word_named words (sources (before_colon atoms)) ≡ word_of words text
name-word words line start mark end atoms rest text ends alone is = named-plain words (before_colon atoms) alone ends.plain
    ∙ ap (word_of words) (ends.name ∙ sym is)

cut-letter : (b : ℕ) → cut (b ∷ []) ≡ (Byte b ∷ [], [])
cut-letter b =
    cut-next (b ∷ []) ∙ ap (cut_on cut (b ∷ [])) (first-opening (b ∷ []) None (alone-byte b))
    ∙ ap (atom_before (Byte b)) (cut-next [] ∙ ap (cut_on cut []) first-nil)

-- a reference of one letter at a place
pub record LetterAt (line : List ℕ) (at : ℕ) : Type 0 where
  pub letter : ℕ
  pub written : take 2 (drop at line) ≡ 36 ∷ letter ∷ []
  pub name : take 1 (drop 1 (drop at line)) ≡ letter ∷ []
  pub cuts : MayCut line at
  pub within : slice_range line (at + 1) (at + 2) ≡ take 1 (drop 1 (drop at line))
  pub ascii : get_or line (at + 1) 0 < 128

pub letter-at : (line : List ℕ) (at : ℕ) → IsUtf8 line → at + 2 ≤ length line → opening_of (drop at line) ≡ Some Letter → LetterAt line at
letter-at line at text room opens =
    let front = (opens_with (drop at line) Letter opens).front in
    let name = second_of (drop at line) front.0 front.2 in
    let here : drop 1 (drop at line) ≡ drop (at + 1) line = drop-drop 1 at line in
    let first : take 1 (drop (at + 1) line) ≡ get_or line (at + 1) 0 ∷ [] = ap (take 1) (drop_more line (at + 1) 0 (omega arith)) in
    let byte : front.0 ≡ get_or line (at + 1) 0 = ap (λ l. get_or l 0 0) (sym name ∙ ap (take 1) here ∙ first) in
    record {
      letter = front.0;
      written = front.2;
      name = name;
      cuts = may_cut line at Letter text room opens;
      within = ap (λ n. take n (drop (at + 1) line)) (let e : (at + 2) - (at + 1) ≡ 1 = omega arith in e) ∙ ap (take 1) (sym here);
      ascii = subst (λ b. b < 128) byte (alphabetic-ascii front.0 front.1);
    }

-- the word of the variable that it names, if there is one; `text` is its name
pub letter-word : (words : LoopWords) (line : List ℕ) (at : ℕ) (text : List ℕ) (word : Option (List ℕ)) → LetterAt line at
    → text ≡ slice_range line (at + 1) (at + 2)
    → word ≡ word_of words text → word_named words (take 1 (drop 1 (drop at line))) ≡ word
letter-word words line at text word h is found =
    ap (λ l. cond (list_any is_reference (atoms_of l)) None (word_of words (take 1 (drop 1 (drop at line))))) h.name
    ∙ ap (λ x. cond (list_any is_reference x.0) None (word_of words (take 1 (drop 1 (drop at line))))) (cut-letter h.letter)
    ∙ ap (word_of words) (sym (is ∙ h.within)) ∙ sym found

module _ (words : LoopWords) (variables : Variables) (line : List ℕ) where
  pub begin : (pass : Pass) (left : Left) (atom : TextAtom) (end : ℕ) → pass.at < length line → OccursAt line pass.at end atom
      → closes pass (get_or line pass.at 0) ≡ false → HasLeft line pass left
      → BeginsWith left atom (drop end line)
  begin pass left atom end near standing other stands =
      let first = drop_more line pass.at 0 near in
      begins-with left (get_or line pass.at 0) (drop (pass.at + 1) line) atom (drop end line) (subst (IsLeft left) first stands.atoms)
      (ap first_atom (sym first) ∙ standing.first) (ap (λ l. closes_first l (get_or line pass.at 0)) stands.around ∙ other)

  -- past an atom that stays as it is written
  pub pass-on : (pass : Pass) (end : ℕ) (atom : TextAtom) (left : Left) (m : Meter) → IsPlaced line pass → pass.at < length line
      → OccursAt line pass.at end atom
      → closes pass (get_or line pass.at 0) ≡ false
      → ((before : SoFar) → iteration words variables before atom m ≡ Ok (as_written before (source atom), m)) → HasLeft line pass left
      → ContinuesPass words variables line pass left m (Ok (record pass { at = end })) m
  pass-on pass end atom left m placed near standing other same stands =
      let begins = begin pass left atom end near standing other stands in (
        begins.more,
        (
          record { atoms = begins.atoms; around = begins.around ∙ stands.around },
          ap (λ l. goes words variables l (here line pass) m) begins.is ∙ goes-atom words variables atom begins.more (here line pass) m
              ∙ ap (λ r. after r (λ next m'. goes words variables begins.more next m')) (same (here line pass))
              ∙ ap (λ s. goes words variables begins.more s m)
              (here-on line pass end (source atom) placed.ordered (omega (arith, standing.later)) standing.written),
        ),
      )

  -- into a reference that stays
  pub pass-keep : (pass next : Pass) (mark : ℕ) (left : Left) (m : Meter) → IsPlaced line pass → pass.at + 2 ≤ length line
      → opening_of (drop pass.at line) ≡ Some (Marked mark)
      → closes pass (get_or line pass.at 0) ≡ false
      → ((atoms : List TextAtom) (rest : List ℕ) → up_to_mark mark (drop (pass.at + 2) line) ≡ Some (atoms, rest)
      → cut (sources (before_colon atoms)) ≡ (before_colon atoms, []) → word_named words (sources (before_colon atoms)) ≡ None)
      → next.joined ≡ pass.joined → next.around.items ≡ pass.around.items ++ v.Kept mark ∷ []
      → next.copied ≡ pass.copied → next.at ≡ pass.at + 2
      → HasLeft line pass left → ContinuesPass words variables line pass left m (Ok next) m
  pass-keep pass next mark left m placed room opens other none joined around copied at stands =
      let near : pass.at < length line = omega arith in
      let marked = begins-marked left line pass.at mark near stands.atoms
      (ap (λ l. closes_first l (get_or line pass.at 0)) stands.around ∙ other) opens in
      let front = take 2 (drop pass.at line) in
      let atom = marked_reference front marked.atoms mark in
      let begins = marked.begins in
      let two : front ≡ slice_range line pass.at (pass.at + 2) = ap (λ n. take n (drop pass.at line))
      (let e : 2 ≡ (pass.at + 2) - pass.at = omega arith in e) in (
        Within marked.atoms (Staying mark) begins.more,
        (
          record {
            atoms = (marked.rest, (ap (λ n. up_to_mark mark (drop n line)) at ∙ marked.read, begins.atoms));
            around = ap (λ l. Staying mark ∷ l) (begins.around ∙ stands.around)
                ∙ ap (map surround_of) (sym (ap reverse around ∙ reverse-append pass.around.items (v.Kept mark ∷ [])));
          },
          ap (λ l. goes words variables l (here line pass) m) begins.is ∙ goes-atom words variables atom begins.more (here line pass) m
              ∙ ap (λ found. after (put_reference variables (put words variables) (here line pass) (source atom)
              (option_map sources (following_colon marked.atoms)) found m) (λ next' m'. goes words variables begins.more next' m'))
              (none marked.atoms marked.rest marked.read marked.alone.name)
              ∙ ap (λ r. after r (λ next' m'. goes words variables begins.more next' m'))
              (stays-marked words variables front mark marked.atoms (here line pass) m
              (opens_with (drop pass.at line) (Marked mark) opens).front marked.alone.inside)
              ∙ ap (λ s. goes words variables (Within marked.atoms (Staying mark) begins.more) s m)
              (here-on line pass (pass.at + 2) front placed.ordered (omega arith) two
              ∙ ap (λ j. as_written (so_far j) (slice_range line pass.copied (pass.at + 2))) (sym joined)
              ∙ ap (λ n. as_written (so_far next.joined) (slice_range line n (pass.at + 2))) (sym copied)
              ∙ ap (λ n. as_written (so_far next.joined) (slice_range line next.copied n)) (sym at)),
        ),
      )

  here-none : (pass : Pass) → pass.copied ≡ pass.at → here line pass ≡ so_far pass.joined
  here-none pass same =
      ap (λ n. as_written (so_far pass.joined) (slice_range line n pass.at)) same
      ∙ ap (λ l. record (so_far pass.joined) { text = l }) (ap (λ l. string_bytes pass.joined.text ++ l) (range_none line pass.at)
      ∙ append-nil (string_bytes pass.joined.text))

  put-end : (pass : Pass) (behind : ℕ) (left : Left) (m m' : Meter) (result : Result Pass (PureStop FaultKind)) (atom : TextAtom)
      (begins : BeginsWith left atom (drop behind line)) (outcome : Result (SoFar × Meter) (FaultKind × Meter))
      → goes words variables left (here line pass) m ≡ after outcome (λ next' m''. goes words variables begins.more next' m'')
      → GivesPurely (λ next. so_far next.joined) result m' outcome
      → IfOk result (λ next. next.around.items ≡ pass.around.items) → IfOk result (λ next. next.copied ≡ behind)
      → IfOk result (λ next. next.at ≡ behind)
      → HasLeft line pass left → ContinuesPass words variables line pass left m result m'
  put-end pass behind left m m' (Ok next) atom begins outcome whole gives around copied at stands = (
    begins.more,
    (
      record {
        atoms = subst (λ n. IsLeft begins.more (drop n line)) (sym at) begins.atoms;
        around = begins.around ∙ stands.around
            ∙ ap (λ l. map surround_of (reverse l)) (sym around);
      },
      whole ∙ ap (λ r. after r (λ next' m''. goes words variables begins.more next' m'')) gives
          ∙ ap (λ s. goes words variables begins.more s m') (sym (here-none next (copied ∙ sym at))),
    ),
  )
  put-end pass behind left m m' (Err stop) atom begins outcome whole gives around copied at stands =
      StopsPurelyAt-whole stop m' _ _ (λ end stops. whole
      ∙ ap (λ r. after r (λ next' m''. goes words variables begins.more next' m'')) stops) gives

  -- a word comes in the place of a reference
  pub pass-put : (pass : Pass) (behind : ℕ) (left : Left) (atom : TextAtom) (written name word : List ℕ) (m m' : Meter) (paid : Unit {0})
      (result : Result Pass (PureStop FaultKind))
      → atom ≡ Reference written name None → word_named words name ≡ Some word → pay m ≡ Ok (paid, m')
      → BeginsWith left atom (drop behind line)
      → GivesPurely (λ next. so_far next.joined) result m' (with_loop_word (here line pass) word m')
      → IfOk result (λ next. next.around.items ≡ pass.around.items) → IfOk result (λ next. next.copied ≡ behind)
      → IfOk result (λ next. next.at ≡ behind)
      → HasLeft line pass left → ContinuesPass words variables line pass left m result m'
  pass-put pass behind left atom written name word m m' paid result is named pays begins gives around copied at stands =
      let whole : goes words variables left (here line pass) m ≡ after (with_loop_word (here line pass) word m')
      (λ next' m''. goes words variables begins.more next' m'') =
      ap (λ l. goes words variables l (here line pass) m) begins.is ∙ goes-atom words variables atom begins.more (here line pass) m
      ∙ ap (λ u. after (iteration words variables (here line pass) u m) (λ next' m''. goes words variables begins.more next' m'')) is
      ∙ ap (λ found. after (put_reference variables (put words variables) (here line pass) written None found m)
      (λ next' m''. goes words variables begins.more next' m'')) named
      ∙ ap (λ r. after r (λ next' m''. goes words variables begins.more next' m'')) (replaced-paid words variables (here line pass) written
      None word m m' paid pays) in
      put-end pass behind left m m' result atom begins (with_loop_word (here line pass) word m') whole gives around copied at stands

  -- into the modifiers of a reference that is replaced
  pub pass-replace : (pass next : Pass) (mark behind : ℕ) (left : Left) (written name word : List ℕ) (more : List TextAtom) (rest : List ℕ)
      (m m' : Meter) (paid : Unit {0})
      → word_named words name ≡ Some word → pay m ≡ Ok (paid, m') → cut (sources more) ≡ (more, [])
      → up_to_mark mark (drop behind line) ≡ Some (more, rest)
      → (begins : BeginsWith left (Reference written name (Some (sources more))) rest)
      → so_far next.joined ≡ nothing → map surround_of next.around.items ≡ map surround_of pass.around.items ++ Changing mark
      word (here line pass) ∷ []
      → next.copied ≡ behind → next.at ≡ behind → HasLeft line pass left → ContinuesPass words variables line pass left m (Ok next) m'
  pass-replace pass next mark behind left written name word more rest m m' paid named pays alone read begins joined
      around copied at stands = (
        Within more (Changing mark word (here line pass)) begins.more,
        (
          record {
            atoms = (rest, (ap (λ n. up_to_mark mark (drop n line)) at ∙ read, begins.atoms));
            around = ap (λ l. Changing mark word (here line pass) ∷ l) (begins.around ∙ stands.around ∙ map-reverse pass.around.items)
                ∙ sym (reverse-append (map surround_of pass.around.items) (Changing mark word (here line pass) ∷ []))
                ∙ ap reverse (sym around)
                ∙ sym (map-reverse next.around.items);
          },
          ap (λ l. goes words variables l (here line pass) m) begins.is
              ∙ goes-atom words variables (Reference written name (Some (sources more))) begins.more (here line pass) m
              ∙ ap (λ found. after (put_reference variables (put words variables) (here line pass) written (Some (sources more)) found m)
              (λ next' m''. goes words variables begins.more next' m'')) named
              ∙ ap (λ r. after r (λ next' m''. goes words variables begins.more next' m''))
              (replaced-paid words variables (here line pass) written (Some (sources more)) word m m' paid pays)
              ∙ goes-changing words variables more mark word (here line pass) begins.more m' alone
              ∙ ap (λ s. goes words variables (Within more (Changing mark word (here line pass)) begins.more) s m')
              (sym (here-none next (copied ∙ sym at) ∙ joined)),
        ),
      )

  -- a reference to a loop's variable that can't be paid for
  pub pass-unpaid : (pass : Pass) (left : Left) (atom : TextAtom) (rest written name : List ℕ) (modifiers : Option (List ℕ)) (word : List ℕ)
      (m m' : Meter) (stop : PureStop FaultKind)
      → atom ≡ Reference written name modifiers → word_named words name ≡ Some word → BeginsWith left atom rest
      → StopsPurelyAt stop m' (pay m) → StopsPurelyAt stop m' (goes words variables left (here line pass) m)
  pass-unpaid pass left atom rest written name modifiers word m m' stop is named begins stops =
      StopsPurelyAt-whole stop m' (pay m) (goes words variables left (here line pass) m)
      (λ end fails. ap (λ l. goes words variables l (here line pass) m) begins.is
      ∙ goes-atom words variables atom begins.more (here line pass) m
      ∙ ap (λ u. after (iteration words variables (here line pass) u m) (λ next' m''. goes words variables begins.more next' m'')) is
      ∙ ap (λ found. after (put_reference variables (put words variables) (here line pass) written modifiers found m)
      (λ next' m''. goes words variables begins.more next' m'')) named
      ∙ ap (λ r. after r (λ next' m''. goes words variables begins.more next' m''))
      (replaced-unpaid words variables (here line pass) written modifiers word m end fails))
      stops

  -- the mark of the innermost reference is at the place
  pub record ClosesAt (pass : Pass) (left : Left) (around : Around) (outer : List Around) : Type 0 where
    pub more : Left
    pub atoms : IsLeft more (drop (pass.at + 1) line)
    pub outside : surrounds more ≡ map surround_of (reverse outer)
    pub becomes : (m : Meter) → goes words variables left (here line pass) m ≡ after
        (close_reference variables (surround_of around) (here line pass) m) (λ next m'. goes words variables more next m')
    pub mark : get_or line pass.at 0 ≡ mark_of (surround_of around)

  pub closes-at : (pass : Pass) (left : Left) (around : Around) (outer : List Around) → pass.at < length line
      → closes pass (get_or line pass.at 0) ≡ true → HasLeft line pass left
      → pass.around.items ≡ outer ++ around ∷ [] → ClosesAt pass left around outer
  closes-at pass left around outer near shut stands last =
      let b = get_or line pass.at 0 in
      let first = drop_more line pass.at 0 near in
      let over : map surround_of (reverse pass.around.items) ≡ surround_of around ∷ map surround_of (reverse outer) =
      ap (λ l. map surround_of (reverse l)) last ∙ ap (map surround_of) (reverse-append outer (around ∷ [])) in
      let found = closes-left left b (drop (pass.at + 1) line) (subst (IsLeft left) first stands.atoms)
      (ap (λ l. closes_first l b) stands.around ∙ shut) in
      let same : found.surround ∷ surrounds found.more ≡ surround_of around ∷ map surround_of (reverse outer) = sym found.around
      ∙ stands.around ∙ over in
      record {
        more = found.more;
        atoms = found.atoms;
        outside = ap (drop 1) same;
        becomes = λ m. ap (λ l. goes words variables l (here line pass) m) found.is ∙ goes-closed words variables found.surround
            found.more (here line pass) m
            ∙ ap (λ s. after (close_reference variables s (here line pass) m) (λ next m'. goes words variables found.more next m'))
            (ap (λ l. get_or l 0 (surround_of around)) same);
        mark = shut-mark pass outer around b last shut;
      }

  -- past the mark of a reference that stays
  pub pass-kept : (pass next : Pass) (left : Left) (mark : ℕ) (outer : List Around) (m : Meter) → IsPlaced line pass → pass.at < length line
      → ClosesAt pass left (v.Kept mark) outer
      → next.joined ≡ pass.joined → next.around.items ≡ outer → next.copied ≡ pass.copied → next.at ≡ pass.at + 1
      → ContinuesPass words variables line pass left m (Ok next) m
  pass-kept pass next left mark outer m placed near found joined around copied at =
      let one : mark ∷ [] ≡ slice_range line pass.at (pass.at + 1) =
      ap (λ b. b ∷ []) (sym found.mark) ∙ sym (ap (take 1) (drop_more line pass.at 0 near)) ∙ ap (λ n. take n (drop pass.at line))
      (let e : 1 ≡ (pass.at + 1) - pass.at = omega arith in e) in (
        found.more,
        (
          record {
            atoms = subst (λ n. IsLeft found.more (drop n line)) (sym at) found.atoms;
            around = found.outside
                ∙ ap (λ l. map surround_of (reverse l)) (sym around);
          },
          found.becomes m
              ∙ ap (λ s. goes words variables found.more s m)
              (here-on line pass (pass.at + 1) (mark ∷ []) placed.ordered (omega arith) one
              ∙ ap (λ j. as_written (so_far j) (slice_range line pass.copied (pass.at + 1))) (sym joined)
              ∙ ap (λ n. as_written (so_far next.joined) (slice_range line n (pass.at + 1))) (sym copied)
              ∙ ap (λ n. as_written (so_far next.joined) (slice_range line next.copied n)) (sym at)),
        ),
      )

  -- past the mark of a reference that is replaced
  pub pass-changed : (pass next : Pass) (left : Left) (around : Around) (outer : List Around) (m m' : Meter)
      → (found : ClosesAt pass left around outer)
      → close_reference variables (surround_of around) (here line pass) m ≡ Ok (so_far next.joined, m') → next.around.items ≡ outer
      → next.copied ≡ pass.at + 1 → next.at ≡ pass.at + 1
      → ContinuesPass words variables line pass left m (Ok next) m'
  pass-changed pass next left around outer m m' found end over copied at = (
    found.more,
    (
      record {
        atoms = subst (λ n. IsLeft found.more (drop n line)) (sym at) found.atoms;
        around = found.outside
            ∙ ap (λ l. map surround_of (reverse l)) (sym over);
      },
      found.becomes m ∙ ap (λ r. after r (λ next' m''. goes words variables found.more next' m'')) end
          ∙ ap (λ s. goes words variables found.more s m') (sym (here-none next (copied ∙ sym at))),
    ),
  )

  pub pass-stopped : (pass : Pass) (left : Left) (around : Around) (outer : List Around) (m m' : Meter) (stop : PureStop FaultKind)
      → ClosesAt pass left around outer
      → StopsPurelyAt stop m' (close_reference variables (surround_of around) (here line pass) m)
      → StopsPurelyAt stop m' (goes words variables left (here line pass) m)
  pass-stopped pass left around outer m m' stop found stops =
      StopsPurelyAt-whole stop m' _ _ (λ end fails. found.becomes m
      ∙ ap (λ r. after r (λ next' m''. goes words variables found.more next' m'')) fails) stops

  pub marked-put : (pass : Pass) (mark end : ℕ) (left : Left) (word text : List ℕ) (m m' : Meter) (paid : Unit {0})
      (result : Result Pass (PureStop FaultKind)) → pass.at + 2 ≤ length line
      → opening_of (drop pass.at line) ≡ Some (Marked mark) → closes pass (get_or line pass.at 0) ≡ false
      → EndsName line (pass.at + 2) mark (Some end) → get_or line end 0 ≡ mark
      → text ≡ slice_range line (pass.at + 2) end → Some word ≡ word_of words text → pay m ≡ Ok (paid, m')
      → GivesPurely (λ next. so_far next.joined) result m' (with_loop_word (here line pass) word m')
      → IfOk result (λ next. next.around.items ≡ pass.around.items) → IfOk result (λ next. next.copied ≡ end + 1)
      → IfOk result (λ next. next.at ≡ end + 1)
      → HasLeft line pass left → ContinuesPass words variables line pass left m result m'
  marked-put pass mark end left word text m m' paid result room opens other ends here' is named pays gives around copied at stands =
      let marked = begins-marked left line pass.at mark (omega arith) stands.atoms
      (ap (λ l. closes_first l (get_or line pass.at 0)) stands.around ∙ other) opens in
      let name-ends = ends.3 marked.atoms marked.rest marked.read in
      let closing = name-ends.closes here' in
      let front = take 2 (drop pass.at line) in
      pass-put pass (end + 1) left (marked_reference front marked.atoms mark) (front ++ sources marked.atoms ++ mark ∷ [])
      (sources (before_colon marked.atoms)) word m m' paid result
      (ap (λ o. Reference (front ++ sources marked.atoms ++ mark ∷ []) (sources (before_colon marked.atoms)) (option_map sources o))
      closing.0)
      (name-word words line (pass.at + 2) mark end marked.atoms marked.rest text name-ends marked.alone.name is ∙ sym named) pays
      (subst (BeginsWith left (marked_reference front marked.atoms mark)) closing.1 marked.begins) gives around copied at stands

  pub marked-unpaid : (pass : Pass) (mark end : ℕ) (left : Left) (word text : List ℕ) (m m' : Meter) (stop : PureStop FaultKind)
      → pass.at + 2 ≤ length line
      → opening_of (drop pass.at line) ≡ Some (Marked mark) → closes pass (get_or line pass.at 0) ≡ false
      → EndsName line (pass.at + 2) mark (Some end)
      → text ≡ slice_range line (pass.at + 2) end → Some word ≡ word_of words text → StopsPurelyAt stop m' (pay m)
      → HasLeft line pass left → StopsPurelyAt stop m' (goes words variables left (here line pass) m)
  marked-unpaid pass mark end left word text m m' stop room opens other ends is named stops stands =
      let marked = begins-marked left line pass.at mark (omega arith) stands.atoms
      (ap (λ l. closes_first l (get_or line pass.at 0)) stands.around ∙ other) opens in
      let name-ends = ends.3 marked.atoms marked.rest marked.read in
      let front = take 2 (drop pass.at line) in
      pass-unpaid pass left (marked_reference front marked.atoms mark) marked.rest (front ++ sources marked.atoms ++ mark ∷ [])
      (sources (before_colon marked.atoms)) (option_map sources (following_colon marked.atoms)) word m m' stop
      refl (name-word words line (pass.at + 2) mark end marked.atoms marked.rest text name-ends marked.alone.name is
      ∙ sym named) marked.begins stops

  pub marked-replace : (pass next : Pass) (mark end : ℕ) (left : Left) (word text : List ℕ) (m m' : Meter) (paid : Unit {0})
      → pass.at + 2 ≤ length line
      → opening_of (drop pass.at line) ≡ Some (Marked mark) → closes pass (get_or line pass.at 0) ≡ false
      → EndsName line (pass.at + 2) mark (Some end) → get_or line end 0 ≢ mark
      → text ≡ slice_range line (pass.at + 2) end → Some word ≡ word_of words text → pay m ≡ Ok (paid, m')
      → so_far next.joined ≡ nothing → map surround_of next.around.items ≡ map surround_of pass.around.items ++ Changing mark
      word (here line pass) ∷ []
      → next.copied ≡ end + 1 → next.at ≡ end + 1 → HasLeft line pass left → ContinuesPass words variables line pass left m (Ok next) m'
  marked-replace pass next mark end left word text m m' paid room opens other ends colon is named pays joined around copied at stands =
      let marked = begins-marked left line pass.at mark (omega arith) stands.atoms
      (ap (λ l. closes_first l (get_or line pass.at 0)) stands.around ∙ other) opens in
      let name-ends = ends.3 marked.atoms marked.rest marked.read in
      let on = name-ends.goes_on colon in
      let front = take 2 (drop pass.at line) in
      pass-replace pass next mark (end + 1) left (front ++ sources marked.atoms ++ mark ∷ []) (sources (before_colon marked.atoms)) word
      on.0 marked.rest m m' paid
      (name-word words line (pass.at + 2) mark end marked.atoms marked.rest text name-ends marked.alone.name is ∙ sym named) pays
      (subst (λ o. IfSome o (λ more. cut (sources more) ≡ (more, []))) on.1.0 marked.alone.modifiers) on.1.1
      (subst (λ o. BeginsWith left (Reference (front ++ sources marked.atoms ++ mark ∷ []) (sources (before_colon marked.atoms))
      (option_map sources o)) marked.rest) on.1.0 marked.begins)
      joined around copied at stands
