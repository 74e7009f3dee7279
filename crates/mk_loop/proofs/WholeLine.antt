-- A pass at the beginning and at the end of a line.
use Rattle.std.proofs.Common.{◌≡◌, ◌≤◌, ℕ, List, [], length, drop, map, reverse, sym, ap, subst, ◌∙◌}
use Rattle.std.specs.Prelude.{slice_range}
use Rattle.std.proofs.Math.ListN.{drop_of_length-le}
use Rattle.std.proofs.lemmas.Option.{none-some}
use Rattle.mk_base.specs.Meter.{Meter}
use Rattle.mk_base.specs.Outcome.{after}
use Rattle.mk_ref.specs.Atoms.{cut, cut_on, atoms_of, left_of}
use Rattle.mk_ref.proofs.AtomSteps.{up_to-nil, cut-next, first-nil}
use Rattle.mk_env.specs.Texts.{Variables}
use Rattle.mk_loop.specs.declared.pass.Pass.{Pass}
use Rattle.mk_loop.specs.LoopWords.{LoopWords}
use Rattle.mk_loop.specs.BodyLine.{nothing, as_written, finished, where_closed, put_words}
use Rattle.mk_loop.specs.Joinings.{so_far}
use Rattle.mk_loop.specs.Places.{Left, Outermost, Within, mark_of, surround_of, IsLeft, goes, here, HasLeft}
use Rattle.mk_loop.proofs.Rolls.{put-atoms}
use Rattle.mk_loop.proofs.Steps.{goes-nothing}

-- all of a line in which every reference ends is left at its beginning
pub stands-first : (line : List ℕ) (pass : Pass) → left_of line ≡ [] → pass.around.items ≡ [] → pass.at ≡ 0
    → HasLeft line pass (Outermost (atoms_of line))
stands-first line pass whole around at = record {
  atoms = ap (λ n. cut (drop n line)) at ∙ ap (λ l. (atoms_of line, l)) whole;
  around = ap (λ l. map surround_of (reverse l)) (sym around);
}

here-first : (line : List ℕ) (pass : Pass) → so_far pass.joined ≡ nothing → pass.copied ≡ 0 → pass.at ≡ 0 → here line pass ≡ nothing
here-first line pass joined copied at =
    ap (λ s. as_written s (slice_range line pass.copied pass.at)) joined ∙ ap (λ n. as_written nothing (slice_range line n pass.at)) copied
    ∙ ap (λ n. as_written nothing (slice_range line 0 n)) at

module _ (words : LoopWords) (variables : Variables) where
  -- what a line becomes is what becomes of it from its beginning
  pub goes-first : (line : List ℕ) (pass : Pass) (m : Meter) → left_of line ≡ [] → so_far pass.joined ≡ nothing
      → pass.copied ≡ 0 → pass.at ≡ 0
      → put_words words variables line m ≡ goes words variables (Outermost (atoms_of line)) (here line pass) m
  goes-first line pass m whole joined copied at =
      ap (λ l. where_closed words variables line l m) whole ∙ ap (λ r. after r finished) (put-atoms words variables nothing line m)
      ∙ ap (λ s. goes words variables (Outermost (atoms_of line)) s m) (sym (here-first line pass joined copied at))

  left-end : (left : Left) → IsLeft left [] → left ≡ Outermost []
  left-end (Outermost atoms) is = ap (λ x. Outermost x.0) (sym is ∙ cut-next [] ∙ ap (cut_on cut []) first-nil)
  left-end (Within atoms surround left) is = absurd (none-some (atoms, is.0) (sym (up_to-nil (mark_of surround)) ∙ is.1.0))

  -- at the end of a line nothing is left
  pub goes-last : (line : List ℕ) (pass : Pass) (left : Left) (m : Meter) → length line ≤ pass.at → HasLeft line pass left
      → goes words variables left (here line pass) m ≡ finished (here line pass) m
  goes-last line pass left m end stands =
      let none : IsLeft left [] = subst (IsLeft left) (drop_of_length-le line end) stands.atoms in
      ap (λ l. goes words variables l (here line pass) m) (left-end left none) ∙ goes-nothing words variables (here line pass) m
