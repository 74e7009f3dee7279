-- Where atoms end, as places in their text.
use Rattle.std.specs.Prelude.{◌≡◌, ◌<◌, ◌≤◌, ℕ, ◌+◌, List, drop, length, Option, Some, None, option_map, slice_index}
use Rattle.std.specs.Prelude.{slice_range, unwrap_or}
use Rattle.std.specs.Option.{IfSome, MatchOption}
use Rattle.general_facts.specs.Ascii.{colon as colon_byte}
use Rattle.mk_ref.specs.declared.ends.Inside.{Inside}
use Rattle.mk_ref.specs.Atoms.{TextAtom, sources, before_colon, following_colon, first_atom, up_to_mark}

-- what follows the atoms that were read of a text from `start` on is the text from `end` on
pub record GoesOnAt {A : Type 0} (text : List ℕ) (start : ℕ) (read : Option (A × List ℕ)) (end : ℕ) : Type 0 where
  pub rest : option_map (λ x. x.1) read ≡ Some (drop end text)
  pub later : start < end
  pub within : end ≤ length text

-- the place directly after the mark that closes what begins at `start`, or none if nothing closes it
abbrev pub EndsAt : List ℕ → ℕ → ℕ → Option ℕ → Type 0
EndsAt text start mark end =
    MatchOption end (up_to_mark mark (drop start text) ≡ None) (GoesOnAt text start (up_to_mark mark (drop start text)))

-- the place directly after the atom that begins at `start`, or none if there is no atom
abbrev pub AtomEndsAt : List ℕ → ℕ → Option ℕ → Type 0
AtomEndsAt text start end = MatchOption end (first_atom (drop start text) ≡ None) (GoesOnAt text start (first_atom (drop start text)))

-- the colon and the closing mark of what is inside a reference from `start` on
pub record IsInside (text : List ℕ) (start mark : ℕ) (inside : Inside) : Type 0 where
  pub atoms : List TextAtom
  pub read : up_to_mark mark (drop start text) ≡ Some (atoms, drop (inside.close + 1) text)
  pub later : start ≤ inside.close
  pub within : inside.close < length text
  pub marked : slice_index text inside.close ≡ mark
  pub name : sources (before_colon atoms) ≡ slice_range text start (unwrap_or inside.colon inside.close)
  pub modifiers : option_map sources (following_colon atoms) ≡ option_map (λ colon. slice_range text (colon + 1) inside.close) inside.colon
  pub colon : IfSome inside.colon (λ colon. (start ≤ colon) × (colon < inside.close) × (slice_index text colon ≡ colon_byte))

-- the same, or none if nothing closes it
abbrev pub EndsInside : List ℕ → ℕ → ℕ → Option Inside → Type 0
EndsInside text start mark inside = MatchOption inside (up_to_mark mark (drop start text) ≡ None) (IsInside text start mark)
