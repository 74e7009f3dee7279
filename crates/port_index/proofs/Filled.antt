-- Paths that are among others, and paths of which it is known what they lead to.
use Rattle.std.proofs.Common.{◌≡◌, ◌∙◌, ap, refl, ℕ, Bool, true, false, ◌||◌, List, [], ◌∷◌, ◌++◌, Option}
use Rattle.std.proofs.lemmas.Bool.{or_right}
use Rattle.std.proofs.lemmas.Slice.Eq.{bytes_eq-Decides}
use Rattle.std.specs.List.{AllByRecursion}
use Rattle.std.specs.Str.{bytes_eq}
use Rattle.text_parts.specs.Order.{in_order}
use Rattle.text_parts.specs.Ordered.{among-in_order}
use Rattle.mk_paths.specs.World.{World}
use Rattle.port_index.specs.PathOutcomes.{PathOutcome, outcome_at}
use Rattle.port_index.specs.FilledRows.{is_one_of}
use Rattle.port_index.specs.Seen.{known_in}

abbrev pub Entries : Type 0
Entries = List ℕ → Option PathOutcome

-- it is known what each of these paths leads to
abbrev pub AreKnown : World → Entries → List (List ℕ) → Type 0
AreKnown world entries paths = AllByRecursion (λ path. known_in entries path ≡ outcome_at world path) paths

regroup : (a b c : Bool) → (a || (b || c)) ≡ ((a || b) || c)
regroup true b c = refl
regroup false b c = refl

pub one_of-append : (path : List ℕ) (paths more : List (List ℕ))
    → is_one_of path (paths ++ more) ≡ (is_one_of path paths || is_one_of path more)
one_of-append path [] more = refl
one_of-append path (first ∷ paths) more =
    ap (λ b. bytes_eq first path || b) (one_of-append path paths more)
    ∙ regroup (bytes_eq first path) (is_one_of path paths) (is_one_of path more)

-- a path is one of two lists of paths, which are put in order
pub one_of-in_order : (path : List ℕ) (paths more : List (List ℕ)) → is_one_of path (in_order (paths ++ more)) ≡
    (is_one_of path paths || is_one_of path more)
one_of-in_order path paths more = among-in_order (λ one. bytes_eq one path) (paths ++ more) ∙ one_of-append path paths more

module _ (world : World) where
  pub known-of : (paths : List (List ℕ)) (entries : Entries)
      → ((path : List ℕ) → is_one_of path paths ≡ true → known_in entries path ≡ outcome_at world path) → AreKnown world entries paths
  known-of [] entries are = tt
  known-of (path ∷ paths) entries are = (
    are path (ap (λ b. b || is_one_of path paths) ((bytes_eq-Decides path path).1 refl)),
    known-of paths entries (λ other is. are other (or_right (bytes_eq path other) (is_one_of other paths) is)),
  )
