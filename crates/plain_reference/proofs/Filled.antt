-- Rows that are filled in, path after path.
use Rattle.std.proofs.Common.{◌≡◌, ◌∙◌, sym, ap, refl, ℕ, Bool, true, false, ◌||◌, if◌then◌else◌, List, ◌++◌, Option, Some}
use Rattle.std.proofs.lemmas.Slice.Eq.{bytes_eq-Decides}
use Rattle.std.specs.Str.{bytes_eq}
use Rattle.mk_paths.specs.World.{World}
use Rattle.port_index.specs.PathOutcomes.{PathOutcome, outcome_at}
use Rattle.port_index.specs.FilledRows.{is_one_of, Fills}
use Rattle.port_index.specs.RowLaws.{SayAll}
use Rattle.port_index.specs.Seen.{known_row}
use Rattle.port_index.proofs.Filled.{Entries, one_of-append}
use Rattle.plain_reference.specs.Right.{AreOutcomes, Stay}

pub Stay-on : (first middle last : Entries) → Stay first middle → Stay middle last → Stay first last
Stay-on first middle last one more = record { stay = λ path row is. more.stay path row (one.stay path row is) }

absorbed : (a b : Bool) → (a ≡ true → b ≡ true) → (a || b) ≡ b
absorbed true b within = sym (within refl)
absorbed false b within = refl

-- paths before a list that has them
pub one_of-absorbed : (path : List ℕ) (paths all : List (List ℕ)) → (is_one_of path paths ≡ true → is_one_of path all ≡ true)
    → is_one_of path (paths ++ all) ≡ is_one_of path all
one_of-absorbed path paths all within = one_of-append path paths all ∙ absorbed (is_one_of path paths) (is_one_of path all) within

-- two looks, one after the other
in_turn : (a b : Bool) (row old middle new : Option PathOutcome) → middle ≡ (if a then row else old) → new ≡ (if b then row else middle)
    → new ≡ (if a || b then row else old)
in_turn true true row old middle new first second = second
in_turn true false row old middle new first second = second ∙ first
in_turn false true row old middle new first second = second
in_turn false false row old middle new first second = second ∙ first

module _ (world : World) where
  pub Fills-on : (paths more : List (List ℕ)) (old middle new : Entries) → Fills world paths old middle → Fills world more middle new
      → Fills world (paths ++ more) old new
  Fills-on paths more old middle new first second = record {
    filled = λ path.
        in_turn (is_one_of path paths) (is_one_of path more) (Some (outcome_at world path)) (old path) (middle path) (new path)
        (first.filled path) (second.filled path)
        ∙ ap (λ b. if b then Some (outcome_at world path) else old path) (sym (one_of-append path paths more));
  }

  -- the same paths, in another list
  pub Fills-same : (paths others : List (List ℕ)) (old new : Entries) → ((path : List ℕ) → is_one_of path paths ≡ is_one_of path others)
      → Fills world paths old new → Fills world others old new
  Fills-same paths others old new same fills = record {
    filled = λ path. fills.filled path
        ∙ ap (λ b. if b then Some (outcome_at world path) else old path) (same path);
  }

  -- paths that were filled in have rows that say what they lead to
  pub say-filled : (paths : List (List ℕ)) (old new : Entries) → Fills world paths old new → SayAll world new paths
  say-filled paths old new fills path is =
      ap known_row (fills.filled path ∙ ap (λ b. if b then Some (outcome_at world path) else old path) is)

module _ (world : World) (entries : Entries) (right : AreOutcomes world entries) (path : List ℕ) where
  -- a path that is given its row
  module _ (new : Entries) (row : PathOutcome) (is : row ≡ outcome_at world path) (put : (other : List ℕ)
      → new other ≡ (if bytes_eq path other then Some row else entries other)) where
    right-at : (other : List ℕ) (same : Bool) → bytes_eq path other ≡ same → (found : PathOutcome) → new other ≡ Some found
        → found ≡ outcome_at world other
    right-at other true same found e =
        let here : new other ≡ Some row = put other ∙ ap (λ b. if b then Some row else entries other) same in
        let the_row : found ≡ row = cc in
        the_row ∙ is ∙ ap (outcome_at world) ((bytes_eq-Decides path other).0 same)
    right-at other false same found e = right other found (sym (put other ∙ ap (λ b. if b then Some row else entries other) same) ∙ e)

    pub AreRight-put : AreOutcomes world new
    AreRight-put other found e = right-at other (bytes_eq path other) refl found e
