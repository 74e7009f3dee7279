-- What a router whose patterns have no parameters finds: the route whose pattern is the path.
use Rattle.std.proofs.Common.{◌≡◌, ℕ, zero, suc, ◌-◌, ◌==◌, ltb, ◌&&◌, Bool, true, false, cond, List, [], ◌∷◌, Option, Some, None, refl, ap}
use Rattle.std.proofs.Common.{◌∙◌, arith, length, if◌then◌else◌}
use Rattle.std.proofs.lemmas.Bool.Decides.{nat_tests}
use Rattle.std.specs.Str.{bytes_eq}
use Rattle.std.proofs.lemmas.Bool.{and_parts}
use Rattle.matchit.specs.Rows.{RowsOf, param_token, catch_all_token}
use Rattle.matchit.specs.Seek.{seek, own, step, or_else, param_step, has_slash, slash}

-- a pattern without parameters
abbrev pub is_literal : List ℕ → Bool
is_literal [] = true
is_literal (token ∷ pattern) = ltb token 256 && is_literal pattern

-- a byte is no token of a parameter
differ : (x token : ℕ) → ltb x 256 ≡ true → ltb token 256 ≡ false → (x == token) ≡ false
differ x token here wild = grind (arith, nat_tests)

module _ {K : Type 0} where
  abbrev pub are_literal : RowsOf K → Bool
  are_literal [] = true
  are_literal ((pattern, key) ∷ rest) = is_literal pattern && are_literal rest

  -- the first row whose pattern is the path
  abbrev pub row_of : RowsOf K → List ℕ → Option K
  row_of [] path = None
  row_of ((pattern, key) ∷ rest) path = if bytes_eq pattern path then Some key else row_of rest path

  -- the rows that a step of a parameter leaves of none
  no_rows : (slash : Bool) (n : ℕ) → let left : ℕ × RowsOf K = cond slash (0, []) (n, []) in left.1 ≡ []
  no_rows true n = refl
  no_rows false n = refl

  or_else-none : (a : Option K) → or_else a None ≡ a
  or_else-none None = refl
  or_else-none (Some k) = refl

  -- neither a parameter nor what takes the rest of a path goes on without rows
  no_wild : (b : ℕ) (path : List ℕ) → ((skip : ℕ) → seek {K = K} skip [] path ≡ None)
      → or_else (seek ((param_step {K = K} [] (b ∷ path)).0 - 1) (param_step {K = K} [] (b ∷ path)).1 path) None ≡ None
  unfolding param_step
  no_wild b path nothing =
      let n = (cond {A = ℕ × RowsOf K} (cond (b == slash) true (has_slash path)) (0, []) (suc (length path), [])).0 - 1 in
      let rs : RowsOf K = (cond {A = ℕ × RowsOf K} (cond (b == slash) true (has_slash path)) (0, []) (suc (length path), [])).1 in
      let none : rs ≡ [] = no_rows (cond (b == slash) true (has_slash path)) (suc (length path)) in
      let after : seek n rs path ≡ None = ap (λ r. seek n r path) none ∙ nothing n in
      or_else-none (seek n rs path) ∙ after

  -- no rows, no route
  seek_nothing : (skip : ℕ) (path : List ℕ) → seek {K = K} skip [] path ≡ None
  unfolding seek param_step
  seek_nothing zero [] = refl
  seek_nothing (suc skip) [] = refl
  seek_nothing (suc skip) (b ∷ path) = seek_nothing skip path
  seek_nothing zero (b ∷ path) =
      let before : or_else (seek {K = K} 0 [] path) None ≡ None = or_else-none (seek 0 [] path) ∙ seek_nothing 0 path in
      ap (or_else (seek 0 [] path)) (no_wild b path (λ n. seek_nothing n path)) ∙ before

  -- no pattern goes on with a parameter
  step_wild : (token : ℕ) → ltb token 256 ≡ false → (rs : RowsOf K) → are_literal rs ≡ true → step token rs ≡ []
  step_wild token wild [] h = refl
  step_wild token wild (([], key) ∷ rest) h = step_wild token wild rest h
  step_wild token wild ((x ∷ t, key) ∷ rest) h =
      let parts = and_parts (ltb x 256 && is_literal t) (are_literal rest) h in
      let here = and_parts (ltb x 256) (is_literal t) parts.0 in
      rw (differ x token here.0 wild) (step_wild token wild rest parts.1)

  either : (goes_on : Bool) (t : List ℕ) (key : K) (rest : RowsOf K) → is_literal t ≡ true → are_literal rest ≡ true
      → are_literal (cond goes_on ((t, key) ∷ rest) rest) ≡ true
  either true t key rest here others = rw here others
  either false t key rest here others = others

  picks : (goes_on : Bool) (t path : List ℕ) (key : K) (rest : RowsOf K) (other : Option K) → row_of rest path ≡ other
      → row_of (cond goes_on ((t, key) ∷ rest) rest) path ≡ (if goes_on && bytes_eq t path then Some key else other)
  picks true t path key rest other same = ap (λ o. if bytes_eq t path then Some key else o) same
  picks false t path key rest other same = same

  -- patterns without parameters stay so after a byte
  literal_step : (b : ℕ) (rs : RowsOf K) → are_literal rs ≡ true → are_literal (step b rs) ≡ true
  literal_step b [] h = refl
  literal_step b (([], key) ∷ rest) h = literal_step b rest h
  literal_step b ((x ∷ t, key) ∷ rest) h =
      let parts = and_parts (ltb x 256 && is_literal t) (are_literal rest) h in
      let here = and_parts (ltb x 256) (is_literal t) parts.0 in
      either (x == b) t key (step b rest) here.1 (literal_step b rest parts.1)

  -- a row whose pattern goes on with a byte is the row of what follows it
  row_of-step : (b : ℕ) (path : List ℕ) (rs : RowsOf K) → row_of (step b rs) path ≡ row_of rs (b ∷ path)
  row_of-step b path [] = refl
  row_of-step b path (([], key) ∷ rest) = row_of-step b path rest
  row_of-step b path ((x ∷ t, key) ∷ rest) =
      picks (x == b) t path key (step b rest) (row_of rest (b ∷ path)) (row_of-step b path rest)

  own-row : (rs : RowsOf K) → own rs ≡ row_of rs []
  own-row [] = refl
  own-row (([], key) ∷ rest) = refl
  own-row ((x ∷ t, key) ∷ rest) = own-row rest

  -- the route that a path matches is the one whose pattern is the path
  pub seek_literal : (path : List ℕ) (rs : RowsOf K) → are_literal rs ≡ true → seek 0 rs path ≡ row_of rs path
  unfolding seek param_step
  seek_literal [] rs h = own-row rs
  seek_literal (b ∷ path) rs h =
      let here = seek_literal path (step b rs) (literal_step b rs h) in
      let found : seek 0 (step b rs) path ≡ row_of rs (b ∷ path) = here ∙ row_of-step b path rs in
      rw (step_wild param_token refl rs h, step_wild catch_all_token refl rs h)
      (ap (or_else (seek 0 (step b rs) path)) (no_wild b path (λ n. seek_nothing n path))
      ∙ (or_else-none (seek 0 (step b rs) path) ∙ found))
