use Rattle.std.specs.Prelude.{List, [], ◌∷◌, Result, Ok, Err}

-- Work on a state that gives a value or stops at a fault; either way it leaves a state.
abbrev pub Work : Type 0 → Type 0 → Type 0 → Type 0
Work M F A = M → Result (A × M) (F × M)

-- the work that only gives a value
abbrev pub give : {M F A : Type 0} → A → Work M F A
give x m = Ok (x, m)

-- the work that only stops
abbrev pub fail : {M F A : Type 0} → F → Work M F A
fail fault m = Err (fault, m)

-- what follows the end of some work: the next work from there, or nothing after a fault
abbrev pub after : {M F A B : Type 0} → Result (A × M) (F × M) → (A → Work M F B) → Result (B × M) (F × M)
after (Ok x) next = next x.0 x.1
after (Err stop) next = Err stop

-- one work, and then another with its value
infixl 10 ◌>>=◌
abbrev pub ◌>>=◌ : {M F A B : Type 0} → Work M F A → (A → Work M F B) → Work M F B
(work >>= next) m = after (work m) next

-- each item in turn, with a value that is handed from one to the next
unfoldable pub each : {M F S X : Type 0} → (S → X → Work M F S) → S → List X → Work M F S
each turn s [] m = Ok (s, m)
each turn s (x ∷ xs) m = after (turn s x m) (λ next. each turn next xs)

-- the same outcome, with its fault changed by a function
abbrev pub tell : {M F G A : Type 0} → (F → G) → Result (A × M) (F × M) → Result (A × M) (G × M)
tell f (Ok x) = Ok x
tell f (Err stop) = Err (f stop.0, stop.1)

-- the state that some work left, whether it gave a value or stopped
abbrev pub left : {M F A : Type 0} → Result (A × M) (F × M) → M
left (Ok end) = end.1
left (Err end) = end.1
