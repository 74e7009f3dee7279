-- What costs at least a unit spends at least one.
use Rattle.std.proofs.Common.{◌≡◌, ◌≤◌, ◌<◌, ◌+◌, ℕ, nat_lt, Bool, true, false, List, [], ◌∷◌, option_map, Result, Ok, Err, if◌then◌else◌}
use Rattle.std.proofs.Common.{refl, ap, arith}
use Rattle.mk_base.specs.declared.faults.FaultKind.{FaultKind}
use Rattle.mk_base.specs.declared.faults.FaultKind.TheVariants as kinds
use Rattle.mk_base.specs.Meter.{Meter, pay}
use Rattle.mk_base.specs.Outcome.{Work, after, left, tell, fail, ◌>>=◌}
use Rattle.mk_ast.specs.Kinds.{TextLineKind, CommandLine, BlankLine, DirectiveLine, AssignmentLine, DependencyLine, BadLine, line_kind}
use Rattle.mk_ast.specs.Trees.{Tree, LineTree, ChoiceTree, LoopTree, EmptyBlock, MoreBlock, NoBranches, ElifBranch, ElseBranch}
use Rattle.mk_env.specs.Texts.{Variables}
use Rattle.mk_paths.specs.World.{FileMap}
use Rattle.mk_files.specs.Questions.{Account, beside, quietly}
use Rattle.mk_eval.specs.declared.state.EvalState.{EvalState}
use Rattle.mk_eval.specs.Lines.{Loops, perform_kind}
use Rattle.mk_eval.specs.Heads.{head_text, condition_holds, iterations, form_in}
use Rattle.mk_eval.specs.Includes.{Place}
use Rattle.mk_eval.specs.Meaning.{at, open_line}
use Rattle.mk_eval.proofs.Steady.{Steady}
use Rattle.mk_eval.proofs.SteadyLoops.{steady-execute_in, steady-put_in, steady-header}
use Rattle.mk_eval.proofs.Shared.{Shared, shared-give, bind}
use Rattle.mk_eval.proofs.SharedConditions.{shared-parts}
use Rattle.mk_eval.proofs.SharedEvaluation.{shared-open_request}
use Rattle.mk_step.specs.Machine.{Site, Frame, Lines, Later, Iterations, Modules, Searches, place_at, do_tree, advance}
use Rattle.mk_step.specs.Costs.{TreeCosts}
use Rattle.mk_step.proofs.Coming.{spends}
use Rattle.mk_step.proofs.SharedSteps.{shared-opened_lines}

-- work over the meter that spends a unit or more, if it gives a value
pub record GrowsPurely {A F : Type 0} (work : Work Meter F A) : Type 0 where
  pub grows : (m m' : Meter) (x : A) → work m ≡ Ok (x, m') → m.spent < m'.spent

-- the same of work over the account
pub record Grows {A F : Type 0} (work : Work Account F A) : Type 0 where
  pub grows : (a a' : Account) (x : A) → work a ≡ Ok (x, a') → a.meter.spent < a'.meter.spent

steadily : {A F : Type 0} {work : Work Meter F A} → Steady work → (m m' : Meter) (x : A) → work m ≡ Ok (x, m') → m.spent ≤ m'.spent
steadily {A = A} {F = F} {work = work} steady m m' x is =
    let same : (left (work m)).spent ≡ m'.spent = ap (λ (r : Result (A × Meter) (F × Meter)). (left r).spent) is in
    omega (arith, steady.onward m, same)

onwards : {A F : Type 0} {files : FileMap} {work : Work Account F A} → Shared files work work → (a a' : Account) (x : A)
    → work a ≡ Ok (x, a') → a.meter.spent ≤ a'.meter.spent
onwards shared a a' x is = omega (arith, spends shared a.meter a.log (Ok (x, a')) is, shared.steady.onward a.meter)

module _ {A B F : Type 0} (work : Work Meter F A) (next : A → Work Meter F B) (first : GrowsPurely work)
    (second : (x : A) → Steady (next x)) where
  purely-by : (m m' : Meter) (y : B) (r : Result (A × Meter) (F × Meter)) → work m ≡ r → after r next ≡ Ok (y, m') → m.spent < m'.spent
  purely-by m m' y (Ok (x, n)) is ends = omega (arith, first.grows m n x is, steadily (second x) n m' y ends)
  purely-by m m' y (Err end) is ends = cc

  pub grows-purely : GrowsPurely (work >>= next)
  grows-purely = record { grows = λ m m' y is. purely-by m m' y (work m) refl is }

module _ {A B F : Type 0} (files : FileMap) (work : Work Account F A) (next : A → Work Account F B) (first : Grows work)
    (second : (x : A) → Shared files (next x) (next x)) where
  by : (a a' : Account) (y : B) (r : Result (A × Account) (F × Account)) → work a ≡ r → after r next ≡ Ok (y, a')
      → a.meter.spent < a'.meter.spent
  by a a' y (Ok (x, n)) is ends = omega (arith, first.grows a n x is, onwards (second x) n a' y ends)
  by a a' y (Err end) is ends = cc

  pub grows-bind : Grows (work >>= next)
  grows-bind = record { grows = λ a a' y is. by a a' y (work a) refl is }

module _ {A F : Type 0} (work : Work Meter F A) (grows : GrowsPurely work) where
  quietly-by : (a a' : Account) (x : A) (r : Result (A × Meter) (F × Meter)) → work a.meter ≡ r → beside a.log r ≡ Ok (x, a')
      → a.meter.spent < a'.meter.spent
  quietly-by a a' x (Ok (y, n)) is ends =
      let same : n.spent ≡ a'.meter.spent = ap (λ (r : Result (A × Account) (F × Account)). (left r).meter.spent) ends in
      omega (arith, grows.grows a.meter n y is, same)
  quietly-by a a' x (Err end) is ends = cc

  pub grows-quietly : Grows (quietly work)
  grows-quietly = record { grows = λ a a' x is. quietly-by a a' x (work a.meter) refl is }

module _ {A F G : Type 0} (f : F → G) (work : Work Account F A) (grows : Grows work) where
  tell-by : (a a' : Account) (x : A) (r : Result (A × Account) (F × Account)) → work a ≡ r → tell f r ≡ Ok (x, a')
      → a.meter.spent < a'.meter.spent
  tell-by a a' x (Ok (y, n)) is ends =
      let same : n.meter.spent ≡ a'.meter.spent = ap (λ (r : Result (A × Account) (G × Account)). (left r).meter.spent) ends in
      omega (arith, grows.grows a n y is, same)
  tell-by a a' x (Err end) is ends = cc

  pub grows-tell : Grows (λ a. tell f (work a))
  grows-tell = record { grows = λ a a' x is. tell-by a a' x (work a) refl is }

grows-fail : {A F : Type 0} (fault : F) → GrowsPurely {A = A} (fail fault)
grows-fail fault = record { grows = λ m m' x is. cc }

paid : (m m' : Meter) (x : Unit {0}) (room : Bool)
    → (let r : Result (Unit {0} × Meter) (FaultKind × Meter) = if room then Ok (tt, record m { spent = m.spent + 1 }) else Err
    (kinds.Budget, m) in r) ≡ Ok (x, m') → m.spent < m'.spent
paid m m' x true is =
    let same : m.spent + 1 ≡ m'.spent = ap (λ (r : Result (Unit {0} × Meter) (FaultKind × Meter)). (left r).spent) is in omega (arith, same)
paid m m' x false is = cc

grows-pay : GrowsPurely pay
grows-pay = record { grows = λ m m' x is. paid m m' x (nat_lt m.spent m.limit) is }

-- a line that isn't blank
grows-perform : (variables : Variables) (loops : Loops) (text : List ℕ) (kind : TextLineKind) → (kind ≡ BlankLine → ⊥)
    → GrowsPurely (perform_kind variables loops text kind)
grows-perform variables loops text BlankLine other = absurd (other refl)
grows-perform variables loops text CommandLine other = grows-purely pay _ grows-pay
    (λ _. steady-execute_in variables loops text CommandLine)
grows-perform variables loops text (DirectiveLine word rest) other = grows-purely pay _ grows-pay
    (λ _. steady-execute_in variables loops text (DirectiveLine word rest))
grows-perform variables loops text (AssignmentLine operator name rest) other = grows-purely pay _ grows-pay
    (λ _. steady-execute_in variables loops text (AssignmentLine operator name rest))
grows-perform variables loops text DependencyLine other = grows-purely pay _ grows-pay
    (λ _. steady-execute_in variables loops text DependencyLine)
grows-perform variables loops text BadLine other = grows-purely pay _ grows-pay (λ _. steady-execute_in variables loops text BadLine)

-- the first line of a block
grows-head_text : (variables : Variables) (loops : Loops) (kind : TextLineKind) → GrowsPurely (head_text variables loops kind)
grows-head_text variables loops (DirectiveLine word rest) = grows-purely pay _ grows-pay (λ _. steady-put_in variables loops rest)
grows-head_text variables loops CommandLine = grows-fail kinds.Block
grows-head_text variables loops BlankLine = grows-fail kinds.Block
grows-head_text variables loops (AssignmentLine operator name rest) = grows-fail kinds.Block
grows-head_text variables loops DependencyLine = grows-fail kinds.Block
grows-head_text variables loops BadLine = grows-fail kinds.Block

grows-judge : (files : FileMap) (makefile : List ℕ) (variables : Variables) (loops : Loops) (line : List ℕ)
    → Grows (condition_holds files makefile variables loops line)
grows-judge files makefile variables loops line =
    grows-bind files (quietly (head_text variables loops (line_kind line))) _
    (grows-quietly _ (grows-head_text variables loops (line_kind line)))
    (λ text. shared-parts files files variables makefile (option_map (λ form. (form, text)) (form_in (line_kind line))))

grows-iterations : (variables : Variables) (loops : Loops) (line : List ℕ) → GrowsPurely (iterations variables loops line)
grows-iterations variables loops line = grows-purely (head_text variables loops (line_kind line)) _
    (grows-head_text variables loops (line_kind line)) (steady-header variables)

module _ (files : FileMap) (makefile : List ℕ) (site : Site) where
  abbrev place : Place
  place = place_at files makefile site

  grows-holds : (number : ℕ) (line : List ℕ) (s : EvalState)
      → Grows (λ a. tell (at site.file number) (condition_holds files makefile s.variables site.loops line a))
  grows-holds number line s = grows-tell (at site.file number) _ (grows-judge files makefile s.variables site.loops line)

  grows-tree : (tree : Tree) (s : EvalState) → TreeCosts tree → Grows (do_tree files makefile site tree s)
  grows-tree (LineTree line) s costs =
      grows-bind files _ _
      (grows-tell (at site.file line.line) (open_line place site.loops line s)
      (grows-bind files _ _ (grows-quietly _ (grows-perform s.variables site.loops line.text (line_kind line.text) costs))
      (λ done. shared-open_request files place (record s { variables = done.0 }) done.1)))
      (λ opened. bind (shared-opened_lines files makefile site.levels opened) (λ done. shared-give files _))
  grows-tree (ChoiceTree line first later) s costs = grows-bind files _ _ (grows-holds line.line line.text s) (λ held. shared-give files _)
  grows-tree (LoopTree line body) s costs =
      grows-bind files _ _ (grows-tell (at site.file line.line) _ (grows-quietly _ (grows-iterations s.variables site.loops line.text)))
      (λ iterations. shared-give files _)

-- the next thing that a frame does, if it costs at least a unit
abbrev pub Spends : Frame → Type 0
Spends (Lines site EmptyBlock) = ⊥
Spends (Lines site (MoreBlock tree block)) = TreeCosts tree
Spends (Later site NoBranches) = ⊥
Spends (Later site (ElifBranch line block more)) = Unit {0}
Spends (Later site (ElseBranch block)) = ⊥
Spends (Iterations site line body []) = ⊥
Spends (Iterations site line body (iteration ∷ iterations)) = Unit {0}
Spends (Modules site line) = ⊥
Spends (Searches site line words) = ⊥

pub grows-advance : (files : FileMap) (makefile : List ℕ) (frame : Frame) (frames : List Frame) (s : EvalState) → Spends frame
    → Grows (advance files makefile frame frames s)
grows-advance files makefile (Lines site EmptyBlock) frames s costs = absurd costs
grows-advance files makefile (Lines site (MoreBlock tree block)) frames s costs = grows-bind files _ _
    (grows-tree files makefile site tree s costs) (λ done. shared-give files _)
grows-advance files makefile (Later site NoBranches) frames s costs = absurd costs
grows-advance files makefile (Later site (ElifBranch line block more)) frames s costs = grows-bind files _ _
    (grows-holds files makefile site line.line line.text s) (λ held. shared-give files _)
grows-advance files makefile (Later site (ElseBranch block)) frames s costs = absurd costs
grows-advance files makefile (Iterations site line body []) frames s costs = absurd costs
grows-advance files makefile (Iterations site line body (iteration ∷ iterations)) frames s costs =
    grows-bind files _ _ (grows-tell (at site.file line) _ (grows-quietly _ grows-pay)) (λ _. shared-give files _)
grows-advance files makefile (Modules site line) frames s costs = absurd costs
grows-advance files makefile (Searches site line words) frames s costs = absurd costs
