-- Traces are tried one after another.
use Rattle.std.proofs.Common.{◌≡◌, ◌∙◌, ap, sym, subst, arith, ℕ, suc, zero, ◌+◌, ◌≤◌, ◌<◌, Bool, true, false, List, [], ◌∷◌, ◌++◌, map}
use Rattle.std.proofs.Common.{length, take, drop, get_or, Option, Some, None, IfSome, inl, inr, Global, append_assoc}
use Rattle.turn_amounts.specs.declared.TheConstants.{MOST_ANSWERS, MOST_EVALUATIONS}
use Rattle.std.specs.Prelude.{if◌then◌else◌}
use Rattle.std.proofs.lemmas.List.{drop_more}
use Rattle.std.specs.List.{AllByRecursion}
use Rattle.std.specs.declared.rc.Rc.{Rc}
use Rattle.mk_paths.specs.World.{FileMap}
use Rattle.mk_paths.specs.FilesView.{Question, FilesView, noted, noted-twice}
use Rattle.mk_files.specs.AfterQuestions.{AfterFailedQuestion, LeavesAtStop-on, stop_of}
use Rattle.mk_paths.specs.declared.files.FilesFault.{FilesFault}
use Rattle.mk_paths.specs.declared.files.FilesFault.TheVariants as faults
use Rattle.read_trace.specs.Agreement.{agreement, asked_again, has_reply, one_more_checked, AsksAgain, IsAnswered}
use Rattle.read_trace.specs.declared.evaluation.Evaluation.{Evaluation}
use Rattle.eval_cache.specs.Keys.{Key}
use Rattle.eval_cache.specs.Right.{IsRight}
use Rattle.eval_cache.specs.Look.{after_more_checks, agreeing, checked_in, checked_among, FailsAmong, IsAgreed}
use Rattle.eval_cache.specs.Held.{AreRight, AreShort, HasFewAnswers, IsOneOf, traces_of}
use Rattle.refusals.specs.Refused.{refused}

-- what is right of each is right of one of them
pub AreRight-IsOneOf : (key : Key) (kept : List (Rc Evaluation Global)) (evaluation : Evaluation)
    → AreRight key kept → IsOneOf kept evaluation → IsRight key evaluation
AreRight-IsOneOf key [] evaluation right one = absurd one
AreRight-IsOneOf key (first ∷ kept) evaluation right (inl same) = subst (IsRight key) same right.0
AreRight-IsOneOf key (first ∷ kept) evaluation right (inr more) = AreRight-IsOneOf key kept evaluation right.1 more

-- the trace at a place is short
pub short-at : (kept : List (Rc Evaluation Global)) (i : ℕ) (one : Rc Evaluation Global)
    → AllByRecursion (λ evaluation. HasFewAnswers evaluation.value.trace) kept → i < length kept → one ≡ get_or kept i one
    → HasFewAnswers one.value.trace
short-at [] i one short within is = absurd (omega arith)
short-at (first ∷ kept) zero one short within is = subst (λ r. HasFewAnswers r.value.trace) (sym is) short.0
short-at (first ∷ kept) (suc i) one short within is = short-at kept i one short.1 (omega arith) is

-- what is at a place is one of them
pub IsOneOf-at : (kept : List (Rc Evaluation Global)) (i : ℕ) (one : Rc Evaluation Global) (evaluation : Evaluation)
    → i < length kept → one ≡ get_or kept i one → evaluation ≡ one.value → IsOneOf kept evaluation
IsOneOf-at [] i one evaluation within is same = absurd (omega arith)
IsOneOf-at (first ∷ kept) zero one evaluation within is same = inl (sym (same ∙ ap (λ (r : Rc Evaluation Global). r.value) is))
IsOneOf-at (first ∷ kept) (suc i) one evaluation within is same = inr (IsOneOf-at kept i one evaluation (omega arith) is same)

agreed_step : (files : FileMap) (question : Question) (questions : List Question) (same : Bool)
    → (agreement files questions).1 ≤ length questions
    → (if same then one_more_checked (agreement files questions) else (false, 1)).1 ≤ length (question ∷ questions)
agreed_step files question questions true within = omega arith
agreed_step files question questions false within = omega arith

-- no more answers are checked than a trace has
pub agreement-≤ : (files : FileMap) (questions : List Question) → (agreement files questions).1 ≤ length questions
agreement-≤ files [] = omega arith
agreement-≤ files (question ∷ questions) = agreed_step files question questions (has_reply files question) (agreement-≤ files questions)

one_more_checked-checked : (files : FileMap) (questions : List Question) (same : Bool)
    → 1 ≤ (if same then one_more_checked (agreement files questions) else (false, 1)).1
one_more_checked-checked files questions true = omega arith
one_more_checked-checked files questions false = omega arith

-- of a trace that has answers at least one is checked
pub agreement-some : (files : FileMap) (questions : List Question) → 1 ≤ length questions → 1 ≤ (agreement files questions).1
agreement-some files [] some = absurd (omega (arith, some))
agreement-some files (question ∷ questions) some = one_more_checked-checked files questions (has_reply files question)

-- so one trace adds few of them, and at least one
pub few-more : (kept : List (Rc Evaluation Global)) (i : ℕ) (one : Rc Evaluation Global) (evaluation : Evaluation)
    (files : FileMap) (answer : Bool × ℕ)
    → AreShort kept → i < length kept → one ≡ get_or kept i one → evaluation ≡ one.value → answer ≡ agreement files evaluation.trace
    → (answer.1 ≤ MOST_ANSWERS) × (i < MOST_EVALUATIONS) × (1 ≤ answer.1)
few-more kept i one evaluation files answer short within is same found =
    let at : HasFewAnswers one.value.trace = short-at kept i one short.0 within is in
    let trace : HasFewAnswers evaluation.trace = subst (λ (e : Evaluation). HasFewAnswers e.trace) (sym same) at in
    let count : answer.1 ≡ (agreement files evaluation.trace).1 = ap (λ (p : Bool × ℕ). p.1) found in (
      omega (arith, agreement-≤ files evaluation.trace, trace.1),
      omega (arith, short.1),
      omega (arith, agreement-some files evaluation.trace trace.0),
    )

-- What was checked before the rest of the traces: none agreed, so many answers were checked, and the view of the
-- files is this.
pub record Checked (old : FilesView) (traces rest : List (List Question)) (count : ℕ) (new : FilesView) : Type 0 where
  pub agreeing_so_far : agreeing old.files traces ≡ after_more_checks count (agreeing old.files rest)
  pub before : List Question
  pub in_log : new ≡ noted old before
  pub asked : checked_among old.files traces ≡ before ++ checked_among old.files rest

after_more_checks-twice : (count more : ℕ) (checked : Bool × ℕ) → after_more_checks count (after_more_checks more checked) ≡
    after_more_checks (count + more) checked
after_more_checks-twice count more checked = ap (λ n. (checked.0, n)) (omega arith)

files-checked : (old middle : FilesView) (before : List Question) → middle ≡ noted old before → middle.files ≡ old.files
files-checked old middle before is = ap (λ view. view.files) is

agreement-checked : (old middle : FilesView) (before : List Question) (trace : List Question) (answer : Bool × ℕ)
    → middle ≡ noted old before → answer ≡ agreement middle.files trace → agreement old.files trace ≡ answer
agreement-checked old middle before trace answer is found =
    sym (found ∙ ap (λ files. agreement files trace) (files-checked old middle before is))

-- a trace that was found to agree is answered as the files answer it
pub IsAnswered-checked : (old : FilesView) (traces rest : List (List Question)) (count : ℕ) (middle : FilesView)
    (answer : Bool × ℕ) (trace : List Question)
    → Checked old traces rest count middle → answer ≡ agreement middle.files trace → answer.0 ≡ true → IsAnswered old.files trace
IsAnswered-checked old traces rest count middle answer trace so_far found same =
    ap (λ (p : Bool × ℕ). p.0) (agreement-checked old middle so_far.before trace answer so_far.in_log found) ∙ same

-- the files after one more trace
log-more : (old middle new : FilesView) (before trace : List Question) (more : ℕ) → middle ≡ noted old before
    → (agreement old.files trace).1 ≡ more → AsksAgain middle trace more new → new ≡ noted old (before ++ checked_in old.files trace)
log-more old middle new before trace more is count asks =
    asks
    ∙ ap (λ files. noted middle (map (asked_again files) (take more trace))) (files-checked old middle before is)
    ∙ ap (λ n. noted middle (map (asked_again old.files) (take n trace))) (sym count)
    ∙ ap (λ view. noted view (checked_in old.files trace)) is
    ∙ noted-twice old before (checked_in old.files trace)

-- one more trace that doesn't agree
pub Checked-more : (old : FilesView) (traces : List (List Question)) (trace : List Question) (rest : List (List Question)) (count : ℕ)
    (answer : Bool × ℕ) (middle new : FilesView) → Checked old traces (trace ∷ rest) count middle → answer ≡ agreement middle.files trace
    → AsksAgain middle trace answer.1 new → answer.0 ≡ false → Checked old traces rest (count + answer.1) new
Checked-more old traces trace rest count answer middle new so_far found asks differs =
    let same = agreement-checked old middle so_far.before trace answer so_far.in_log found in
    let differs' : (agreement old.files trace).0 ≡ false = ap (λ (p : Bool × ℕ). p.0) same ∙ differs in
    record {
      agreeing_so_far = so_far.agreeing_so_far
          ∙ ap (λ b. after_more_checks count (if b then agreement old.files trace else after_more_checks (agreement old.files trace).1
          (agreeing old.files rest))) differs'
          ∙ ap (λ (p : Bool × ℕ). after_more_checks count (after_more_checks p.1 (agreeing old.files rest))) same
          ∙ after_more_checks-twice count answer.1 (agreeing old.files rest);
      before = so_far.before ++ checked_in old.files trace;
      in_log = log-more old middle new so_far.before trace answer.1 so_far.in_log (ap (λ (p : Bool × ℕ). p.1) same) asks;
      asked = so_far.asked
          ∙ ap (λ b. so_far.before ++ (checked_in old.files trace ++ (if b then [] else checked_among old.files rest))) differs'
          ∙ sym (append_assoc so_far.before (checked_in old.files trace) (checked_among old.files rest));
    }

-- the files failed at a question of a trace
pub Checked-fails : (may : FilesFault → Type 0) (old : FilesView) (traces rest : List (List Question)) (count : ℕ)
    (middle new : FilesView) (fault : FilesFault)
    → Checked old traces rest count middle → may fault → AfterFailedQuestion middle new → FailsAmong may old new fault
Checked-fails may old traces rest count middle new fault so_far kind failed =
    LeavesAtStop-on may old middle new (stop_of fault) (record { questions = so_far.before; in_log = so_far.in_log }) (at_once fault kind)
  where
    at_once : (fault : FilesFault) → may fault → FailsAmong may middle new fault
    at_once (faults.Store _) kind = (kind, failed)
    at_once (faults.Memory _) kind = inr (kind, failed)

-- the rest of the traces from a place on begins with the one there
pub Checked-at : (old : FilesView) (kept : List (Rc Evaluation Global)) (i : ℕ) (one : Rc Evaluation Global) (evaluation : Evaluation)
    (count : ℕ) (new : FilesView)
    → i < length kept → one ≡ get_or kept i one → evaluation ≡ one.value
    → Checked old (traces_of kept) (traces_of (drop i kept)) count new
    → Checked old (traces_of kept) (evaluation.trace ∷ traces_of (drop (i + 1) kept)) count new
Checked-at old kept i one evaluation count new within is same so_far =
    subst (λ rest. Checked old (traces_of kept) rest count new)
    (ap traces_of (drop_more kept i one within) ∙ ap (λ (r : Rc Evaluation Global). r.value.trace ∷ traces_of (drop (i + 1) kept)) (sym is)
    ∙ ap (λ (e : Evaluation). e.trace ∷ traces_of (drop (i + 1) kept)) (sym same))
    so_far

-- the evaluation that is found is the one that is asked for
pub AreRight-found : (files : FileMap) (key : Key) (checked : ℕ) (kept : List (Rc Evaluation Global))
    (found : Option (Rc Evaluation Global)) → AreRight key kept
    → IfSome found (λ evaluation. IsOneOf kept evaluation.value × IsAnswered files evaluation.value.trace × (1 ≤ checked))
    → IfSome found (λ evaluation. IsAgreed files key checked evaluation.value)
AreRight-found files key checked kept None right found = tt
AreRight-found files key checked kept (Some evaluation) right found = record {
  same = sym (AreRight-IsOneOf key kept evaluation.value right found.0 files found.1);
  answered = found.1;
  some = found.2;
}

-- no more can share an evaluation whose trace agrees
pub Checked-alone : (may : FilesFault → Type 0) (old : FilesView) (traces : List (List Question)) (trace : List Question)
    (rest : List (List Question)) (count : ℕ)
    (answer : Bool × ℕ) (middle new : FilesView) → Checked old traces (trace ∷ rest) count middle → answer ≡ agreement middle.files trace
    → AsksAgain middle trace answer.1 new → FailsAmong may old new (faults.Memory refused)
Checked-alone may old traces trace rest count answer middle new so_far found asks =
    let same = agreement-checked old middle so_far.before trace answer so_far.in_log found in
    inl (record {
      questions = so_far.before ++ checked_in old.files trace;
      in_log = log-more old middle new so_far.before trace answer.1 so_far.in_log (ap (λ (p : Bool × ℕ). p.1) same) asks;
    })
