-- What a look for an evaluation gives, by what is kept and by the files.
use Rattle.std.specs.Prelude.{Result, ℕ, IfOk, ◌≡◌, List, OnOk, IfErr, Option, is_some, IfSome, ◌≤◌}
use Rattle.turn_amounts.specs.declared.TheConstants.{MOST_CHECKS}
use Rattle.std.specs.declared.rc.Rc.{Rc}
use Rattle.std.specs.Global.{Global}
use Rattle.eval_cache.specs.declared.look.Look.{Look}
use Rattle.mk_paths.specs.World.{FileMap}
use Rattle.eval_cache.specs.Cache.{CacheValue, traces_at, count_look}
use Rattle.eval_cache.specs.declared.key.EvalKey.{EvalKey}
use Rattle.eval_cache.specs.Look.{IsFound, agreeing, ChecksAmong, FailsAmong, IsAgreed}
use Rattle.eval_cache.specs.Keys.{Key, key_of}
use Rattle.mk_paths.specs.FilesView.{FilesView, Question}
use Rattle.mk_paths.specs.declared.files.FilesFault.{FilesFault}
use Rattle.eval_cache.specs.CacheOrder.{looked_at}
use Rattle.read_trace.specs.declared.evaluation.Evaluation.{Evaluation}
use Rattle.eval_cache.specs.Held.{IsOneOf}
use Rattle.read_trace.specs.Agreement.{IsAnswered}

-- A look under a key among files: what was found, after how many checks, and which answers were checked for that. At most as
-- many are checked as the traces under a key have. A hit is counted, and its key stands first from now on.
pub record Looks (before after : FilesView) (key : EvalKey) (old new : CacheValue) (came : Look × ℕ) : Type 0 where
  pub found : IsFound before.files (key_of key) (traces_at old (key_of key)) came.1 came.0
  pub checks : came.1 ≡ (agreeing before.files (traces_at old (key_of key))).1
  pub few : came.1 ≤ MOST_CHECKS
  pub asked : ChecksAmong before (traces_at old (key_of key)) after
  pub counted : new.counts ≡ count_look came.0 old.counts
  pub order : new.traces ≡ looked_at came.0 (key_of key) old

-- where a look succeeds, it is one under this key among these files
abbrev pub LooksUnder : {X F : Type 0} → (X → FilesView) → Result (Look × ℕ) F → X → X → EvalKey → CacheValue → CacheValue → Type 0
LooksUnder view result before after key old new = IfOk result (Looks (view before) (view after) key old new)

-- All that is kept stays, and so does what the cache is used for. Only the counts and the order of keys may change.
pub record KeepsAllKept (old new : CacheValue) : Type 0 where
  pub traces : (other : Key) → traces_at new other ≡ traces_at old other
  pub parses : new.contents ≡ old.contents
  pub purpose : new.purpose ≡ old.purpose

-- where a function succeeds, it asked the files what checks these traces
abbrev pub AsksToCheck : {R F : Type 0} → Result R F → FilesView → FilesView → List (List Question) → Type 0
AsksToCheck result old new traces = OnOk result (ChecksAmong old traces new)

-- the same of the traces that are kept under a key
abbrev pub AsksChecks : {R F : Type 0} → Result R F → FilesView → FilesView → CacheValue → EvalKey → Type 0
AsksChecks result old new cache key = AsksToCheck result old new (traces_at cache (key_of key))

-- if a function fails, some questions were asked again, and this is why no more were
abbrev pub FailsChecking : {R : Type 0} → (FilesFault → Type 0) → Result R FilesFault → FilesView → FilesView → Type 0
FailsChecking may result old new = IfErr result (λ fault. FailsAmong may old new fault)

-- where a function succeeds, it tells whether one of these traces agrees with the files, and how many answers were checked
abbrev pub TellsAgreement : {X F : Type 0} → Result (Option X × ℕ) F → FileMap → List (List Question) → Type 0
TellsAgreement result files traces = IfOk result (λ found. (is_some found.0, found.1) ≡ agreeing files traces)

-- the same of the traces that are kept under a key
abbrev pub TellsAgreementAt : {X F : Type 0} → Result (Option X × ℕ) F → FileMap → CacheValue → EvalKey → Type 0
TellsAgreementAt result files cache key = TellsAgreement result files (traces_at cache (key_of key))

-- where a function succeeds, an evaluation that it found is that of the key among the files
abbrev pub FindsAgreed : {F : Type 0} → Result (Option (Rc Evaluation Global) × ℕ) F → FileMap → EvalKey → Type 0
FindsAgreed result files key =
    IfOk result (λ found. IfSome found.0 (λ evaluation. IsAgreed files (key_of key) found.1 evaluation.value))

-- where a function succeeds, an evaluation that it found is one of these, and the files answer as its trace says
abbrev pub FindsAnswered : {F : Type 0} → Result (Option (Rc Evaluation Global) × ℕ) F → FileMap → List (Rc Evaluation Global) → Type 0
FindsAnswered result files kept =
    IfOk result (λ found. IfSome found.0 (λ evaluation.
    IsOneOf kept evaluation.value × IsAnswered files evaluation.value.trace × (1 ≤ found.1)))
