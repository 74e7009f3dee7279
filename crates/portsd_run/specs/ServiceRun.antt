-- How a service for clients ends.
use Rattle.std.specs.Prelude.{◌≡◌, ◌⊎◌, ℕ, true, false, List, codes, Option, Result, IfErr, IsErrAnd}
use Rattle.std.specs.Io.KnownBytes.{Appends, Keeps}
use Rattle.ports_core.specs.Keys.{is_fit, key_texts}
use Rattle.ports_core.specs.Sharing.{sizes_of}
use Rattle.ports_core.specs.State.{State, new_state}
use Rattle.ports_serve.specs.declared.listen.ListenFault.{ListenFault}
use Rattle.ports_serve.specs.declared.listen.ListenFault.TheVariants as listening
use Rattle.ports_serve.specs.Calls.{Call}
use Rattle.ports_serve.specs.Rounds.{IsServed}
use Rattle.portsd_run.specs.declared.command_line.Serving.{Serving}
use Rattle.portsd_text.specs.declared.failure.Failure.{Failure}
use Rattle.portsd_text.specs.declared.failure.Failure.TheVariants.{BadKey, BadEvent, NotAllowed, CannotListen}
use Rattle.portsd_text.specs.declared.failure.Failure.TheVariants.{CannotWrite, Store, Memory}
use Rattle.portsd_text.specs.Output.{AppendsFront, AppendsUpTo}
use Rattle.portsd_text.specs.Failures.{failure_status, failure_text}

-- what is printed once the service listens
abbrev pub ready_text : List ℕ
ready_text = codes "portsd: ready\n"

-- the failure if nothing listens
abbrev pub listen_failure : ListenFault → Failure
listen_failure listening.Port = CannotListen
listen_failure (listening.Memory refused) = Memory refused

-- where a function fails, nothing began to listen, and its failure says why
abbrev pub FailsToListen : {A W : Type 0} → Result A Failure → Result W ListenFault → Type 0
FailsToListen result begun = IfErr result (λ failure. IsErrAnd begun (λ fault. failure ≡ listen_failure fault))

-- A service that begins with the config serves all rounds over a wire that listens on the port, and it
-- has said that it is ready.
pub record ServesAllRounds {W : Type 0} (After : W → Call → W → Type 0) (ListensOn : ℕ → W → Type 0) (serving : Serving)
    (held holds : Option (List ℕ)) : Type 0 where
  pub fit : is_fit serving.config ≡ true
  pub wire : W
  pub listens : ListensOn serving.port wire
  pub ready : Appends held holds ready_text
  pub wire_left : W
  pub left : State
  pub served : IsServed After serving.rounds wire (new_state (key_texts serving.config.keys.items) (sizes_of serving.config)) wire_left left

-- a wire listens on the port
abbrev pub Listens : {W : Type 0} → (ℕ → W → Type 0) → Serving → Type 0
Listens {W} ListensOn serving = (wire : W) × ListensOn serving.port wire

-- Why it ends early. Keys are looked at first, and nothing is printed before something listens. If memory
-- runs out for the rounds, only that it is ready is printed before.
abbrev pub EndsServing : {W : Type 0} → (ℕ → W → Type 0) → Serving → Option (List ℕ) → Option (List ℕ) → Failure → Type 0
EndsServing ListensOn serving held holds BadKey = (is_fit serving.config ≡ false) × Keeps held holds
EndsServing ListensOn serving held holds (BadEvent line) = ⊥
EndsServing ListensOn serving held holds (NotAllowed line) = ⊥
EndsServing ListensOn serving held holds CannotListen = (is_fit serving.config ≡ true) × Keeps held holds
EndsServing ListensOn serving held holds CannotWrite =
    (is_fit serving.config ≡ true) × Listens ListensOn serving × AppendsFront held holds ready_text
EndsServing ListensOn serving held holds (Store _) = (is_fit serving.config ≡ true) × Keeps held holds
EndsServing ListensOn serving held holds (Memory _) =
    (is_fit serving.config ≡ true) × (Keeps held holds ⊎ (Listens ListensOn serving × Appends held holds ready_text))

-- where a function fails, the service ends early by its failure
abbrev pub FailsToServe : {W O A : Type 0} → Result A Failure → (ℕ → W → Type 0) → Serving → (O → Option (List ℕ)) → O → O → Type 0
FailsToServe result ListensOn serving contents old new = IfErr result (EndsServing ListensOn serving (contents old) (contents new))

-- How it ends. It ends with status 0 after the last round, and nothing is said. Or a failure ended it: the
-- status is the failure's, and its text is said as far as standard error takes it.
abbrev pub FinishesServing : {W : Type 0} → (W → Call → W → Type 0) → (ℕ → W → Type 0) → Serving → Option (List ℕ)
    → Option (List ℕ) → Option (List ℕ) → Option (List ℕ) → ℕ → Type 0
FinishesServing After ListensOn serving held holds unsaid said status =
    ((status ≡ 0) × ServesAllRounds After ListensOn serving held holds × Keeps unsaid said)
    ⊎ ((failure : Failure) × (status ≡ failure_status failure) × EndsServing ListensOn serving held holds failure
    × AppendsUpTo unsaid said (failure_text failure))
