-- What is left if nothing listens.
use Rattle.std.proofs.Common.{◌≡◌, ℕ, List, Option, Result, Ok, subst, sym, true, inl}
use Rattle.std.proofs.lemmas.Result.{err_from_is_err_and}
use Rattle.std.specs.Prelude.{IfOk, IsErrAnd}
use Rattle.ports_core.specs.Keys.{is_fit}
use Rattle.ports_serve.specs.declared.listen.ListenFault.{ListenFault}
use Rattle.ports_serve.specs.declared.listen.ListenFault.TheVariants as faults
use Rattle.portsd_text.specs.declared.failure.Failure.{Failure}
use Rattle.portsd_run.specs.declared.command_line.Serving.{Serving}
use Rattle.portsd_run.specs.ServiceRun.{listen_failure, EndsServing}
use Rattle.portsd_run.proofs.RunFacts.{Keeps-same}

no_wire : {W : Type 0} (ListensOn : ℕ → W → Type 0) (serving : Serving) (held : Option (List ℕ))
    → is_fit serving.config ≡ true → (fault : ListenFault)
    → EndsServing ListensOn serving held held (listen_failure fault)
no_wire ListensOn serving held fit faults.Port = (fit, Keeps-same held)
no_wire ListensOn serving held fit (faults.Memory _) = (fit, inl (Keeps-same held))

-- nothing listens, and that is the failure
pub not_listening : {W : Type 0} (ListensOn : ℕ → W → Type 0) (serving : Serving) (held : Option (List ℕ)) → is_fit serving.config ≡ true
    → (begun : Result W ListenFault) (failure : Failure)
    → IsErrAnd begun (λ fault. failure ≡ listen_failure fault) → EndsServing ListensOn serving held held failure
not_listening ListensOn serving held fit begun failure fails =
    let p = err_from_is_err_and begun fails in
    subst (EndsServing ListensOn serving held held) (sym p.2) (no_wire ListensOn serving held fit p.0)

-- what listens does so on the port
pub listens_on : {W E : Type 0} (P : W → Type 0) (begun : Result W E) (wire : W) → begun ≡ Ok wire → IfOk begun P → P wire
listens_on P begun wire is holds = subst (λ r. IfOk r P) is holds
