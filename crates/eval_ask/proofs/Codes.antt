-- How proofs tell evaluations and their ends apart.
use Rattle.std.proofs.Common.{◌≡◌, ◌⊎◌, inl, inr, ap, refl, ℕ, Bool, List, [], ◌∷◌, slice_get, Option, unwrap_or, Result}
use Rattle.std.specs.Coded.{Coded, code_by, coded×, coded⊎, coded_list, coded_ℕ, coded_bool, coded_option, coded_result}
use Rattle.std.specs.FinMap.{code}
use Rattle.mk_base.specs.FaultAt.{FaultAt}
use Rattle.mk_base.specs.Faults.{fault_number}
use Rattle.mk_base.specs.Meter.{Meter}
use Rattle.mk_base.specs.declared.faults.FaultKind.{FaultKind}
use Rattle.mk_base.specs.declared.faults.FaultKind.TheVariants as kinds
use Rattle.mk_text.specs.Profiles.{profile_code}
use Rattle.mk_env.specs.Texts.{Variables}
use Rattle.mk_paths.specs.FilesView.{Question, Reply, Presence, Contents}
use Rattle.mk_files.specs.Questions.{Account}
use Rattle.mk_eval.specs.declared.outcome.Evaluated.{Evaluated}
use Rattle.mk_eval.specs.declared.outcome.Failed.{Failed}
use Rattle.mk_eval.specs.declared.outcome.Kind.{Kind}
use Rattle.mk_eval.specs.declared.outcome.Kind.TheVariants as outcome
use Rattle.mk_eval.specs.declared.state.EvalState.{EvalState}
use Rattle.read_trace.specs.declared.evaluation.Evaluation.{Evaluation}

-- the kind of fault of each number, of which the first is 1
abbrev fault_kinds : List FaultKind
fault_kinds =
    kinds.Line ∷ kinds.Line ∷ kinds.Block ∷ kinds.Condition ∷ kinds.For ∷ kinds.Include ∷
    kinds.IncludeDepth ∷ kinds.Reference ∷ kinds.Modifier ∷ kinds.Recursive ∷ kinds.Depth ∷
    kinds.Budget ∷ kinds.Length ∷ kinds.Shell ∷ kinds.Utf8 ∷ kinds.Flavor ∷ kinds.NoName ∷
    kinds.BadName ∷ kinds.Questions ∷ []

abbrev fault_of : ℕ → FaultKind
fault_of n = unwrap_or (slice_get fault_kinds n) kinds.Line

fault_of-number : (kind : FaultKind) → fault_of (fault_number kind) ≡ kind
fault_of-number kinds.Line = refl
fault_of-number kinds.Block = refl
fault_of-number kinds.Condition = refl
fault_of-number kinds.For = refl
fault_of-number kinds.Include = refl
fault_of-number kinds.IncludeDepth = refl
fault_of-number kinds.Reference = refl
fault_of-number kinds.Modifier = refl
fault_of-number kinds.Recursive = refl
fault_of-number kinds.Depth = refl
fault_of-number kinds.Budget = refl
fault_of-number kinds.Length = refl
fault_of-number kinds.Shell = refl
fault_of-number kinds.Utf8 = refl
fault_of-number kinds.Flavor = refl
fault_of-number kinds.NoName = refl
fault_of-number kinds.BadName = refl
fault_of-number kinds.Questions = refl

fault_code : Coded FaultAt
fault_code =
    code_by (ℕ × (List ℕ × ℕ)) (coded× coded_ℕ (coded× (coded_list coded_ℕ) coded_ℕ))
    (λ fault. (fault_number fault.kind, (fault.name, fault.line)))
    (λ parts. record { kind = fault_of parts.0; name = parts.1.0; line = parts.1.1 })
    (λ fault. ap (λ kind. let same : FaultAt = record { kind = kind; name = fault.name; line = fault.line } in same)
    (fault_of-number fault.kind))

abbrev kind_number : Kind → ℕ
kind_number outcome.Port = 0
kind_number outcome.List = 1
kind_number outcome.Other = 2

abbrev kind_of : ℕ → Kind
kind_of n = unwrap_or (slice_get (outcome.Port ∷ outcome.List ∷ outcome.Other ∷ []) n) outcome.Other

kind_of-number : (kind : Kind) → kind_of (kind_number kind) ≡ kind
kind_of-number outcome.Port = refl
kind_of-number outcome.List = refl
kind_of-number outcome.Other = refl

kind_code : Coded Kind
kind_code = code_by ℕ coded_ℕ kind_number kind_of kind_of-number

variables_code : Coded Variables
variables_code = coded× profile_code (code (coded_list coded_ℕ) (coded_list coded_ℕ))

state_code : Coded EvalState
state_code =
    code_by (Variables × (Kind × (Bool × List (List ℕ))))
    (coded× variables_code (coded× kind_code (coded× coded_bool (coded_list (coded_list coded_ℕ)))))
    (λ state. (state.variables, (state.kind, (state.shared_asked, state.path))))
    (λ parts. record { variables = parts.0; kind = parts.1.0; shared_asked = parts.1.1.0; path = parts.1.1.1 }) (λ state. refl)

abbrev reply_parts : Reply → Bool ⊎ Option (List ℕ)
reply_parts (Presence there) = inl there
reply_parts (Contents content) = inr content

abbrev reply_of : Bool ⊎ Option (List ℕ) → Reply
reply_of (inl there) = Presence there
reply_of (inr content) = Contents content

reply_of-parts : (reply : Reply) → reply_of (reply_parts reply) ≡ reply
reply_of-parts (Presence there) = refl
reply_of-parts (Contents content) = refl

reply_code : Coded Reply
reply_code = code_by (Bool ⊎ Option (List ℕ)) (coded⊎ coded_bool (coded_option (coded_list coded_ℕ))) reply_parts reply_of reply_of-parts

question_code : Coded Question
question_code = coded× (coded_list coded_ℕ) reply_code

meter_code : Coded Meter
meter_code =
    code_by (ℕ × (ℕ × ℕ)) (coded× coded_ℕ (coded× coded_ℕ coded_ℕ))
    (λ meter. (meter.limit, (meter.spent, meter.questions))) (λ parts. record { limit = parts.0; spent = parts.1.0; questions = parts.1.1 })
    (λ meter. refl)

account_code : Coded Account
account_code =
    code_by (Meter × Option (List Question)) (coded× meter_code (coded_option (coded_list question_code)))
    (λ account. (account.meter, account.log)) (λ parts. record { meter = parts.0; log = parts.1 }) (λ account. refl)

-- the end of an evaluation, with what it leaves
pub end_code : Coded (Result (EvalState × Account) (FaultAt × Account))
end_code = coded_result (coded× state_code account_code) (coded× fault_code account_code)

evaluated_code : Coded Evaluated
evaluated_code =
    code_by (Kind × (Variables × ℕ)) (coded× kind_code (coded× variables_code coded_ℕ))
    (λ evaluated. (evaluated.kind, (evaluated.env, evaluated.cost))) (λ parts. record { kind = parts.0; env = parts.1.0; cost = parts.1.1 })
    (λ evaluated. refl)

failed_code : Coded Failed
failed_code = code_by (FaultAt × ℕ) (coded× fault_code coded_ℕ) (λ failed. (failed.fault, failed.cost))
    (λ parts. record { fault = parts.0; cost = parts.1 }) (λ failed. refl)

-- what a makefile means, with what its evaluation asks
pub evaluation_code : Coded Evaluation
evaluation_code =
    code_by (Result Evaluated Failed × List Question) (coded× (coded_result evaluated_code failed_code) (coded_list question_code))
    (λ evaluation. (evaluation.outcome, evaluation.trace)) (λ parts. record { outcome = parts.0; trace = parts.1 }) (λ evaluation. refl)
