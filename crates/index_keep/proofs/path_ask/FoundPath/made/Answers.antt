-- The names are those of the place's questions, and then of the evaluation's.
use Rattle.std.proofs.Common.{◌≡◌, ◌≤◌, ◌+◌, ◌++◌, ◌∙◌, ap, ap₂, arith, subst, sym, List, Option, ℕ, map, string_bytes}
use Rattle.std.proofs.lemmas.List.{map-append}
use Rattle.mk_base.specs.declared.budget.TheConstants.{UNITS}
use Rattle.mk_paths.specs.FilesView.{Question}
use Rattle.mk_eval.specs.Agreement.{cost_of}
use Rattle.read_trace.specs.declared.evaluation.Evaluation.{Evaluation}
use Rattle.turn_amounts.specs.declared.spent.Spent.{Spent}
use Rattle.port_index.specs.PathOutcomes.{Finding, finding_of_evaluation}
use Rattle.port_index.specs.Seen.{finding_seen}
use Rattle.index_row.specs.Rows.{RowValue}
use Rattle.turn_amounts.specs.Spent.{total_of}
use Rattle.eval_ask.specs.Ask.{spent_less_saved}
use Rattle.eval_ask.specs.declared.ask.Asked.{Asked}
use Rattle.index_keep.specs.Paths.{flavors_named}
use Rattle.index_keep.specs.Right.{names_in}
use Rattle.index_keep.proofs.MadeLemmas.{most-found}
use Rattle.index_keep.proofs.path_ask.FoundPath.made.Goals as goal

pub returns-clause-row : goal.returns-clause-row
returns-clause-row c =
    let outcome = c.args.asked.now.evaluation.value.outcome in
    let found : finding_seen c.in_ok-row.row ≡ finding_of_evaluation c.args.self.makefile (flavors_named c.args.self.named) outcome =
    c.in_ok-row.ensures ∙ ap₂ (λ (flavors : Option (List (List ℕ))) (evaluation : Evaluation). finding_of_evaluation
    c.args.self.makefile flavors evaluation.outcome) c.flavors.ensures c.deref.ensures in
    let placed : map string_bytes c.in_ok-names.names.items ≡ names_in c.args.self.placed = c.in_ok-names.ensures
    ∙ ap names_in c.questions.ensures in
    let names : map string_bytes c.add_names.new.names.items ≡ names_in c.args.self.placed ++ names_in
    c.args.asked.now.evaluation.value.trace =
    c.in_ok-add_names.ensures ∙ ap₂ (λ first more. first ++ more) placed
    (ap names_in (c.questions-2.ensures ∙ ap (λ (evaluation : Evaluation). evaluation.trace) c.deref-2.ensures)) in
    ap₂ (λ (found : Finding) (names : List (List ℕ)). let row : RowValue = record {
      outcome = found.outcome;
      cost = found.cost;
      names =
          names;
    } in row) found
    (names ∙ sym (map-append (λ (question : Question). question.0) c.args.self.placed c.args.asked.now.evaluation.value.trace))

few_spent : (asked : Asked) (cost : ℕ) (spent : Spent) → spent ≡ spent_less_saved asked cost
    → cost ≤ cost_of asked.evaluation.value.outcome + UNITS
    → total_of spent ≤ (asked.units + asked.checks) + UNITS
few_spent asked cost spent is most = omega (arith, ap (λ (s : Spent). s.units) is, ap (λ (s : Spent). s.checks) is, most)

pub returns-clause-few : goal.returns-clause-few
returns-clause-few c =
    let asked = c.args.asked.now in
    let found : finding_seen c.in_ok-row.row ≡ finding_of_evaluation c.args.self.makefile (flavors_named c.args.self.named)
    asked.evaluation.value.outcome = c.in_ok-row.ensures
    ∙ ap₂ (λ (flavors : Option (List (List ℕ))) (evaluation : Evaluation). finding_of_evaluation c.args.self.makefile flavors
    evaluation.outcome) c.flavors.ensures c.deref.ensures in
    let most = most-found c.evaluations_cost_few.ensures c.records_cost_few.ensures c.args.self.makefile (flavors_named c.args.self.named)
    asked.evaluation.value.outcome in
    few_spent asked _ c.spent_on-spent.result c.spent_on-spent.ensures
    (subst (λ n. n ≤ cost_of asked.evaluation.value.outcome + UNITS) (sym (ap (λ (finding : Finding). finding.cost) found)) most)
