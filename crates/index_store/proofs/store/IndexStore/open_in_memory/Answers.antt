-- No path has a row.
use Rattle.std.proofs.Common.{◌∙◌, ap, sym, is_some}
use Rattle.std.specs.Prelude.{option_map}
use Rattle.sql_facts.specs.States.{state_of}
use Rattle.index_store.specs.PortTable.{Rows, all_of, value_stored}
use Rattle.index_store.specs.declared.statements.Part.TheVariants.{Earlier}
use Rattle.index_store.proofs.Answering.{all_found}
use Rattle.index_store.proofs.NotedLemmas.{none-noted}
use Rattle.index_store.proofs.store.IndexStore.open_in_memory.Goals as goal

pub returns-in-Ok : goal.returns-in-Ok
returns-in-Ok c path =
    ap (option_map value_stored) (all_found (state_of c.in-Ok.conn).now.trees path
    ∙ ap (λ (rows : Rows). all_of rows path) c.in-Ok.ensures.are)

pub invariant_of-result : goal.invariant_of-result
invariant_of-result c = (
  record { kept = c.in-Ok.ensures.kept; earlier = λ _. ap (λ (rows : Rows). rows Earlier) c.in-Ok.ensures.are },
  λ path. none-noted c.new.result c.new.ensures.empty path
      ∙ sym (ap (λ o. is_some (option_map value_stored o)) (all_found (state_of c.in-Ok.conn).now.trees path
      ∙ ap (λ (rows : Rows). all_of rows path) c.in-Ok.ensures.are)),
)
