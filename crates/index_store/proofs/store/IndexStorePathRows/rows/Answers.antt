-- Nothing has changed.
use Rattle.std.proofs.Common.{◌∙◌, ap, sym, subst}
use Rattle.sql_facts.specs.States.{state_of}
use Rattle.index_store.specs.PortTable.{AreNotedPaths, stored_by, profiles_by}
use Rattle.index_store.proofs.Keeping.{still_with, still_entries}
use Rattle.index_store.proofs.store.IndexStorePathRows.rows.Goals as goal

pub invariant_of-self : goal.invariant_of-self
invariant_of-self c =
    let old = state_of c.self.inside.conn in
    let new = state_of c.read_rows.new.conn in (
      still_with c.self.inside.has_earlier old new c.self.invariant.0 c.read_rows.ensures.stays,
      subst (λ es. AreNotedPaths c.self.inside.paths (stored_by es)) (sym (still_entries old new c.read_rows.ensures.stays))
          c.self.invariant.1,
    )

pub returns-clause-same : goal.returns-clause-same
returns-clause-same c path = ap (λ es. stored_by es path) (still_entries (state_of c.self.inside.conn)
    (state_of c.read_rows.new.conn) c.read_rows.ensures.stays ∙ c.self.view_is)

pub returns-clause-profiles : goal.returns-clause-profiles
returns-clause-profiles c path = ap (λ es. profiles_by es path) (still_entries (state_of c.self.inside.conn)
    (state_of c.read_rows.new.conn) c.read_rows.ensures.stays ∙ c.self.view_is)
