-- What the call makes of the rows, or nothing has changed.
use Rattle.std.proofs.Common.{◌≡◌, ◌∙◌, ap, refl, sym, Option, Some, None}
use Rattle.std.proofs.lemmas.Bool.{not-true}
use Rattle.std.specs.BTreeSet.{contains_text}
use Rattle.std.specs.Option.{option_or}
use Rattle.std.specs.Prelude.{option_map}
use Rattle.sql_facts.specs.States.{state_of}
use Rattle.index_store.specs.PortTable.{Entry, rows_of, stored_in, value_stored}
use Rattle.index_store.specs.declared.statements.Part.TheVariants.{Earlier, Current}
use Rattle.index_store.proofs.Answering.{all_found}
use Rattle.index_store.proofs.NotedLemmas.{not-noted}
use Rattle.index_store.proofs.store.IndexStorePathRows.put.Goals as goal

-- a path that is new has no row in the table of today
none_current : (earlier current : Option Entry) → option_map value_stored (option_or earlier current) ≡ None → current ≡ None
none_current None None none = refl
none_current None (Some e) none = absurd cc
none_current (Some e) current none = absurd cc

pub write-requires-clause-free : goal.write-requires-clause-free
write-requires-clause-free c is =
    let trees = (state_of c.self.inside.conn).now.trees in
    let none = not-noted c.self.inside.paths (stored_in c.self.inside.conn) c.self.invariant.1 c.args.path.now
    (not-true (contains_text c.self.inside.paths c.args.path.now) (sym c.in_ok-is_new.ensures.is_new ∙ is)) in
    none_current (rows_of c.self.inside.conn Earlier c.args.path.now) (rows_of c.self.inside.conn Current c.args.path.now)
    (ap (option_map value_stored) (sym (all_found trees c.args.path.now)) ∙ none)
