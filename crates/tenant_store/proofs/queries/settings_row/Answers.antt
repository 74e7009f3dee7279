-- The first row has the settings.
use Rattle.std.proofs.Common.{subst, sym}
use Rattle.sqlite.specs.Held.{state}
use Rattle.sqlite.specs.Steps.{over_memory}
use Rattle.sqlite_rules.specs.Lists.{Has}
use Rattle.sql_facts.proofs.Ending.{if_ok_then}
use Rattle.tenant_store.specs.SettingsRows.{shown_settings}
use Rattle.tenant_store.specs.Tables.{held_in}
use Rattle.tenant_store.proofs.Answering.{first_has}
use Rattle.tenant_store.proofs.Keeping.{settings_are}
use Rattle.tenant_store.proofs.queries.settings_row.Goals as goal

pub returns-clause-settings : goal.returns-clause-settings
returns-clause-settings c =
    let rows = c.in_ok-rows.rows.items in
    let shown = c.in_ok-rows.ensures.rows in
    let has = subst (Has rows) (sym c.index.ensures) (first_has rows c.index.result.now shown.there) in
    if_ok_then c.settings_from.result (λ a is. settings_are (held_in (state over_memory c.args.conn.now)) a c.requires.path
    (shown.each c.index.result.now (shown_settings a) has is)) c.settings_from.ensures
