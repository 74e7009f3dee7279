-- The settings are written with the new profile.
use Rattle.sql_facts.proofs.Ending.{on_error}
use Rattle.tenant_store.proofs.settings.set_profile.Goals as goal

pub returns-in_err-settings-clause-err : goal.returns-in_err-settings-clause-err
returns-in_err-settings-clause-err c = on_error c.from_residual.result c.settings_row.ensures.same
