-- The path is given what it leads to.
use Rattle.std.proofs.Common.{◌∙◌, sym, ap, Bor, string_bytes}
use Rattle.mk_paths.specs.World.{World}
use Rattle.port_index.specs.PathOutcomes.{Finding, outcome_at}
use Rattle.port_index.specs.Seen.{row_seen, finding_seen, entries_in}
use Rattle.port_index.specs.declared.path_outcomes.Row.{Row}
use Rattle.plain_reference.proofs.WorkLemmas.{is_none-seen, Effort-one}
use Rattle.plain_reference.proofs.Filled.{AreRight-put}
use Rattle.plain_reference.proofs.filled_rows.fill_one.Goals as goal

pub returns-clause-right : goal.returns-clause-right
returns-clause-right g c =
    let world : World = ((g.F.Names.view c.args.files.now).files, c.args.settings.now) in
    AreRight-put world (entries_in c.args.rows.now) c.requires (string_bytes c.in_ok-key.key) (entries_in c.put.new.self)
    (row_seen c.unstored.result.row)
    (ap row_seen c.unstored.ensures ∙ ap (λ (found : Finding). found.outcome) c.in_ok-found.ensures.finding
    ∙ ap (outcome_at world) (sym c.in_ok-key.ensures.ok)) c.in_ok-put.ensures.ok

pub returns-clause-effort : goal.returns-clause-effort
returns-clause-effort g c =
    let world : World = ((g.F.Names.view c.args.files.now).files, c.args.settings.now) in
    let none = is_none-seen (λ (row : Bor Row). row_seen row.now) c.get.result (entries_in c.args.rows.now c.args.path.now) c.get.ensures
    (sym c.is_some.ensures ∙ c.if-is_some.false) in
    c.of-effort.ensures ∙ Effort-one world (entries_in c.args.rows.now) c.args.path.now (finding_seen c.in_ok-found.found) none
    c.in_ok-found.ensures.finding
