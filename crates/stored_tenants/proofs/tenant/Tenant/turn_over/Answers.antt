-- The turn was taken over the tenant's world.
use Rattle.std.proofs.Common.{◌≡◌, ◌∙◌, subst, sym, Option, Result}
use Rattle.std.specs.Prelude.{IfOk, IfSome}
use Rattle.mk_paths.specs.World.{World}
use Rattle.mk_paths.specs.declared.files.FilesFault.{FilesFault}
use Rattle.index_store.specs.PortTable.{stored_by}
use Rattle.index_keep.specs.Keeper.{IsKept, refresh_of, keeper_rows}
use Rattle.index_keep.specs.Turns.{StayFresh}
use Rattle.question_turns.specs.TurnsLeft.{TurnsOn}
use Rattle.question_turns.specs.declared.under_way.Turned.{Turned}
use Rattle.stored_tenants.specs.Kept.{IsRightTenant}
use Rattle.stored_tenants.proofs.KeptLemmas.{idle_right}
use Rattle.stored_tenants.proofs.tenant.Tenant.turn_over.Goals as goal

pub returns-clause-turn : goal.returns-clause-turn
returns-clause-turn c =
    let world : World = c.args.self.now.store in
    let asked_in : World = (c.args.self.now.store.0, c.args.self.now.settings) in
    let world_is : asked_in ≡ world = λ i. (c.args.self.now.store.0, c.requires.right.settings i) in
    let old = refresh_of stored_by c.args.self.now.keeper in
    let new = refresh_of stored_by c.ask_tenant.new.self.keeper.now in
    let turned =
    subst (λ (t : Option (Result Turned FilesFault)). IfSome t (λ turned. IfOk turned (TurnsOn asked_in old new c.args.under_way)))
    (sym c.take.ensures.value ∙ c.in-Some.is)
    c.ask_tenant.ensures.asked.turn in
    subst (λ (w : World). IfOk c.in-Some.turned (TurnsOn w old new c.args.under_way)) world_is turned

pub returns-clause-fresh : goal.returns-clause-fresh
returns-clause-fresh c =
    let world : World = c.args.self.now.store in
    let asked_in : World = (c.args.self.now.store.0, c.args.self.now.settings) in
    let world_is : asked_in ≡ world = λ i. (c.args.self.now.store.0, c.requires.right.settings i) in
    let old = keeper_rows stored_by c.args.self.now.keeper in
    subst (λ (w : World). StayFresh w old (keeper_rows stored_by c.ask_tenant.new.self.keeper.now)) world_is
    c.ask_tenant.ensures.asked.fresh

pub returns-clause-right : goal.returns-clause-right
returns-clause-right c =
    let world : World = c.args.self.now.store in
    let asked_in : World = (c.args.self.now.store.0, c.args.self.now.settings) in
    let world_is : asked_in ≡ world = λ i. (c.args.self.now.store.0, c.requires.right.settings i) in
    let kept = c.ask_tenant.new.self.keeper.now in
    subst (λ (w : World). IsRightTenant
    (record { store = w; settings = c.args.self.now.settings; keeper = kept; job = c.args.self.now.job }))
    (sym c.ask_tenant.ensures.same)
    (idle_right world c.args.self.now.settings kept c.args.self.now.job c.requires.idle.none c.requires.right.settings
    (subst (λ (w : World). IsKept stored_by w kept) world_is c.ask_tenant.ensures.asked.kept))
