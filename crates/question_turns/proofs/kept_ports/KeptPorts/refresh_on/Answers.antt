-- The refresh isn't done, or the answer is read from its rows.
use Rattle.std.proofs.Common.{◌≡◌, ◌≤◌, ◌+◌, ◌-◌, ◌^◌, ◌∙◌, ℕ, min, refl, subst, sym, arith, Option}
use Rattle.std.specs.Prelude.{unwrap_or}
use Rattle.turn_amounts.specs.declared.spent.Spent.{Spent}
use Rattle.turn_amounts.specs.declared.TheConstants.{TURN_UNITS}
use Rattle.turn_amounts.specs.Spent.{no_spending, spent_together, IsUpFrom}
use Rattle.eval_ask.specs.Ask.{IsShort}
use Rattle.index_keep.specs.Keeper.{refresh_of}
use Rattle.index_keep.specs.Turns.{RefreshView}
use Rattle.question_turns.specs.Ports.{world_of_ports}
use Rattle.question_turns.specs.UnderWay.{IsSpentOnIndex, RefreshesInTime, RefreshesOn}
use Rattle.question_turns.specs.TurnsLeft.{RefreshesFewer}
use Rattle.question_turns.proofs.SpendingLemmas.{stays}
use Rattle.question_turns.proofs.TurnsLemmas.{short-turn, up-together}
use Rattle.question_turns.proofs.kept_ports.KeptPorts.refresh_on.Goals as goal

pub returns-in-Some-clause-turn : goal.returns-in-Some-clause-turn
returns-in-Some-clause-turn g c =
    let world = world_of_ports g.F.Names.view c.args.self.now in
    let old = refresh_of g.R.PathRows.entries c.args.self.now.keeper.now in
    let refresh = refresh_of g.R.PathRows.entries c.refresh.new.self.keeper.now in
    let before = c.args.before in
    let so_far : IsSpentOnIndex world refresh c.and.result =
    subst (IsSpentOnIndex world refresh) (sym c.and.ensures) (subst (RefreshesOn world refresh before) c.in-Some.is
    (c.in_ok-spent.ensures.refreshes before c.requires)) in
    let told = subst (λ (spent : Option Spent). RefreshesInTime world old refresh before
    (spent_together before (unwrap_or spent no_spending))) c.in-Some.is (c.in_ok-spent.ensures.told before) in
    record {
      turned = record {
        same = refl;
        pending = so_far;
        up = subst (IsUpFrom before) (sym c.and.ensures) (up-together before c.in-Some.spent (omega arith) (omega arith));
        within = stays c.makefiles_are_evaluated.ensures world refresh c.args.question c.and.result so_far;
        acts = tt;
        in_time = tt;
      };
      fewer = subst (RefreshesFewer world old refresh) c.in-Some.is c.in_ok-spent.ensures.fewer;
      short = subst (IsShort TURN_UNITS before) (sym (c.and.ensures ∙ told.told))
          (short-turn world told.from refresh before told.turned told.last);
    }

pub returns-in-Some-clause-told : goal.returns-in-Some-clause-told
returns-in-Some-clause-told g c =
    let world = world_of_ports g.F.Names.view c.args.self.now in
    let old = refresh_of g.R.PathRows.entries c.args.self.now.keeper.now in
    let refresh = refresh_of g.R.PathRows.entries c.refresh.new.self.keeper.now in
    let before = c.args.before in
    subst (RefreshesInTime world old refresh before) (sym c.and.ensures)
    (subst (λ (spent : Option Spent). RefreshesInTime world old refresh before (spent_together before (unwrap_or spent no_spending)))
    c.in-Some.is (c.in_ok-spent.ensures.told before))

nothing_more : (before : Spent) → before.units ≤ 2 ^ 64 - 1 → before.checks ≤ 2 ^ 64 - 1 → spent_together before no_spending ≡ before
nothing_more before units checks i = record { units = same before.units units i; checks = same before.checks checks i }
  where
    same : (n : ℕ) → n ≤ 2 ^ 64 - 1 → min (n + 0) (2 ^ 64 - 1) ≡ n
    same n few = omega (arith, few)

pub returns-in_ok-reply-in-None-clause-told : goal.returns-in_ok-reply-in-None-clause-told
returns-in_ok-reply-in-None-clause-told g c =
    let world = world_of_ports g.F.Names.view c.args.self.now in
    let old = refresh_of g.R.PathRows.entries c.args.self.now.keeper.now in
    let refresh = refresh_of g.R.PathRows.entries c.refresh.new.self.keeper.now in
    let before = c.args.before in
    subst (λ (now : RefreshView). RefreshesInTime world old now before before) (sym c.reply.ensures.refresh)
    (subst (RefreshesInTime world old refresh before) (nothing_more before (omega arith) (omega arith))
    (subst (λ (spent : Option Spent). RefreshesInTime world old refresh before (spent_together before (unwrap_or spent no_spending)))
    c.in-None.is (c.in_ok-spent.ensures.told before)))
