-- The row is made of an evaluation that is at its end, if fewer units were spent than there are.
use Rattle.std.proofs.Common.{◌≡◌, ◌≤◌, ◌+◌, ◌-◌, ◌∙◌, ℕ, ap, subst, sym, refl, string_bytes}
use Rattle.mk_base.specs.declared.budget.TheConstants.{UNITS}
use Rattle.eval_cache.specs.Keys.{key_for}
use Rattle.read_trace.specs.Recorder.{view_of}
use Rattle.turn_amounts.specs.declared.spent.Spent.{Spent}
use Rattle.turn_amounts.specs.Spent.{IsUpFrom, total_of}
use Rattle.eval_ask.specs.Ask.{HasComeTo, spent_in}
use Rattle.index_keep.specs.Paths.{flavors_named}
use Rattle.eval_ask.specs.declared.ask.AskTurned.{AskTurned}
use Rattle.eval_ask.specs.declared.ask.AskTurned.TheVariants.{Done}
use Rattle.eval_ask.proofs.AnswerLemmas.{can-go-on}
use Rattle.index_keep.proofs.MadeLemmas.{IsUpFrom-on, all-spent, in-time-made, in-time-on, made-row, made-up, short-made, short-on}
use Rattle.index_keep.proofs.path_ask.PathAsk.go_on.Goals as goal

pub left_of-requires : goal.left_of-requires
left_of-requires g c =
    subst (IsUpFrom c.args.before) (sym c.spent-2.ensures.is)
    (IsUpFrom-on c.args.before (spent_in c.args.self.ask) (spent_in c.in_ok-ask.ask) c.requires.up c.in_ok-ask.ensures.turns.up)

pub turn-requires : goal.turn-requires
turn-requires g c = can-go-on (view_of g.F.Names.view c.args.files.now).files c.requires.begun.key c.args.self.ask c.requires.begun.come

given-is : (units left : ℕ) (before now after : Spent) → now ≡ after
    → left ≡ units - ((now.units - before.units) + (now.checks - before.checks))
    → left ≡ units - ((after.units - before.units) + (after.checks - before.checks))
given-is units left before now after same is = is ∙ ap (λ (s : Spent). units - ((s.units - before.units) + (s.checks - before.checks))) same

pub returns-then-left_of-eq0-clause-turns : goal.returns-then-left_of-eq0-clause-turns
returns-then-left_of-eq0-clause-turns g c = λ settings is. record {
  come = (
    record {
      at = is.at;
      found = is.found;
      come = c.in_ok-ask.ensures.turns.comes
          (key_for settings c.args.self.found.makefile (flavors_named c.args.self.found.named)) is.come;
    },
    all-spent c.args.units c.args.before (spent_in c.in_ok-ask.ask) c.spent-2.result c.spent-2.ensures.is
        (IsUpFrom-on c.args.before (spent_in c.args.self.ask) (spent_in c.in_ok-ask.ask) c.requires.up c.in_ok-ask.ensures.turns.up)
        (sym c.left_of.ensures ∙ c.if-left_of-eq0.true),
  );
  in_time = in-time-on (view_of g.F.Names.view c.args.files.now).files settings c.args.self c.args.before c.in_ok-ask.ask c.args.units
      c.left_of-given.result is c.requires.looked c.requires.up
      (given-is c.args.units c.left_of-given.result c.args.before c.spent.result (spent_in c.args.self.ask) c.spent.ensures.is
      c.left_of-given.ensures) c.in_ok-ask.ensures.turns;
  short = short-on (view_of g.F.Names.view c.args.files.now).files settings c.args.self c.args.before c.in_ok-ask.ask c.args.units
      c.left_of-given.result is c.requires.looked c.requires.up
      (given-is c.args.units c.left_of-given.result c.args.before c.spent.result (spent_in c.args.self.ask) c.spent.ensures.is
      c.left_of-given.ensures) c.in_ok-ask.ensures.turns;
}

pub returns-clause-turns : goal.returns-clause-turns
returns-clause-turns g c = λ settings is.
    let files = (view_of g.F.Names.view c.args.files.now).files in
    let found = c.args.self.found in
    let key = key_for settings found.makefile (flavors_named found.named) in
    let asked = c.in-Done.asked in
    let done : c.in_ok-ask.ask ≡ Done asked = c.in-Done.is in
    let come = subst (HasComeTo files key) done (c.in_ok-ask.ensures.turns.comes key is.come) in
    let made = c.in_ok-made-in-Done.ensures in
    let row = c.in_ok-made-in-Done.field-0 in
    let few = subst (λ (turned : AskTurned). total_of row.spent ≤ total_of (spent_in turned) + UNITS) (sym done) made.few in
    let up = IsUpFrom-on c.args.before (spent_in c.args.self.ask) (spent_in c.in_ok-ask.ask) c.requires.up c.in_ok-ask.ensures.turns.up in
    let left = given-is c.args.units c.left_of.result c.args.before c.spent-2.result (spent_in c.in_ok-ask.ask)
    c.spent-2.ensures.is c.left_of.ensures in
    let is_made = made-row files found asked row made.path made.row made.spent settings (string_bytes found.path) refl is.found come in
    record {
      come = is_made;
      in_time = in-time-made (files, settings) found asked row c.args.units c.left_of.result c.args.before is.found
          come.evaluation is_made made.spent
          (subst (λ (turned : AskTurned). IsUpFrom c.args.before (spent_in turned)) done up) c.if-left_of-eq0.false
          (subst (λ (turned : AskTurned). c.left_of.result ≡ c.args.units -
          (((spent_in turned).units - c.args.before.units) + ((spent_in turned).checks - c.args.before.checks))) done left);
      short = short-made c.args.units c.left_of.result c.args.before (spent_in c.in_ok-ask.ask) row.spent up
          c.if-left_of-eq0.false left few;
    }

pub returns-clause-up : goal.returns-clause-up
returns-clause-up g c =
    let files = (view_of g.F.Names.view c.args.files.now).files in
    let found = c.args.self.found in
    let key = c.requires.begun.key in
    let asked = c.in-Done.asked in
    let come = subst (HasComeTo files key) c.in-Done.is (c.in_ok-ask.ensures.turns.comes key c.requires.begun.come) in
    let up = subst (λ (turned : AskTurned). IsUpFrom c.args.before (spent_in turned)) c.in-Done.is
    (IsUpFrom-on c.args.before (spent_in c.args.self.ask) (spent_in c.in_ok-ask.ask) c.requires.up c.in_ok-ask.ensures.turns.up) in
    let made = c.in_ok-made-in-Done.ensures in
    let row = c.in_ok-made-in-Done.field-0 in
    IsUpFrom-on c.args.before (spent_in (Done asked)) row.spent up (made-up files found asked row made.path made.row made.spent key come)
