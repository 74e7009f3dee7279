-- A walk goes on from rows that are shown the same.
use Rattle.std.proofs.Common.{◌≡◌, ◌∙◌, ap, subst, sym, IfOk, OnOk}
use Rattle.mk_paths.specs.FilesView.{view_world}
use Rattle.mk_paths.specs.World.{World, FileMap}
use Rattle.read_trace.specs.Recorder.{view_of}
use Rattle.index_keep.specs.declared.keeper.Progress.{Progress}
use Rattle.index_keep.specs.declared.keeper.Progress.TheVariants.{Changed, Walking, Asking}
use Rattle.index_keep.specs.Shown.{shown, no_name, ShowsSame}
use Rattle.turn_amounts.specs.Spent.{no_spending}
use Rattle.index_keep.specs.Keeper.{changed_in, begun_in, refresh_of, keeper_rows, IsKept, IsProgress, IsAskOnTheWay, TurnsKeeper}
use Rattle.index_keep.specs.Right.{AreKept}
use Rattle.index_keep.specs.Turns.{RefreshView, refresh_at}
use Rattle.index_keep.specs.Walk.{IsOnTheWay}
use Rattle.index_keep.proofs.KeepLemmas.{AreKept-same, OnErr-map, OnErr-and, OnOk-or, drops-forgotten, IsProgress-taken}
use Rattle.index_keep.proofs.ShownLemmas.{shown-same}
use Rattle.index_keep.proofs.keeper.Keeper.refresh_turn.Goals as goal

pub begun-requires : goal.begun-requires
begun-requires g c =
    let entries = g.R.PathRows.entries in
    let world : World = view_world (view_of g.F.Names.view c.args.files.now) c.args.settings.now in
    let is : c.args.self.now.progress ≡ Changed c.in-Changed.names c.in-Changed.last = sym c.replace.ensures.value ∙ c.in-Changed.is in
    record {
      kept = subst (λ (p : Progress). AreKept world (shown (changed_in p) (entries c.args.self.now.rows))) is c.requires.rows;
      last = subst (λ (p : Progress). IsProgress world (shown (changed_in p) (entries c.args.self.now.rows)) p) is c.requires.progress;
    }

pub walk_on-requires : goal.walk_on-requires
walk_on-requires g c =
    let entries = g.R.PathRows.entries in
    let world : World = view_world (view_of g.F.Names.view c.args.files.now) c.args.settings.now in
    let rows = entries c.args.self.now.rows in
    let is : c.args.self.now.progress ≡ Changed c.in-Changed.names c.in-Changed.last = sym c.replace.ensures.value ∙ c.in-Changed.is in
    let begun = c.in_ok-walk-in-Changed.ensures in
    let same : ShowsSame (keeper_rows entries c.args.self.now) (shown no_name (entries c.begun.new.self.rows)) = λ path. begun.ok.0 path
    ∙ sym (ap (λ (p : Progress). shown (changed_in p) rows path) is) in
    let there : IsOnTheWay world (shown no_name (entries c.begun.new.self.rows)) c.in_ok-walk-in-Changed.walk = record {
      kept = AreKept-same world (keeper_rows entries c.args.self.now) (shown no_name (entries c.begun.new.self.rows)) same c.requires.rows;
      far = begun.walk;
    } in
    subst (λ (files : FileMap). let w : World = (files, c.args.settings.now) in IsOnTheWay w (shown no_name (entries c.begun.new.self.rows))
    c.in_ok-walk-in-Changed.walk) (sym begun.leaves.files) there

pub returns-in_ok-walk-in-Changed-clause-turn : goal.returns-in_ok-walk-in-Changed-clause-turn
returns-in_ok-walk-in-Changed-clause-turn g c =
    let entries = g.R.PathRows.entries in
    let rows = entries c.args.self.now.rows in
    let middle = shown no_name (entries c.begun.new.self.rows) in
    let is : c.args.self.now.progress ≡ Changed c.in-Changed.names c.in-Changed.last = sym c.replace.ensures.value ∙ c.in-Changed.is in
    let begun = c.in_ok-walk-in-Changed.ensures in
    let same : ShowsSame (keeper_rows entries c.args.self.now) middle = λ path. begun.ok.0 path
    ∙ sym (ap (λ (p : Progress). shown (changed_in p) rows path) is) in
    let first : refresh_at middle no_spending ≡ refresh_of entries c.args.self.now = λ i. refresh_at (λ path. same path i)
    (ap begun_in (sym is) i) in
    subst (λ (old : RefreshView). IfOk c.walk_on.result
    (TurnsKeeper entries (view_world (view_of g.F.Names.view c.args.files.now) c.args.settings.now) c.args.units old
    c.walk_on.new.self)) first
    (subst (λ (files : FileMap). let w : World = (files, c.args.settings.now) in IfOk c.walk_on.result
    (TurnsKeeper entries w c.args.units (refresh_at middle no_spending) c.walk_on.new.self)) begun.leaves.files c.walk_on.ensures.turn)

pub returns-in_ok-walk-in-Changed-clause-err : goal.returns-in_ok-walk-in-Changed-clause-err
returns-in_ok-walk-in-Changed-clause-err g c =
    let entries = g.R.PathRows.entries in
    let rows = entries c.args.self.now.rows in
    let is : c.args.self.now.progress ≡ Changed c.in-Changed.names c.in-Changed.last = sym c.replace.ensures.value ∙ c.in-Changed.is in
    let begun = c.in_ok-walk-in-Changed.ensures in
    OnErr-map c.walk_on.result (λ stays. drops-forgotten rows (entries c.walk_on.new.self.rows) c.args.self.now.progress
    c.walk_on.new.self.progress c.nothing.result c.nothing.ensures
    (stays.1 ∙ begun.ok.1 ∙ c.replace.ensures.after)
    (λ path. shown-same no_name (entries c.begun.new.self.rows) (entries c.walk_on.new.self.rows) stays.0 path ∙ begun.ok.0 path
    ∙ sym (ap (λ (p : Progress). shown (changed_in p) rows path) is)))
    c.walk_on.ensures.err

pub returns-in_ok-walk-in-Changed-clause-kept : goal.returns-in_ok-walk-in-Changed-clause-kept
returns-in_ok-walk-in-Changed-clause-kept g c =
    let entries = g.R.PathRows.entries in
    let world : World = view_world (view_of g.F.Names.view c.args.files.now) c.args.settings.now in
    let begun = c.in_ok-walk-in-Changed.ensures in
    let kept = subst (λ (files : FileMap). let w : World = (files, c.args.settings.now) in OnOk c.walk_on.result
    (IsKept entries w c.walk_on.new.self)) begun.leaves.files c.walk_on.ensures.kept in
    let both = OnErr-and c.walk_on.result _ _ (returns-in_ok-walk-in-Changed-clause-err g c) c.walk_on.ensures.err in
    OnOk-or c.walk_on.result kept both (λ stays. record {
      rows = AreKept-same world (keeper_rows entries c.args.self.now) (keeper_rows entries c.walk_on.new.self) stays.0.rows c.requires.rows;
      progress = IsProgress-taken (entries c.args.self.now.rows) (entries c.walk_on.new.self.rows) c.args.self.now.progress
          c.walk_on.new.self.progress c.nothing.result c.nothing.ensures (stays.1.1 ∙ begun.ok.1 ∙ c.replace.ensures.after) world
          (keeper_rows entries c.walk_on.new.self);
    })

pub returns-in-Walking-clause-err : goal.returns-in-Walking-clause-err
returns-in-Walking-clause-err g c =
    let entries = g.R.PathRows.entries in
    let rows = entries c.args.self.now.rows in
    let is : c.args.self.now.progress ≡ Walking c.in-Walking.walk = sym c.replace.ensures.value ∙ c.in-Walking.is in
    OnErr-map c.walk_on-in-Walking.result (λ stays. drops-forgotten rows (entries c.walk_on-in-Walking.new.self.rows)
    c.args.self.now.progress c.walk_on-in-Walking.new.self.progress c.nothing.result c.nothing.ensures
    (stays.1 ∙ c.replace.ensures.after)
    (λ path. shown-same no_name rows (entries c.walk_on-in-Walking.new.self.rows) stays.0 path
    ∙ sym (ap (λ (p : Progress). shown (changed_in p) rows path) is)))
    c.walk_on-in-Walking.ensures.err

pub returns-in-Walking-clause-kept : goal.returns-in-Walking-clause-kept
returns-in-Walking-clause-kept g c =
    let entries = g.R.PathRows.entries in
    let world : World = view_world (view_of g.F.Names.view c.args.files.now) c.args.settings.now in
    let both = OnErr-and c.walk_on-in-Walking.result _ _ (returns-in-Walking-clause-err g c) c.walk_on-in-Walking.ensures.err in
    OnOk-or c.walk_on-in-Walking.result c.walk_on-in-Walking.ensures.kept both (λ stays. record {
      rows = AreKept-same world (keeper_rows entries c.args.self.now) (keeper_rows entries c.walk_on-in-Walking.new.self)
          stays.0.rows c.requires.rows;
      progress = IsProgress-taken (entries c.args.self.now.rows) (entries c.walk_on-in-Walking.new.self.rows) c.args.self.now.progress
          c.walk_on-in-Walking.new.self.progress c.nothing.result c.nothing.ensures (stays.1.1 ∙ c.replace.ensures.after) world
          (keeper_rows entries c.walk_on-in-Walking.new.self);
    })

pub ask_on-requires : goal.ask_on-requires
ask_on-requires g c =
    let entries = g.R.PathRows.entries in
    let world : World = view_world (view_of g.F.Names.view c.args.files.now) c.args.settings.now in
    let rows = entries c.args.self.now.rows in
    let is : c.args.self.now.progress ≡ Asking c.in-Asking.walk c.in-Asking.ask = sym c.replace.ensures.value ∙ c.in-Asking.is in
    let asking = subst (λ (p : Progress). IsProgress world (shown (changed_in p) rows) p) is c.requires.progress in
    record { key = _; come = asking.2.come }

pub returns-in-Asking-clause-turn : goal.returns-in-Asking-clause-turn
returns-in-Asking-clause-turn g c =
    let entries = g.R.PathRows.entries in
    let world : World = view_world (view_of g.F.Names.view c.args.files.now) c.args.settings.now in
    let rows = entries c.args.self.now.rows in
    let is : c.args.self.now.progress ≡ Asking c.in-Asking.walk c.in-Asking.ask = sym c.replace.ensures.value ∙ c.in-Asking.is in
    let asking = subst (λ (p : Progress). IsProgress world (shown (changed_in p) rows) p) is c.requires.progress in
    let way : IsAskOnTheWay world (shown no_name rows) c.in-Asking.walk c.in-Asking.ask = record {
      ready = record {
        kept = subst (λ (p : Progress). AreKept world (shown (changed_in p) rows)) is c.requires.rows;
        far =
            asking.0;
        lacking = asking.1;
      };
      under = asking.2;
    } in
    subst (λ (p : Progress). IfOk c.ask_on.result
    (TurnsKeeper entries world c.args.units (refresh_at (shown (changed_in p) rows) (begun_in p)) c.ask_on.new.self)) (sym is)
    (c.ask_on.ensures.turn c.args.settings.now way)

pub returns-in-Asking-clause-err : goal.returns-in-Asking-clause-err
returns-in-Asking-clause-err g c =
    let entries = g.R.PathRows.entries in
    let rows = entries c.args.self.now.rows in
    let is : c.args.self.now.progress ≡ Asking c.in-Asking.walk c.in-Asking.ask = sym c.replace.ensures.value ∙ c.in-Asking.is in
    OnErr-map c.ask_on.result (λ stays. drops-forgotten rows (entries c.ask_on.new.self.rows) c.args.self.now.progress
    c.ask_on.new.self.progress c.nothing.result c.nothing.ensures
    (stays.1 ∙ c.replace.ensures.after)
    (λ path. shown-same no_name rows (entries c.ask_on.new.self.rows) stays.0 path
    ∙ sym (ap (λ (p : Progress). shown (changed_in p) rows path) is)))
    c.ask_on.ensures.err

pub returns-in-Asking-clause-kept : goal.returns-in-Asking-clause-kept
returns-in-Asking-clause-kept g c =
    let entries = g.R.PathRows.entries in
    let world : World = view_world (view_of g.F.Names.view c.args.files.now) c.args.settings.now in
    let rows = entries c.args.self.now.rows in
    let is : c.args.self.now.progress ≡ Asking c.in-Asking.walk c.in-Asking.ask = sym c.replace.ensures.value ∙ c.in-Asking.is in
    let asking = subst (λ (p : Progress). IsProgress world (shown (changed_in p) rows) p) is c.requires.progress in
    let way : IsAskOnTheWay world (shown no_name rows) c.in-Asking.walk c.in-Asking.ask = record {
      ready = record {
        kept = subst (λ (p : Progress). AreKept world (shown (changed_in p) rows)) is c.requires.rows;
        far =
            asking.0;
        lacking = asking.1;
      };
      under = asking.2;
    } in
    let both = OnErr-and c.ask_on.result _ _ (returns-in-Asking-clause-err g c) c.ask_on.ensures.err in
    OnOk-or c.ask_on.result (c.ask_on.ensures.kept c.args.settings.now way) both (λ stays. record {
      rows = AreKept-same world (keeper_rows entries c.args.self.now) (keeper_rows entries c.ask_on.new.self) stays.0.rows c.requires.rows;
      progress = IsProgress-taken (entries c.args.self.now.rows) (entries c.ask_on.new.self.rows) c.args.self.now.progress
          c.ask_on.new.self.progress c.nothing.result c.nothing.ensures (stays.1.1 ∙ c.replace.ensures.after) world
          (keeper_rows entries c.ask_on.new.self);
    })
