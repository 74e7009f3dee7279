-- The rows that asked for the name are stale, and the others as they were.
use Rattle.std.proofs.Common.{◌≡◌, ◌∙◌, ap, subst, sym, ◌||◌, ℕ, List, option_map}
use Rattle.std.specs.Str.{bytes_eq}
use Rattle.index_keep.specs.Shown.{stale_if_asked}
use Rattle.index_keep.specs.declared.keeper.Keeper.{Keeper}
use Rattle.index_keep.specs.declared.keeper.Progress.{Progress}
use Rattle.index_keep.specs.Keeper.{changed_in, keeper_rows, stays_there, DropsTo, IsKept, IsProgress}
use Rattle.index_keep.proofs.KeepLemmas.{shown-more, AreKept-noted, DifferAt-itself, IsKept-stopped, IsProgress-noted, IsProgress-stopped}
use Rattle.index_keep.proofs.keeper.Keeper.note_change.Goals as goal
use Rattle.index_keep.proofs.keeper.Keeper.note_change.Goals.{then-is_full+in_ok-write_marks, else-is_full}

pub returns-clause-rows : goal.returns-clause-rows
returns-clause-rows g c = λ path.
    let entries = g.R.PathRows.entries in
    let name = c.in_ok-name.ensures.ok ∙ c.as_str.ensures.text in
    let same : keeper_rows entries c.if-is_full.self path ≡ keeper_rows entries c.args.self.now path = elim c.if-is_full.branch [
      | then-is_full+in_ok-write_marks w ↦ (λ i. keeper_rows entries (w.self-is i) path) ∙ w.in_ok-write_marks.ensures.rows path
      | else-is_full w ↦ (λ i. keeper_rows entries (w.self-is i) path)
    ] in
    shown-more c.args.name.now (changed_in c.if-is_full.self.progress) (changed_in c.add_change.new.self)
    (λ other. c.in_ok-add_change.ensures.changed other
    ∙ ap (λ bytes. bytes_eq bytes other || changed_in c.if-is_full.self.progress other) name)
    (entries c.if-is_full.self.rows) path
    ∙ ap (option_map (stale_if_asked c.args.name.now)) same

pub returns-clause-other : goal.returns-clause-other
returns-clause-other g c = λ world other differ tells kept.
    let entries = g.R.PathRows.entries in
    let before = c.if-is_full.self in
    let name = c.in_ok-name.ensures.ok ∙ c.as_str.ensures.text in
    let adds = λ (file : List ℕ). c.in_ok-add_change.ensures.changed file
    ∙ ap (λ bytes. bytes_eq bytes file || changed_in before.progress file) name in
    let is : IsProgress world (keeper_rows entries before) before.progress = elim c.if-is_full.branch [
      | then-is_full+in_ok-write_marks w ↦ rw w.self-is (IsProgress-stopped world (keeper_rows entries c.args.self.now) _
          c.args.self.now.progress _ w.in_ok-write_marks.ensures.progress w.in_ok-write_marks.ensures.rows kept.progress)
      | else-is_full w ↦ rw w.self-is kept.progress
    ] in
    let dropped = subst (λ bytes. DropsTo (stays_there bytes c.args.is_there) before.progress c.add_change.new.self) name
    c.in_ok-add_change.ensures.dropped in
    record {
      rows = AreKept-noted c.args.name.now world other differ c.path_is_the_same_where_answered.ensures
          (keeper_rows entries c.args.self.now) _ (returns-clause-rows g c) kept.rows;
      progress = IsProgress-noted c.known_rows_are_enough.ensures c.same_makefiles_serve.ensures c.args.name.now world other differ
          c.args.is_there tells (keeper_rows entries before) _ (shown-more c.args.name.now (changed_in before.progress)
          (changed_in c.add_change.new.self) adds (entries before.rows))
          before.progress c.add_change.new.self is dropped adds;
    }

-- the file may be as it was
pub returns-clause-kept : goal.returns-clause-kept
returns-clause-kept g c = λ world tells kept. returns-clause-other g c world world (DifferAt-itself c.args.name.now world) tells kept

-- ---- a note that failed

pub returns-in_err-write_marks-clause-kept : goal.returns-in_err-write_marks-clause-kept
returns-in_err-write_marks-clause-kept g c = λ world tells kept.
    IsKept-stopped g.R.PathRows.entries world c.args.self.now.rows c.write_marks.new.self.rows c.args.self.now.progress
    c.write_marks.new.self.progress
    c.in_err-write_marks.ensures.progress c.in_err-write_marks.ensures.rows kept

pub returns-in_err-name-clause-kept : goal.returns-in_err-name-clause-kept
returns-in_err-name-clause-kept g c = λ world tells kept. elim c.if-is_full.branch [
  | then-is_full+in_ok-write_marks w ↦ rw w.self-is (IsKept-stopped g.R.PathRows.entries world c.args.self.now.rows _
      c.args.self.now.progress _
      w.in_ok-write_marks.ensures.progress w.in_ok-write_marks.ensures.rows kept)
  | else-is_full w ↦ rw w.self-is kept
]

pub returns-in_err-add_change-clause-kept : goal.returns-in_err-add_change-clause-kept
returns-in_err-add_change-clause-kept g c = λ world tells kept.
    let entries = g.R.PathRows.entries in
    let before : IsKept entries world c.if-is_full.self = elim c.if-is_full.branch [
      | then-is_full+in_ok-write_marks w ↦ rw w.self-is (IsKept-stopped entries world c.args.self.now.rows _ c.args.self.now.progress _
          w.in_ok-write_marks.ensures.progress w.in_ok-write_marks.ensures.rows kept)
      | else-is_full w ↦ rw w.self-is kept
    ] in
    subst (λ (progress : Progress). let keeper : Keeper g.row.R.Denot = record { rows = c.if-is_full.self.rows; progress = progress }
    in IsKept entries world keeper)
    (sym c.in_err-add_change.ensures.err) before
