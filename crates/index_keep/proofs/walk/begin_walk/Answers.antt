-- A walk begins over rows that are shown the same.
use Rattle.std.proofs.Common.{◌≡◌, ◌∙◌, ap, subst, sym, IfSome, List, ℕ, map, string_bytes, true}
use Rattle.std.proofs.lemmas.Bool.{false≢true}
use Rattle.std.specs.BTreeSet.{contains_text}
use Rattle.mk_paths.specs.FilesView.{view_world}
use Rattle.mk_paths.specs.World.{World}
use Rattle.read_trace.specs.Recorder.{view_of}
use Rattle.port_index.specs.FilledRows.{is_one_of}
use Rattle.index_keep.specs.Last.{IsHeld, RecallsLists, Serves}
use Rattle.index_keep.specs.Shown.{ShownRows, ShowsSame, no_name, shown}
use Rattle.index_keep.proofs.LastLemmas.{stored-asked}
use Rattle.index_keep.proofs.ShownLemmas.{shown-asked}
use Rattle.index_keep.proofs.WalkLemmas.{said-same}
use Rattle.index_keep.proofs.walk.begin_walk.Goals as goal
use Rattle.index_keep.proofs.walk.begin_walk.Goals.{then-were_there, else-were_there}

pub returns-in_ok-mark-in-Some-clause-marked : goal.returns-in_ok-mark-in-Some-clause-marked
returns-in_ok-mark-in-Some-clause-marked g c =
    let test = contains_text c.args.changed.now in
    let old = g.R.PathRows.entries c.args.rows.now in
    let world : World = view_world (view_of g.F.Names.view c.args.files.now) c.args.settings.now in
    let is = subst (λ (l : _). IfSome l (IsHeld test world (shown test old))) c.in-Some.is c.requires.last in
    let outdated = ap (map string_bytes) c.deref-in-Some.ensures.value ∙ c.in_ok-outdated-in-Some.ensures
    ∙ ap (map string_bytes) c.deref.ensures.value in
    shown-asked test (map string_bytes c.deref-in-Some.result.now) old (g.R.PathRows.entries c.mark.new.self)
    (λ path one row there of. stored-asked test old c.in-Some.held.index is.last path one row there of
    ∙ sym (ap (is_one_of path) outdated ∙ c.in_ok-begun-in-Some.ensures.outdated path))
    c.in_ok-mark-in-Some.ensures.ok

pub returns-in_ok-mark-in-Some-clause-walk : goal.returns-in_ok-mark-in-Some-clause-walk
returns-in_ok-mark-in-Some-clause-walk g c =
    let test = contains_text c.args.changed.now in
    let world : World = view_world (view_of g.F.Names.view c.args.files.now) c.args.settings.now in
    let old : ShownRows = shown test (g.R.PathRows.entries c.args.rows.now) in
    let new : ShownRows = shown no_name (g.R.PathRows.entries c.mark.new.self) in
    let same : ShowsSame old new = returns-in_ok-mark-in-Some-clause-marked g c in
    let held = c.in-Some.held in
    let is = subst (λ (l : _). IfSome l (IsHeld test world old)) c.in-Some.is c.requires.last in
    let begun = c.in_ok-begun-in-Some.ensures in
    let from = c.in_ok-begun-in-Some.begun in
    let says = λ (path : List ℕ). begun.known old is.last path ∙ said-same old new same path in
    let serves : c.if-were_there.serves ≡ true → Serves world old held.index = elim c.if-were_there.branch [
      | then-were_there w ↦ λ both. is.serves w.if-were_there.true (c.in_ok-are_there-in-Some.ensures.there (sym w.serves-is ∙ both))
      | else-were_there w ↦ λ both. absurd (false≢true (sym w.if-were_there.false ∙ sym w.serves-is ∙ both))
    ] in
    c.in_ok-first-in-Some.ensures.stage world new (sym c.in_ok-are_there-in-Some.ensures.keeps.files) says
    (λ both. record {
      says = says;
      directories = ap (λ directories. map string_bytes directories.items) begun.directories ∙ (serves both).directories;
      lists = subst (λ (rows : ShownRows). RecallsLists world rows from.known (map string_bytes from.directories.items) from.lists)
          (λ i path. sym (same path) i) (begun.recalls world old is.last (serves both));
    })
