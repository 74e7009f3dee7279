-- The fresh rows of needed paths are left.
use Rattle.std.proofs.Common.{◌≡◌, ◌&&◌, not, if◌then◌else◌, subst, None, is_some, IfOk, OnOk, List, ℕ, String, Global, map, string_bytes}
use Rattle.port_index.specs.FilledRows.{is_one_of}
use Rattle.index_keep.specs.Shown.{no_name, shown}
use Rattle.index_keep.specs.Walk.{AreNeededBeside, HasOrder, KnowsBeside, row_stays}
use Rattle.index_keep.proofs.EndLemmas.{end-order, leaves-alone, leaves-taken}
use Rattle.index_keep.proofs.staying_rows.leave_needed.Goals as goal

pub returns-in-Some-clause-leaves : goal.returns-in-Some-clause-leaves
returns-in-Some-clause-leaves g c = λ world end.
    let old = g.R.PathRows.entries c.args.rows.now in
    let new = g.R.PathRows.entries c.take_out_others.new.rows in
    let last = c.args.last.now in
    let beside = c.in-Some.beside in
    let known : AreNeededBeside world beside = subst (KnowsBeside world (shown no_name old)) c.in-Some.is end.far.beside in
    let order = end-order world (shown no_name old) last end beside known in
    let others = subst (λ (items : List (String Global)). HasOrder last (map string_bytes items)
    → IfOk c.take_out_others.result (λ others. (path : List ℕ) → is_one_of path (map string_bytes others.items) ≡
    (is_some (old path) && not (row_stays last (map string_bytes items) path))))
    c.deref.ensures.value c.take_out_others.ensures.others in
    let left = subst (λ (items : List (String Global)). HasOrder last (map string_bytes items)
    → OnOk c.take_out_others.result
    ((path : List ℕ) → new path ≡ (if row_stays last (map string_bytes items) path then old path else None)))
    c.deref.ensures.value c.take_out_others.ensures.ok in
    leaves-taken world old new last end beside known c.take_out_others.result (others order) (left order)

pub returns-in-None-clause-leaves : goal.returns-in-None-clause-leaves
returns-in-None-clause-leaves g c = λ world end.
    let old = shown no_name (g.R.PathRows.entries c.args.rows.now) in
    leaves-alone world old c.args.last.now end (subst (KnowsBeside world old) c.in-None.is end.far.beside) c.new.result c.new.ensures.items
