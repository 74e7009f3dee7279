-- One path more has the mark.
use Rattle.std.proofs.Common.{◌∙◌, ap, refl, subst, List, String, map, take, string_bytes}
use Rattle.std.specs.declared.alloc.Global.{Global}
use Rattle.std.proofs.lemmas.List.{take_all}
use Rattle.sql_facts.specs.States.{state_of}
use Rattle.index_store.specs.declared.statements.Part.TheVariants.{Earlier}
use Rattle.index_store.specs.Marks.{mark_number}
use Rattle.index_store.specs.PortTable.{HoldsInside, Rows, rows_of, marked_at, marked_among}
use Rattle.index_store.proofs.Composing.{each_of, each_marked_next, none_among}
use Rattle.index_store.proofs.transactions.set_marks.Goals as goal

pub loop-path-init : goal.loop-path-init
loop-path-init c = record {
  kept = record { same_reference = refl; committed = refl };
  made = record { inside = c.requires.open.inside; formed = c.requires.open.formed; are = refl };
}

pub mark_path-requires-clause-earlier : goal.mark_path-requires-clause-earlier
mark_path-requires-clause-earlier c off =
    let mark = mark_number c.args.mark in
    let passed = map string_bytes (take c.loop-path.path-index c.args.paths.now) in
    ap (λ (rows : Rows). rows Earlier) c.loop-path.invariant.made.are ∙ ap (marked_among mark passed) (c.requires.earlier off)
    ∙ none_among mark passed

pub loop-path-preserved : goal.loop-path-preserved
loop-path-preserved c =
    let was = rows_of c.args.tx.now.conn.now in
    let before = c.loop-path.invariant in
    let now = c.in_ok-mark_path.ensures.made in
    let mark = mark_number c.args.mark in
    let path = c.as_str.result.now in
    let path_is = c.as_str.ensures.value ∙ ap string_bytes c.path-item.is in
    let next = each_marked_next mark c.args.paths.now c.loop-path.path-index c.path-item.result path was c.loop-path-test.true path_is in
    record {
      kept = record {
        same_reference = c.in_ok-mark_path.ensures.kept.same_reference ∙ before.kept.same_reference;
        committed = c.in_ok-mark_path.ensures.kept.committed ∙ before.kept.committed;
      };
      made = record { inside = now.inside; formed = now.formed; are = now.are ∙ ap (each_of (marked_at mark path)) before.made.are ∙ next };
    }

pub returns-clause-made : goal.returns-clause-made
returns-clause-made c =
    let marks = λ (paths : List (String Global)). each_of (marked_among (mark_number c.args.mark) (map string_bytes paths))
    (rows_of c.args.tx.now.conn.now) in
    let all = take_all c.loop-path.path-index c.args.paths.now c.loop-path-test.false in
    subst (λ paths. HoldsInside (state_of c.loop-path.tx.conn.now) (marks paths)) all c.loop-path.invariant.made
