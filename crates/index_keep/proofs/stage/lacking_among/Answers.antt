-- The next path has no row, or it has one.
use Rattle.std.proofs.Common.{◌≡◌, ◌∙◌, ap, sym, ℕ, List, Bool, ◌∷◌, ◌++◌, [], is_none, map, String, Global, string_bytes}
use Rattle.std.specs.Prelude.{Vec}
use Rattle.port_index.specs.FilledRows.{is_one_of}
use Rattle.port_index.specs.Seen.{entries_in}
use Rattle.index_keep.proofs.ListLemmas.{chosen-next, map-append, none-map, none-not}
use Rattle.index_keep.proofs.stage.lacking_among.Goals as goal
use Rattle.index_keep.proofs.stage.lacking_among.Goals.{then-is_none+in_ok-from_str+in_ok-push, else-is_none}

pub loop-path-preserved : goal.loop-path-preserved
loop-path-preserved c =
    let known = c.args.known.now in
    let text = c.path-item.result in
    let before = map string_bytes c.loop-path.lacking.items in
    let finder = c.loop-path.invariant.finder in
    let lacks = λ (path : List ℕ). is_none (entries_in known path) in
    let passes = none-not c.get.result c.is_none.result c.is_none.ensures ∙ sym (none-map _ c.get.result)
    ∙ ap is_none (c.get.ensures.row known finder) ∙ ap lacks c.deref.ensures in
    let next = λ (path : List ℕ) (added : Bool) (is : c.is_none.result ≡ added). chosen-next lacks c.args.paths.now
    c.loop-path.path-index text before added
    c.loop-path-test.true c.path-item.is (sym passes ∙ is) c.loop-path.invariant.lacking path in
    record {
      finder = c.get.ensures.finder known finder;
      lacking = λ path. elim c.if-is_none.branch [
        | then-is_none+in_ok-from_str+in_ok-push w ↦
            ap (λ (lacking : Vec (String Global) Global). is_one_of path (map string_bytes lacking.items)) w.lacking-is
            ∙ ap (λ items. is_one_of path (map string_bytes items)) w.in_ok-push.ensures.items
            ∙ ap (is_one_of path) (map-append string_bytes c.loop-path.lacking.items (w.in_ok-from_str.field-0 ∷ []))
            ∙ ap (λ bytes. is_one_of path (before ++ bytes ∷ [])) (w.in_ok-from_str.ensures.ok ∙ w.as_str.ensures.value)
            ∙ next path _ w.if-is_none.true
        | else-is_none w ↦ ap (λ (lacking : Vec (String Global) Global). is_one_of path (map string_bytes lacking.items)) w.lacking-is
            ∙ next path _ w.if-is_none.false
      ];
    }
