-- The next path is among the others, or it isn't.
use Rattle.std.proofs.Common.{◌≡◌, ◌∙◌, ap, sym, Bool, ◌∷◌, ◌++◌, [], map, String, Global, string_bytes}
use Rattle.std.specs.Prelude.{Vec}
use Rattle.port_index.specs.FilledRows.{is_one_of}
use Rattle.index_keep.proofs.ListLemmas.{chosen-next, map-append}
use Rattle.index_keep.proofs.stage.found_among.Goals as goal
use Rattle.index_keep.proofs.stage.found_among.Goals.{then-is_found_in+in_ok-from_str+in_ok-push, else-is_found_in}

pub loop-path-preserved : goal.loop-path-preserved
loop-path-preserved c = λ order path.
    let others = map string_bytes c.args.others.now in
    let text = c.path-item.result in
    let before = map string_bytes c.loop-path.found.items in
    let passes = c.is_found_in.ensures.all order ∙ ap (λ p. is_one_of p others) c.deref.ensures in
    let next = λ (added : Bool) (is : c.is_found_in.result ≡ added). chosen-next (λ at. is_one_of at others) c.args.paths.now
    c.loop-path.path-index text before added
    c.loop-path-test.true c.path-item.is (sym passes ∙ is) (c.loop-path.invariant order) path in
    elim c.if-is_found_in.branch [
      | then-is_found_in+in_ok-from_str+in_ok-push w ↦
          ap (λ (found : Vec (String Global) Global). is_one_of path (map string_bytes found.items)) w.found-is
          ∙ ap (λ items. is_one_of path (map string_bytes items)) w.in_ok-push.ensures.items
          ∙ ap (is_one_of path) (map-append string_bytes c.loop-path.found.items (w.in_ok-from_str.field-0 ∷ []))
          ∙ ap (λ bytes. is_one_of path (before ++ bytes ∷ [])) (w.in_ok-from_str.ensures.ok ∙ w.as_str.ensures.value)
          ∙ next _ w.if-is_found_in.true
      | else-is_found_in w ↦ ap (λ (found : Vec (String Global) Global). is_one_of path (map string_bytes found.items)) w.found-is
          ∙ next _ w.if-is_found_in.false
    ]
