-- The next path is kept, or is one of the others.
use Rattle.std.proofs.Common.{◌≡◌, ◌∙◌, ap, sym, not, ◌&&◌, true, false, map, string_bytes, ◌∷◌, []}
use Rattle.port_index.specs.FilledRows.{is_one_of}
use Rattle.index_keep.specs.Walk.{row_stays}
use Rattle.index_keep.proofs.ListLemmas.{chosen-more, map-append}
use Rattle.index_keep.proofs.staying_rows.others.Goals as goal

pub loop-path-preserved-in-Continue-1 : goal.loop-path-preserved-in-Continue-1
loop-path-preserved-in-Continue-1 c =
    let beside = map string_bytes c.args.beside.now in
    let kept = row_stays c.args.last.now beside in
    let p = string_bytes c.in-Some.path in record {
      finds = c.has.ensures.finder c.args.last.now beside c.loop-path.invariant.finds;
      others = λ order path.
          let apart : not (kept p) ≡ true =
          ap not (sym (c.has.ensures.stays c.args.last.now beside c.loop-path.invariant.finds order ∙ ap kept c.as_str.ensures.value)
          ∙ c.if-not-has.true) in
          ap (λ items. is_one_of path (map string_bytes items)) c.in_ok-push.ensures.items
          ∙ ap (is_one_of path) (map-append string_bytes c.loop-path.others.items (c.in-Some.path ∷ []))
          ∙ chosen-more (map string_bytes c.loop-path.others.items) (map string_bytes c.loop-path.yielded) (λ at. not (kept at)) p true
          apart (c.loop-path.invariant.others order) path
          ∙ sym (ap (λ passed. is_one_of path passed && not (kept path))
          (map-append string_bytes c.loop-path.yielded (c.in-Some.path ∷ [])));
    }

pub loop-path-preserved : goal.loop-path-preserved
loop-path-preserved c =
    let beside = map string_bytes c.args.beside.now in
    let kept = row_stays c.args.last.now beside in
    let p = string_bytes c.in-Some.path in record {
      finds = c.has.ensures.finder c.args.last.now beside c.loop-path.invariant.finds;
      others = λ order path.
          let there : not (kept p) ≡ false =
          ap not (sym (c.has.ensures.stays c.args.last.now beside c.loop-path.invariant.finds order ∙ ap kept c.as_str.ensures.value)
          ∙ c.if-not-has.false) in
          chosen-more (map string_bytes c.loop-path.others.items) (map string_bytes c.loop-path.yielded) (λ at. not (kept at)) p false there
          (c.loop-path.invariant.others order) path
          ∙ sym (ap (λ passed. is_one_of path passed && not (kept path))
          (map-append string_bytes c.loop-path.yielded (c.in-Some.path ∷ [])));
    }
