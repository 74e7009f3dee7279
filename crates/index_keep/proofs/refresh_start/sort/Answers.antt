-- One row more is sorted.
use Rattle.std.proofs.Common.{◌≡◌, ◌∙◌, ap, sym, append_assoc, ◌++◌, ◌∷◌, [], map, string_bytes}
use Rattle.std.specs.BTreeSet.{contains_text}
use Rattle.port_index.specs.Seen.{said_in}
use Rattle.index_keep.proofs.SortLemmas.{row-stored, KnowsRows-next, ListsOutdated-next}
use Rattle.index_keep.proofs.refresh_start.sort.Goals as goal

pub loop-row-preserved : goal.loop-row-preserved
loop-row-preserved c =
    let test = contains_text c.args.changed.now in
    let row = c.in-Some.row in
    let passed = c.loop-row.yielded in
    let rest = c.next.new.self.rest.items in
    let left : c.args.stored.items ≡ (passed ++ row ∷ []) ++ rest =
    c.loop-row.invariant.left ∙ ap (λ items. passed ++ items) c.in-Some.ensures.steps.0 ∙ sym (append_assoc passed (row ∷ []) rest) in
    record {
      left = left;
      known = λ entries are. KnowsRows-next test entries passed row (row-stored entries c.args.stored.items passed rest row left are)
          (said_in c.loop-row.sorted.known) (said_in c.add.new.sorted.known) c.in_ok-add.ensures.known
          (c.loop-row.invariant.known entries are);
      outdated = λ entries are. ListsOutdated-next test entries passed row (row-stored entries c.args.stored.items passed rest row left are)
          (map string_bytes c.loop-row.sorted.outdated.items) (map string_bytes c.add.new.sorted.outdated.items)
          c.in_ok-add.ensures.outdated (c.loop-row.invariant.outdated entries are);
    }
