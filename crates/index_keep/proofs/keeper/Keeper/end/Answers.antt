-- The rows that are left are those of the index, and what is kept of them in memory says what they say.
use Rattle.std.proofs.Common.{◌∙◌, ap, refl, None, if◌then◌else◌, map, string_bytes}
use Rattle.port_index.specs.FilledRows.{is_one_of}
use Rattle.port_index.specs.Index.{needed_paths}
use Rattle.port_index.specs.Seen.{said_in}
use Rattle.index_keep.specs.Shown.{shown, no_name}
use Rattle.index_keep.proofs.WalkLemmas.{AreCurrent-left, AreKept-left, have-said, said-left, says-current}
use Rattle.index_keep.proofs.keeper.Keeper.end.Goals as goal

pub returns-clause-ends : goal.returns-clause-ends
returns-clause-ends g c = λ world way.
    let old = shown no_name (g.R.PathRows.entries c.args.self.now.rows) in
    let new = shown no_name (g.R.PathRows.entries c.leave_needed.new.rows) in
    let leaves = c.in_ok-others.ensures.leaves world way in
    record {
      nothing_begun = refl;
      fresh = way.fresh;
      current = AreCurrent-left world old way.kept new way.fresh leaves.left;
      nothing_left = refl;
    }

pub returns-clause-kept : goal.returns-clause-kept
returns-clause-kept g c = λ world way.
    let old = shown no_name (g.R.PathRows.entries c.args.self.now.rows) in
    let new = shown no_name (g.R.PathRows.entries c.leave_needed.new.rows) in
    let leaves = c.in_ok-others.ensures.leaves world way in
    let current = AreCurrent-left world old way.kept new way.fresh leaves.left in
    let says = says-current world new current c.without.result
    (said-left old new c.args.last.stage.known c.without.result (needed_paths world) c.in_ok-others.others leaves way.far.stage.knows
    (λ path. c.without.ensures path ∙ ap (λ items. if is_one_of path (map string_bytes items) then None else said_in c.args.last.stage.known
    path) c.deref.ensures.value)) in
    record {
      rows = AreKept-left world old way.kept new way.fresh leaves.left;
      progress = (
        current,
        record {
          paths = record {
            directories = way.far.directories;
            listed = way.far.listed;
          };
          rows = have-said world new current c.without.result says;
          edges = tt;
        },
        says,
      );
    }
