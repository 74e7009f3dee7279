-- The rows of the listed paths say which paths are beside them, and then each of both has its row.
use Rattle.std.proofs.Common.{◌≡◌, ◌∙◌, sym, ◌++◌, ap, ap₂, subst, ℕ, List, map, option_map, string_bytes}
use Rattle.mk_paths.specs.World.{FileMap, World}
use Rattle.port_index.specs.Efforts.{lacking}
use Rattle.port_index.specs.FilledRows.{Fills}
use Rattle.port_index.specs.Index.{listed_paths, needed_among, needed_paths}
use Rattle.plain_reference.specs.Needed.{needed_with}
use Rattle.port_index.specs.Seen.{Said, known_in, entries_in}
use Rattle.port_index.proofs.Filled.{Entries, one_of-append, one_of-in_order}
use Rattle.plain_reference.specs.Work.{both, effort_over}
use Rattle.plain_reference.proofs.Filled.{Fills-on, Fills-same, say-filled}
use Rattle.plain_reference.proofs.WorkLemmas.{Effort-on, lacking-all}
use Rattle.plain_reference.proofs.index.index_files.Goals as goal

-- paths that are filled in after the listed ones, where both are those that are needed
needed-filled : (world : World) (beside : List (List ℕ)) (old middle new : Entries)
    → needed_with (listed_paths world) beside ≡ needed_paths world
    → Fills world (listed_paths world) old middle → Fills world beside middle new → Fills world (needed_paths world) old new
needed-filled world beside old middle new is first second =
    subst (λ paths. Fills world paths old new) is
    (Fills-same world (listed_paths world ++ beside) (needed_with (listed_paths world) beside) old new
    (λ path. one_of-append path (listed_paths world) beside ∙ sym (one_of-in_order path (listed_paths world) beside))
    (Fills-on world (listed_paths world) beside old middle new first second))

pub returns-clause-known : goal.returns-clause-known
returns-clause-known g c =
    let view = g.F.Names.view in
    let settings = c.args.settings.now in
    let world : World = ((view c.args.files.now).files, settings) in
    let start = entries_in c.new-rows.result in
    let middle = entries_in c.list.new.rows in
    let end = entries_in c.fill.new.rows in
    let beside = map string_bytes c.in_ok-beside.beside.items in
    let first = c.in_ok-directories.ensures.fills in
    let listed_are : map string_bytes c.deref.result.now ≡ listed_paths world = ap (map string_bytes) c.deref.ensures.value
    ∙ c.in_ok-directories.ensures.listed in
    let needed_are : needed_with (listed_paths world) beside ≡ needed_paths world =
    subst (λ listed. needed_with listed beside ≡ needed_among (known_in middle) listed) listed_are c.in_ok-beside.ensures
    ∙ c.known_rows_are_enough.ensures.needed world middle (say-filled world (listed_paths world) start middle first) in
    let second : Fills world beside middle end =
    subst (λ paths. Fills world paths middle end) (ap (map string_bytes) c.deref-2.ensures.value)
    (subst (λ files. Fills (files, settings) (map string_bytes c.deref-2.result.now) middle end) c.in_ok-directories.ensures.keeps.files
    c.in_ok-more.ensures.fills) in
    record {
      paths = record {
        directories = c.in_ok-directories.ensures.directories;
        listed = c.in_ok-directories.ensures.listed;
      };
      rows = say-filled world (needed_paths world) start end (needed-filled world beside start middle end needed_are first second);
      edges = tt;
    }

pub returns-clause-effort : goal.returns-clause-effort
returns-clause-effort g c =
    let view = g.F.Names.view in
    let settings = c.args.settings.now in
    let world : World = ((view c.args.files.now).files, settings) in
    let start = entries_in c.new-rows.result in
    let middle = entries_in c.list.new.rows in
    let beside = map string_bytes c.in_ok-beside.beside.items in
    let first = c.in_ok-directories.ensures.fills in
    let listed_are : map string_bytes c.deref.result.now ≡ listed_paths world = ap (map string_bytes) c.deref.ensures.value
    ∙ c.in_ok-directories.ensures.listed in
    let needed_are : needed_with (listed_paths world) beside ≡ needed_paths world =
    subst (λ listed. needed_with listed beside ≡ needed_among (known_in middle) listed) listed_are c.in_ok-beside.ensures
    ∙ c.known_rows_are_enough.ensures.needed world middle (say-filled world (listed_paths world) start middle first) in
    let more = λ (files : FileMap) (paths : List (List ℕ)). effort_over (files, settings) (lacking middle paths) in
    c.and.ensures
    ∙ ap₂ both c.in_ok-directories.ensures.effort
    (c.in_ok-more.ensures.effort ∙ ap₂ more c.in_ok-directories.ensures.keeps.files (ap (map string_bytes) c.deref-2.ensures.value))
    ∙ Effort-on world (listed_paths world) beside start middle first
    ∙ ap (effort_over world)
    (lacking-all start (λ path. ap (option_map (λ (said : Said). said.outcome)) (c.new-rows.ensures.none path))
    (listed_paths world ++ beside) ∙ needed_are)
