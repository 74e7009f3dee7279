-- The rows of the directories say which paths they name.
use Rattle.std.proofs.Common.{◌≡◌, ◌∙◌, ◌++◌, ap, ap₂, subst, ℕ, true, List, Option, map, string_bytes}
use Rattle.std.proofs.lemmas.Bool.{or_right}
use Rattle.std.specs.List.{flat_map}
use Rattle.mk_paths.specs.World.{FileMap, World, files_in}
use Rattle.port_index.specs.PathOutcomes.{PathOutcome, outcome_at}
use Rattle.port_index.specs.Efforts.{lacking}
use Rattle.port_index.specs.TreePaths.{directories, named_at, listed_from}
use Rattle.port_index.specs.FilledRows.{is_one_of, Fills}
use Rattle.port_index.specs.Index.{listed_paths}
use Rattle.port_index.specs.Seen.{known_in, entries_in}
use Rattle.port_index.proofs.Filled.{one_of-in_order}
use Rattle.plain_reference.specs.Work.{both, effort_over}
use Rattle.plain_reference.proofs.Filled.{Stay-on, Fills-on, Fills-same, say-filled, one_of-absorbed}
use Rattle.plain_reference.proofs.WorkLemmas.{Effort-on, lacking-absorbed}
use Rattle.plain_reference.proofs.index.list.Goals as goal

-- each directory is listed
directories-listed : (world : World) (path : List ℕ) → is_one_of path (directories (files_in world)) ≡ true
    → is_one_of path (listed_paths world) ≡ true
directories-listed world path is =
    let found = directories (files_in world) in
    let named = flat_map (named_at (outcome_at world)) found in
    one_of-in_order path named found ∙ or_right (is_one_of path named) (is_one_of path found) is

pub returns-clause-listed : goal.returns-clause-listed
returns-clause-listed g c =
    let view = g.F.Names.view in
    let settings = c.args.settings.now in
    let world : World = ((view c.args.files.now).files, settings) in
    let entries = entries_in c.fill.new.rows in
    let before = entries_in c.args.rows.now in
    let found = directories (files_in world) in
    let directories_are : map string_bytes c.deref.result.now ≡ found = ap (map string_bytes) c.deref.ensures.value
    ∙ c.in_ok-directories.ensures.ok in
    let first : Fills world found before entries =
    subst (λ paths. Fills world paths before entries) directories_are
    (subst (λ files. Fills (files, settings) (map string_bytes c.deref.result.now) before entries) c.in_ok-directories.ensures.keeps.files
    c.in_ok-first.ensures.fills) in
    c.in_ok-paths.ensures ∙ ap (listed_from (known_in entries)) (ap (map string_bytes) c.deref-2.ensures.value
    ∙ c.in_ok-directories.ensures.ok)
    ∙ c.known_rows_are_enough.ensures.listed world entries (say-filled world found before entries first)

pub returns-clause-fills : goal.returns-clause-fills
returns-clause-fills g c =
    let view = g.F.Names.view in
    let settings = c.args.settings.now in
    let world : World = ((view c.args.files.now).files, settings) in
    let found = directories (files_in world) in
    let start = entries_in c.args.rows.now in
    let middle = entries_in c.fill.new.rows in
    let end = entries_in c.fill-2.new.rows in
    let directories_are : map string_bytes c.deref.result.now ≡ found = ap (map string_bytes) c.deref.ensures.value
    ∙ c.in_ok-directories.ensures.ok in
    let paths_are : map string_bytes c.deref-3.result.now ≡ listed_paths world = ap (map string_bytes) c.deref-3.ensures.value
    ∙ returns-clause-listed g c in
    let same : (view c.fill.new.files).files ≡ (view c.args.files.now).files = c.in_ok-first.ensures.keeps.files
    ∙ c.in_ok-directories.ensures.keeps.files in
    let first : Fills world found start middle =
    subst (λ paths. Fills world paths start middle) directories_are
    (subst (λ files. Fills (files, settings) (map string_bytes c.deref.result.now) start middle) c.in_ok-directories.ensures.keeps.files
    c.in_ok-first.ensures.fills) in
    let second : Fills world (listed_paths world) middle end =
    subst (λ paths. Fills world paths middle end) paths_are
    (subst (λ files. Fills (files, settings) (map string_bytes c.deref-3.result.now) middle end) same c.in_ok-more.ensures.fills) in
    Fills-same world (found ++ listed_paths world) (listed_paths world) start end
    (λ path. one_of-absorbed path found (listed_paths world) (directories-listed world path))
    (Fills-on world found (listed_paths world) start middle end first second)

pub returns-clause-effort : goal.returns-clause-effort
returns-clause-effort g c =
    let view = g.F.Names.view in
    let settings = c.args.settings.now in
    let world : World = ((view c.args.files.now).files, settings) in
    let found = directories (files_in world) in
    let start = entries_in c.args.rows.now in
    let middle = entries_in c.fill.new.rows in
    let work = λ (files : FileMap) (rows : List ℕ → Option PathOutcome) (paths : List (List ℕ)). effort_over
    (files, settings) (lacking rows paths) in
    let directories_are : map string_bytes c.deref.result.now ≡ found = ap (map string_bytes) c.deref.ensures.value
    ∙ c.in_ok-directories.ensures.ok in
    let paths_are : map string_bytes c.deref-3.result.now ≡ listed_paths world = ap (map string_bytes) c.deref-3.ensures.value
    ∙ returns-clause-listed g c in
    let same : (view c.fill.new.files).files ≡ (view c.args.files.now).files = c.in_ok-first.ensures.keeps.files
    ∙ c.in_ok-directories.ensures.keeps.files in
    let first : Fills world found start middle =
    subst (λ paths. Fills world paths start middle) directories_are
    (subst (λ files. Fills (files, settings) (map string_bytes c.deref.result.now) start middle) c.in_ok-directories.ensures.keeps.files
    c.in_ok-first.ensures.fills) in
    c.and.ensures
    ∙ ap₂ both
    (c.in_ok-first.ensures.effort ∙ ap₂ (λ files paths. work files start paths) c.in_ok-directories.ensures.keeps.files directories_are)
    (c.in_ok-more.ensures.effort ∙ ap₂ (λ files paths. work files middle paths) same paths_are)
    ∙ Effort-on world found (listed_paths world) start middle first
    ∙ ap (effort_over world) (lacking-absorbed start found (listed_paths world) (directories-listed world))

pub returns-clause-stay : goal.returns-clause-stay
returns-clause-stay g c = Stay-on (entries_in c.args.rows.now) (entries_in c.fill.new.rows) (entries_in c.fill-2.new.rows)
    c.in_ok-first.ensures.stay c.in_ok-more.ensures.stay

pub returns-in_err-more-clause-stay : goal.returns-in_err-more-clause-stay
returns-in_err-more-clause-stay g c = Stay-on (entries_in c.args.rows.now) (entries_in c.fill.new.rows) (entries_in c.fill-2.new.rows)
    c.in_ok-first.ensures.stay c.in_err-more.ensures.stay
