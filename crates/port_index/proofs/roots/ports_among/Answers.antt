-- The next row is that of a port that passes, or it is passed. At the end, all rows have been passed.
use Rattle.std.proofs.Common.{◌≡◌, ◌∙◌, ap, sym, refl, true, false, ◌++◌, ◌∷◌, [], append-nil, if◌then◌else◌, List, ℕ, String, Global, Ok}
use Rattle.std.proofs.Common.{map, string_bytes}
use Rattle.std.specs.BTreeMap.{get_by_text}
use Rattle.port_deps.specs.Roots.{RootValue}
use Rattle.port_index.specs.FilledRows.{is_one_of}
use Rattle.port_index.specs.Seen.{row_seen}
use Rattle.port_index.specs.PathOutcomes as seen
use Rattle.port_index.specs.declared.noted_rows.KnownRow.{KnownRow}
use Rattle.port_index.proofs.PortsThat.{chosen, port-on, other-on, chosen-roots}
use Rattle.port_index.proofs.roots.ports_among.Goals as goal

pub loop-path-preserved-in-Continue-1 : goal.loop-path-preserved-in-Continue-1
loop-path-preserved-in-Continue-1 g c = (
  tt,
  tt,
  c.add_port.ensures.finder (map string_bytes c.args.paths.now) c.loop-path.invariant.2,
  λ test tests ordered.
      let paths = map string_bytes c.args.paths.now in
      let entry : String Global × KnownRow = (c.in-Some.path.now, c.in-Some.known.now) in
      let all = chosen test paths c.args.rows.now.noted.rows.entries in
      let tested : test c.in-Port.port ≡ true =
      sym (tests c.in-Port.port c.passes.result (record { shown = _; shows = refl; says = record { met = c.passes.ensures } }))
      ∙ c.if-passes.true in
      let row : row_seen c.in-Some.known.now.row ≡ seen.Port c.in-Port.port = ap row_seen c.in-Port.is in
      let before : c.loop-path.found.items ++ chosen test paths (entry ∷ c.next.new.self) ≡ all =
      ap (λ (left : List (String Global × KnownRow)). c.loop-path.found.items ++ chosen test paths left) (sym c.in-Some.ensures.steps)
      ∙ c.loop-path.invariant.3 test tests ordered in
      let added = c.in_ok-add_port.ensures.added paths c.loop-path.invariant.2 ordered in
      ap (λ (items : List RootValue). items ++ chosen test paths c.next.new.self) (added
      ∙ ap (λ (at : List ℕ). c.loop-path.found.items ++ (if is_one_of at paths then record { path = at; state = Ok c.in-Port.port } ∷ []
      else [])) c.deref.ensures)
      ∙ port-on test paths c.loop-path.found.items entry c.next.new.self all c.in-Port.port row tested before,
)

pub loop-path-preserved-else-passes : goal.loop-path-preserved-else-passes
loop-path-preserved-else-passes g c = (
  tt,
  tt,
  c.loop-path.invariant.2,
  λ test tests ordered.
      let paths = map string_bytes c.args.paths.now in
      let entry : String Global × KnownRow = (c.in-Some.path.now, c.in-Some.known.now) in
      let all = chosen test paths c.args.rows.now.noted.rows.entries in
      let tested : test c.in-Port.port ≡ false =
      sym (tests c.in-Port.port c.passes.result (record { shown = _; shows = refl; says = record { met = c.passes.ensures } }))
      ∙ c.if-passes.false in
      let row : row_seen c.in-Some.known.now.row ≡ seen.Port c.in-Port.port = ap row_seen c.in-Port.is in
      let before : c.loop-path.found.items ++ chosen test paths (entry ∷ c.next.new.self) ≡ all =
      ap (λ (left : List (String Global × KnownRow)). c.loop-path.found.items ++ chosen test paths left) (sym c.in-Some.ensures.steps)
      ∙ c.loop-path.invariant.3 test tests ordered in
      other-on test paths c.loop-path.found.items entry c.next.new.self all c.in-Port.port row tested before,
)

pub returns : goal.returns
returns g c = λ test tests ordered.
    let paths = map string_bytes c.args.paths.now in
    let entries = c.args.rows.now.noted.rows.entries in
    let found = c.loop-path.found.items in
    sym (append-nil found)
    ∙ ap (λ (left : List (String Global × KnownRow)). found ++ chosen test paths left) (sym c.in-None.ensures.steps.0)
    ∙ c.loop-path.invariant.3 test tests ordered
    ∙ chosen-roots test paths (get_by_text c.args.rows.now.noted.rows) entries (λ path. refl)
    c.into_iter-path-iterator.ensures.into_iter_gives.6 ordered c.into_iter-path-iterator.ensures.into_iter_gives.5
