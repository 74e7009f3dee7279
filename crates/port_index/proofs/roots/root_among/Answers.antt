-- The root at the path is that of its row, if it is one of the paths.
use Rattle.std.proofs.Common.{◌∙◌, ap, sym, if◌then◌else◌, Bool, None, map, string_bytes}
use Rattle.port_index.specs.Dependencies.{root_at, root_with, root_state}
use Rattle.port_index.specs.Seen.{entries_in, known_in, known_row}
use Rattle.port_index.proofs.OnePath.{root-one}
use Rattle.port_index.proofs.roots.root_among.Goals as goal

pub returns-then-is_found_in : goal.returns-then-is_found_in
returns-then-is_found_in c = λ ordered.
    let outcomes = known_in (entries_in c.args.rows.now) in
    let path = c.args.path.now in
    c.root_with.ensures ∙ ap (λ row. root_with path (root_state (known_row row))) c.get.ensures
    ∙ sym (root-one outcomes path (map string_bytes c.args.paths.now)
    ∙ ap (λ (b : Bool). if b then root_at outcomes path else None) (sym (c.is_found_in.ensures.all ordered) ∙ c.if-is_found_in.true))

pub returns-else-is_found_in : goal.returns-else-is_found_in
returns-else-is_found_in c = λ ordered.
    let outcomes = known_in (entries_in c.args.rows.now) in
    let path = c.args.path.now in
    sym (root-one outcomes path (map string_bytes c.args.paths.now)
    ∙ ap (λ (b : Bool). if b then root_at outcomes path else None) (sym (c.is_found_in.ensures.all ordered) ∙ c.if-is_found_in.false))
