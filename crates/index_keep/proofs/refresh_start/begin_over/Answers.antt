-- What is left of the rows says what is fresh, and the lists of before may be kept if the others are of makefiles.
use Rattle.std.proofs.Common.{◌∙◌, ap, Bool, ℕ, List, None, if◌then◌else◌, map, string_bytes}
use Rattle.std.specs.BTreeSet.{contains_text}
use Rattle.port_index.specs.FilledRows.{is_one_of}
use Rattle.port_index.specs.Seen.{said_in}
use Rattle.index_keep.proofs.LastLemmas.{left-fresh, recalls-begun}
use Rattle.index_keep.proofs.refresh_start.begin_over.Goals as goal

pub returns-clause-known : goal.returns-clause-known
returns-clause-known c = λ rows is path.
    c.in_ok-left.ensures.left path
    ∙ ap (λ (b : Bool). if b then None else said_in c.args.last.rows path) (ap (λ items. is_one_of path (map string_bytes items))
    c.deref.ensures.value ∙ c.in_ok-asking.ensures path)
    ∙ left-fresh (contains_text c.args.changed.now) rows c.args.last is path

pub returns-clause-recalls : goal.returns-clause-recalls
returns-clause-recalls c = λ world rows is serves.
    let asked = λ (path : List ℕ). ap (λ items. is_one_of path (map string_bytes items)) c.deref.ensures.value
    ∙ c.in_ok-asking.ensures path in
    recalls-begun (contains_text c.args.changed.now) rows c.args.last is c.in_ok-left.field-0.left c.in_ok-left.field-0.taken
    (λ path. c.in_ok-left.ensures.left path ∙ ap (λ (b : Bool). if b then None else said_in c.args.last.rows path) (asked path))
    (λ path. c.in_ok-left.ensures.taken path ∙ ap (λ (b : Bool). if b then said_in c.args.last.rows path else None) (asked path))
    c.in_ok-asking.asking c.in_ok-asking.ensures world serves
