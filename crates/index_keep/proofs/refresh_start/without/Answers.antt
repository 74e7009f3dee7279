-- The row of the next path is taken out too.
use Rattle.std.proofs.Common.{◌≡◌, ◌∙◌, ap, sym, Bool, true, false, ◌||◌, refl, Option, None, if◌then◌else◌, map, take, string_bytes}
use Rattle.std.specs.Str.{bytes_eq}
use Rattle.port_index.specs.FilledRows.{is_one_of}
use Rattle.port_index.specs.Seen.{Said, said_in}
use Rattle.index_keep.proofs.ListLemmas.{one_of-more}
use Rattle.index_keep.proofs.refresh_start.without.Goals as goal

either : (same before : Bool) (said now : Option Said) → now ≡ (if before then None else said)
    → (if same then None else now) ≡ (if before || same then None else said)
either true true said now is = refl
either true false said now is = refl
either false true said now is = is
either false false said now is = is

pub loop-path-preserved : goal.loop-path-preserved
loop-path-preserved c = λ path.
    let before = is_one_of path (map string_bytes (take c.loop-path.path-index c.args.paths.now)) in
    c.take_out-taken.ensures.others path
    ∙ ap (λ (bytes : _). if bytes_eq bytes path then None else said_in c.loop-path.known path) c.as_str.ensures.value
    ∙ either (bytes_eq (string_bytes c.path-item.result) path) before (said_in c.args.known path) (said_in c.loop-path.known path)
    (c.loop-path.invariant path)
    ∙ sym (ap (λ (b : Bool). if b then None else said_in c.args.known path)
    (one_of-more c.args.paths.now c.loop-path.path-index c.path-item.result path c.loop-path-test.true c.path-item.is))
