-- The row asked for a name that has changed, or for none.
use Rattle.std.proofs.Common.{◌∙◌, sym, ap, Bool, if◌then◌else◌, string_bytes}
use Rattle.std.specs.BTreeSet.{contains_text}
use Rattle.std.specs.List.{list_any}
use Rattle.index_row.specs.Seen.{kept_row_seen}
use Rattle.index_keep.specs.Shown.{said_by}
use Rattle.index_keep.specs.Judgement.{Fresh, Outdated}
use Rattle.index_keep.proofs.ListLemmas.{list_any-map}
use Rattle.index_keep.proofs.refresh_start.judge_row.Goals as goal

pub returns-then-is_one_among : goal.returns-then-is_one_among
returns-then-is_one_among c =
    let test = contains_text c.args.changed.now in
    let asked = list_any-map test string_bytes c.args.row.names.items
    ∙ sym (c.is_one_among.ensures ∙ ap (list_any (λ name. test (string_bytes name))) c.deref.ensures.value) ∙ c.if-is_one_among.true in
    sym (ap (λ (b : Bool). if b then Outdated else Fresh (said_by (kept_row_seen c.args.row))) asked)

pub returns : goal.returns
returns c =
    let test = contains_text c.args.changed.now in
    let asked = list_any-map test string_bytes c.args.row.names.items
    ∙ sym (c.is_one_among.ensures ∙ ap (list_any (λ name. test (string_bytes name))) c.deref.ensures.value) ∙ c.if-is_one_among.false in
    ap Fresh c.known_row.ensures ∙ sym (ap (λ (b : Bool). if b then Outdated else Fresh (said_by (kept_row_seen c.args.row))) asked)
