use Rattle.std.proofs.Common.{◌∙◌, sym, map, string_bytes}
use Rattle.std.proofs.lemmas.Slice.Eq.{bytes_eq-Decides, slice_eq-Decides}
use Rattle.std.specs.Cmp.Derive.Mapped.{pointwise-map}
use Rattle.std.specs.Str.{bytes_eq}
use Rattle.port_index.proofs.alike_rows.are_same.Goals as goal

pub returns : goal.returns
returns c = λ same.
    sym ((slice_eq-Decides bytes_eq-Decides (map string_bytes c.args.old.now) (map string_bytes c.args.new.now) c.eq.result
    (c.eq.ensures ∙ sym (pointwise-map string_bytes bytes_eq c.args.old.now c.args.new.now))).0 same)
