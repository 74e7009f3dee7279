-- A path alone asks for any package.
use Rattle.std.proofs.Common.{◌∙◌, ap, sym, Some}
use Rattle.std.specs.Option.{option_copied}
use Rattle.port_deps.proofs.AnyPackage.{any-wanted}
use Rattle.port_deps.proofs.item_text.wanted_in.Goals as goal

pub returns-in-None : goal.returns-in-None
returns-in-None c =
    ap Some c.new.ensures
    ∙ any-wanted (option_copied c.args.spec) c.args.path.now c.cut_at_sign.result.0.now c.cut_at_sign.result.1.now c.in-Some.path
    (ap option_copied c.in-None.is)
    c.cut_at_sign.ensures.path c.cut_at_sign.ensures.versions c.if-is_empty-2.ensures (sym c.in_ok-path.ensures ∙ c.in-Some.is)
