-- A path without flavors is the text of its directory.
use Rattle.std.proofs.Common.{◌≡◌, ◌∙◌, ◌++◌, [], false, Option, None, Some, map, string_bytes, sym, ap, append-nil}
use Rattle.std.proofs.lemmas.Bool.{false≢true}
use Rattle.std.specs.Option.{option_map, is_some}
use Rattle.pkg_path.specs.Paths.{PathValue, port_path, canonical, choices_text, flavor_choices}
use Rattle.ports_query.proofs.port_path.PortPath.of.Goals as goal

plain_path : (path : PathValue) → path.flavors ≡ None → path.directory ≡ port_path path
unfolding canonical
plain_path path none = sym (ap (λ flavors. path.directory ++ choices_text (flavor_choices flavors) ++ []) none
    ∙ append-nil (path.directory ++ []) ∙ append-nil path.directory)

none_chosen : {X Y : Type 0} (f : X → Y) (found : Option X) (chosen : Option Y) → option_map f found ≡ chosen
    → is_some found ≡ false → chosen ≡ None
none_chosen f None chosen is none = sym is
none_chosen f (Some x) chosen is none = absurd (false≢true (sym none))

pub returns-then-is_none : goal.returns-then-is_none
returns-then-is_none c =
    c.directory.ensures.directory ∙ plain_path c.args.target.now (none_chosen (λ names. map string_bytes names.now) c.flavors.result
    c.args.target.now.flavors c.flavors.ensures c.if-is_none.ensures)
