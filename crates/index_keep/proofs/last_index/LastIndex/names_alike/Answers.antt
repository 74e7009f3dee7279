use Rattle.std.proofs.Common.{◌∙◌, ap, sym, option_map}
use Rattle.port_index.specs.Seen.{row_seen}
use Rattle.index_keep.proofs.last_index.LastIndex.names_alike.Goals as goal

pub returns-in-Some : goal.returns-in-Some
returns-in-Some c = λ same. record {
  before = row_seen c.in-Some.old.now;
  was = sym c.get.ensures ∙ ap (option_map (λ row. row_seen row.now)) c.in-Some.is;
  alike = c.name_alike.ensures same c.args.path.now;
}
