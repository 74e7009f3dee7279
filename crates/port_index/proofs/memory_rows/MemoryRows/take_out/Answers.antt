-- The other rows are as they were.
use Rattle.std.proofs.Common.{◌∙◌, ap, None, option_map}
use Rattle.std.specs.BTreeMap.{get_by_text}
use Rattle.std.specs.Str.{bytes_eq}
use Rattle.port_index.specs.Seen.{known_seen}
use Rattle.port_index.proofs.Lookups.{known-cases}
use Rattle.port_index.proofs.memory_rows.MemoryRows.take_out.Goals as goal

pub returns-clause-others : goal.returns-clause-others
returns-clause-others c = λ other.
    ap (option_map known_seen) (c.take_out.ensures.others other)
    ∙ known-cases (bytes_eq c.args.path.now other) None (get_by_text c.args.self.now.noted.rows other)
