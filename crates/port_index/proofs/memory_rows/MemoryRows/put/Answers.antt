-- The row is the one that was put.
use Rattle.std.proofs.Common.{◌∙◌, ap, Some, option_map, string_bytes}
use Rattle.std.specs.BTreeMap.{get_by_text}
use Rattle.std.specs.Str.{bytes_eq}
use Rattle.port_index.specs.Seen.{Said, known_seen, said_in}
use Rattle.port_index.proofs.Lookups.{known-cases, outcome-cases}
use Rattle.port_index.proofs.memory_rows.MemoryRows.put.Goals as goal

pub returns-clause-says : goal.returns-clause-says
returns-clause-says c = λ other.
    ap (option_map known_seen) (c.in_ok-put.ensures.ok other)
    ∙ known-cases (bytes_eq (string_bytes c.args.path) other) (Some c.args.known) (get_by_text c.args.self.now.noted.rows other)

pub returns-clause-ok : goal.returns-clause-ok
returns-clause-ok c = λ other.
    ap (option_map (λ (said : Said). said.outcome)) (returns-clause-says c other)
    ∙ outcome-cases (bytes_eq (string_bytes c.args.path) other) (known_seen c.args.known) (said_in c.args.self.now other)
