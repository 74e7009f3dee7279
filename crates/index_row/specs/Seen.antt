-- What the types of the code are seen as.
use Rattle.std.specs.Prelude.{map, string_bytes}
use Rattle.port_index.specs.Seen.{finding_seen}
use Rattle.index_row.specs.declared.rows.KeptRow.{KeptRow}
use Rattle.index_row.specs.Rows.{RowValue, make_row}

-- a row
abbrev pub kept_row_seen : KeptRow → RowValue
kept_row_seen kept = make_row (finding_seen kept.found).outcome (finding_seen kept.found).cost (map string_bytes kept.names.items)
