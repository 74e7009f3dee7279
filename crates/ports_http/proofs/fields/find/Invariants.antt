use Rattle.std.proofs.Common.{take}
use Rattle.ports_http.specs.Fields.{field_values}
use Rattle.ports_http.specs.Spans.{OccursAs, named}
use Rattle.ports_http.proofs.fields.find.Given as goal

abbrev pub invariant-loop-field : goal.invariant-loop-field
invariant-loop-field l = OccursAs l.buf l.found (field_values l.name (named l.buf (take l.field-index l.fields)))
