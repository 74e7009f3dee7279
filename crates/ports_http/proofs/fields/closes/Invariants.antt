use Rattle.std.proofs.Common.{◌≡◌, drop}
use Rattle.std.specs.List.{list_any}
use Rattle.ports_http.specs.Fields.{is_closing}
use Rattle.ports_http.specs.Spans.{named}
use Rattle.ports_http.proofs.fields.closes.Given as goal

abbrev pub invariant-loop-field : goal.invariant-loop-field
invariant-loop-field l =
    list_any is_closing (named l.buf (drop l.field-index l.fields)) ≡ list_any is_closing (named l.buf l.fields)
