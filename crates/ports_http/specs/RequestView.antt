-- What a contract sees of a `Request`.
use Rattle.std.specs.Prelude.{option_map}
use Rattle.std.specs.String.{string_bytes}
use Rattle.ports_http.specs.declared.request.Request.TheInside.{Inside}
use Rattle.ports_http.specs.Messages.{RequestMessage}

-- a request without its place in memory
abbrev pub request_view : Inside → RequestMessage
request_view r = record {
  method = r.method;
  target = string_bytes r.target;
  body = r.body.items;
  key = option_map (λ k. k.items) r.key;
  close = r.close;
}
