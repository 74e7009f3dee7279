use Rattle.std.proofs.Common.{take, flat_map}
use Rattle.ports_http.specs.Puts.{Appends}
use Rattle.ports_http.specs.Replies.{next_method}
use Rattle.ports_http.proofs.write.put_methods.Given as goal

abbrev pub invariant-loop-method : goal.invariant-loop-method
invariant-loop-method l = Appends l.initial.out l.out (flat_map next_method (take l.method-index l.methods))
