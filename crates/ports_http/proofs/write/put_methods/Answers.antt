use Rattle.ports_http.specs.Replies.{next_method}
use Rattle.ports_http.proofs.PutLemmas.{puts_next, puts_short, puts_failed}
use Rattle.ports_http.proofs.write.put_methods.Goals as goal

pub returns-in_err-put_method : goal.returns-in_err-put_method
returns-in_err-put_method c =
    puts_failed _ _ _ _ c.from_residual.ensures.0
    (puts_short next_method c.args.methods.now c.loop-method.method-index _ _ _ c.loop-method-test.true c.loop-method.invariant
    c.in_err-put_method.ensures)

pub loop-method-preserved : goal.loop-method-preserved
loop-method-preserved c =
    puts_next next_method c.args.methods.now c.loop-method.method-index _ _ _ _ c.loop-method-test.true c.loop-method.invariant
    c.in_ok-put_method.ensures
