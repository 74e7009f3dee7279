use Rattle.ports_http.proofs.FixedReplies.{fault_reply_fits}
use Rattle.ports_http.proofs.fault.HeadFault.reply.Goals as goal

pub returns-clause-fixed : goal.returns-clause-fixed
returns-clause-fixed c = rw c.status.ensures (fault_reply_fits c.args.self)
