use Rattle.ports_http.proofs.FixedReplies.{store_failed_fits}
use Rattle.ports_http.proofs.reply.Reply.store_failed.Goals as goal

pub returns-clause-fixed : goal.returns-clause-fixed
returns-clause-fixed c = rw c.of_text.ensures store_failed_fits
