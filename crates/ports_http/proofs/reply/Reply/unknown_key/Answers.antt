use Rattle.ports_http.proofs.FixedReplies.{unknown_key_fits}
use Rattle.ports_http.proofs.reply.Reply.unknown_key.Goals as goal

pub returns-clause-fixed : goal.returns-clause-fixed
returns-clause-fixed c = rw c.of_text.ensures unknown_key_fits
