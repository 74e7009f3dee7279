use Rattle.std.proofs.Common.{arith, rules}
use Rattle.portsd_text.proofs.EscapeFacts.{hex_text-is}
use Rattle.portsd_text.proofs.transcript.push_hex.Goals as goal

pub returns : goal.returns
returns c = rw (hex_text-is c.args.byte (omega arith)) (search rules)
