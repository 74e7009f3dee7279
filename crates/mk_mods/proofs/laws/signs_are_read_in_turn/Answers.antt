use Rattle.mk_mods.proofs.SignTurns.{read_in_turn}
use Rattle.mk_mods.proofs.laws.signs_are_read_in_turn.Goals as goal

pub returns : goal.returns
returns c = read_in_turn
