use Rattle.std.proofs.Common.{◌≡◌, take}
use Rattle.mk_loop.specs.LoopWords.{word_of}
use Rattle.mk_loop.specs.Scopes.{words_in}
use Rattle.mk_loop.proofs.scopes.word_in.Given as goal

-- the loops that are left have the word that all of them have
abbrev pub invariant-loop-at : goal.invariant-loop-at
invariant-loop-at l = word_of (words_in (take l.at l.loops)) l.name ≡ word_of (words_in l.loops) l.name
