use Rattle.std.proofs.Common.{◌≡◌, length}
use denote.Text.{Utf8}
use denote.Shadow.{shadow}
use Rattle.mk_glob.specs.Signs.{signs_of}
use Rattle.mk_glob.proofs.BracketLemmas.{of_body, after_low}
use Rattle.mk_glob.proofs.brackets.among_members.Given as goal

abbrev pub invariant-loop-sign : goal.invariant-loop-sign
invariant-loop-sign l = shadow (Utf8 l.rest) × (of_body l.c (signs_of l.body) ≡ after_low l.c l.found l.low (signs_of l.rest))

abbrev pub decreases-loop-sign : goal.decreases-loop-sign
decreases-loop-sign l = length (signs_of l.rest)
