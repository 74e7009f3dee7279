use Rattle.std.proofs.Common.{◌≡◌, ◌≤◌, ◌++◌, zero, length, string_bytes}
use denote.Text.{Utf8}
use denote.Shadow.{shadow}
use Rattle.mk_text.specs.declared.limits.TheConstants.{TEXT_LIMIT}
use Rattle.mk_mods.specs.Substituted.{all_replaced}
use Rattle.mk_mods.proofs.substitution.all_replaced.Given as goal

abbrev pub invariant-loop-front : goal.invariant-loop-front
invariant-loop-front l = record {
  text : shadow (Utf8 l.rest);
  small : length (string_bytes l.made) ≤ TEXT_LIMIT;
  goes : string_bytes l.made ++ all_replaced l.old l.new zero l.rest ≡ l.fn.front ++ (l.new ++ all_replaced l.old l.new zero l.behind);
}

abbrev pub decreases-loop-front : goal.decreases-loop-front
decreases-loop-front l = length l.rest
