-- The words up to here are dashes and names.
use Rattle.std.proofs.Common.{◌≡◌, true, take, string_bytes}
use Rattle.std.specs.List.{list_all}
use Rattle.port_rules.specs.Packages.{is_named_subpackage}
use Rattle.port_rules.proofs.packages.are_named.Given as goal

abbrev pub invariant-loop-word : goal.invariant-loop-word
invariant-loop-word l = list_all (λ word. is_named_subpackage (string_bytes word)) (take l.word-index l.words) ≡ true
