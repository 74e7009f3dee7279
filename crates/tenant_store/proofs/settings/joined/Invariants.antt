-- The text so far is the first and the trees up to here, each after a colon.
use Rattle.std.proofs.Common.{◌≡◌, ◌++◌, map, take, string_bytes}
use Rattle.text_parts.specs.Laws.{after_marks}
use Rattle.general_facts.specs.Ascii.{colon}
use Rattle.tenant_store.proofs.settings.joined.Given as goal

abbrev pub invariant-loop-tree : goal.invariant-loop-tree
invariant-loop-tree l = string_bytes l.text ≡ l.first ++ after_marks colon (map string_bytes (take l.tree-index l.more))
