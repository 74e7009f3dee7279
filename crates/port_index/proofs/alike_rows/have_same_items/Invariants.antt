-- The items up to here are the same.
use Rattle.std.proofs.Common.{◌≡◌, take}
use Rattle.port_index.specs.Alike.{dependency_items}
use Rattle.port_index.proofs.alike_rows.have_same_items.Given as goal

abbrev pub invariant-loop-place : goal.invariant-loop-place
invariant-loop-place l = dependency_items (take l.place l.new) ≡ dependency_items (take l.place l.old)
