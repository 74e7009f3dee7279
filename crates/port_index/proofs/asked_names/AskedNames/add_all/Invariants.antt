-- The path is noted with the names up to here, and what was noted still is.
use Rattle.std.proofs.Common.{◌≡◌, true, ℕ, List, take, string_bytes}
use Rattle.std.specs.List.{list_any}
use Rattle.std.specs.Str.{bytes_eq}
use Rattle.port_index.specs.AskedNames.{is_noted, KeepsNotes}
use Rattle.port_index.proofs.asked_names.AskedNames.add_all.Given as goal

abbrev pub invariant-loop-name : goal.invariant-loop-name
invariant-loop-name l = record {
  noted : (name : List ℕ) → list_any (λ one. bytes_eq (string_bytes one) name) (take l.name-index l.names) ≡ true
      → is_noted l.self name l.path ≡ true;
  stays : KeepsNotes (is_noted l.initial.self) (is_noted l.self);
}
