-- The paths up to here are taken out.
use Rattle.std.proofs.Common.{◌≡◌, ℕ, List, false, if◌then◌else◌, map, take, string_bytes}
use Rattle.std.specs.BTreeSet.{contains_text}
use Rattle.index_store.specs.Entries.{is_one_of}
use Rattle.index_store.proofs.store.forget.Given as goal

abbrev pub invariant-loop-path : goal.invariant-loop-path
invariant-loop-path l = (other : List ℕ) → contains_text l.noted other
    ≡ (if is_one_of other (map string_bytes (take l.path-index l.paths)) then false else contains_text l.fn.noted other)
