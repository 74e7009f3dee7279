use Rattle.std.proofs.Common.{◌≡◌, ◌≤◌, ◌++◌, drop, length, string_bytes}
use Rattle.std.specs.List.{flat_map}
use Rattle.mk_text.specs.declared.limits.TheConstants.{TEXT_LIMIT}
use Rattle.mk_mods.specs.Actions.{symbols_of, AllPlain}
use Rattle.mk_mods.specs.Substituted.{text_of}
use Rattle.mk_mods.proofs.substitution.text_of.Given as goal

abbrev pub invariant-loop-part : goal.invariant-loop-part
invariant-loop-part l =
    let rest = flat_map symbols_of (drop l.part-index l.parts) in
    record {
      plain : AllPlain rest;
      small : length (string_bytes l.made) ≤ TEXT_LIMIT;
      goes : string_bytes l.made ++ text_of l.old rest ≡ text_of l.old (flat_map symbols_of l.parts);
    }
