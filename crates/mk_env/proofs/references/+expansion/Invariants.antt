use Rattle.std.proofs.Common.{◌≡◌, ◌≤◌, [], map, drop, length, string_bytes, ◌+◌, ◌*◌}
use Rattle.std.specs.List.{flat_map}
use Rattle.mk_base.specs.Meter.{IsLater}
use Rattle.mk_base.specs.Outcome.{each}
use Rattle.mk_ref.specs.Places.{piece_in_text}
use Rattle.mk_text.specs.declared.limits.TheConstants.{TEXT_LIMIT}
use Rattle.mk_mods.specs.Actions.{action_of, symbols_of}
use Rattle.mk_env.specs.Expansion as meaning
use Rattle.mk_env.specs.ActiveNames.{references_in}
use Rattle.mk_env.proofs.references.+expansion.Given as goal

abbrev pub decreases-expand_reference : goal.decreases-expand_reference
decreases-expand_reference l = 9 * l.scope.levels + 1

abbrev pub decreases-expand_by_name : goal.decreases-expand_by_name
decreases-expand_by_name l = 9 * l.scope.levels

abbrev pub decreases-join_piece : goal.decreases-join_piece
decreases-join_piece l = 9 * l.scope.levels + 2

abbrev pub decreases-expand_text : goal.decreases-expand_text
decreases-expand_text l = 9 * l.scope.levels + 3

abbrev pub decreases-expand_value : goal.decreases-expand_value
decreases-expand_value l = 9 * l.scope.levels + 4

abbrev pub decreases-join_part : goal.decreases-join_part
decreases-join_part l = 9 * l.scope.levels + 4

abbrev pub decreases-expand_parts : goal.decreases-expand_parts
decreases-expand_parts l = 9 * l.scope.levels + 5

abbrev pub decreases-apply_modifier : goal.decreases-apply_modifier
decreases-apply_modifier l = 9 * l.scope.levels + 6

abbrev pub decreases-apply_modifiers : goal.decreases-apply_modifiers
decreases-apply_modifiers l = 9 * l.scope.levels + 7

abbrev pub decreases-expand_named : goal.decreases-expand_named
decreases-expand_named l = 9 * l.scope.levels + 8

-- what is left to join, from here, ends as all of it from the start
abbrev pub invariant-expand_text-loop-piece : goal.invariant-expand_text-loop-piece
invariant-expand_text-loop-piece l =
    let turn = meaning.join_piece (references_in l.scope) in
    record {
      later : IsLater l.initial.budget l.budget;
      goes : each turn [] (map (piece_in_text l.text) l.piece-items) l.initial.budget ≡ each turn (string_bytes l.joined)
          (map (piece_in_text l.text) (drop l.piece-index l.piece-items)) l.budget;
    }

-- what is left to apply, from here, ends as all of it from the start
abbrev pub invariant-apply_modifiers-loop-modifier : goal.invariant-apply_modifiers-loop-modifier
invariant-apply_modifiers-loop-modifier l =
    let turn = meaning.modified (references_in l.scope) in
    record {
      later : IsLater l.initial.budget l.budget;
      goes : each turn (string_bytes l.initial.value) (map action_of l.modifiers) l.initial.budget ≡ each turn (string_bytes l.value)
          (map action_of (drop l.modifier-index l.modifiers)) l.budget;
    }

abbrev pub invariant-expand_parts-loop-part : goal.invariant-expand_parts-loop-part
invariant-expand_parts-loop-part l =
    let turn = meaning.join_symbol (references_in l.scope) l.old in
    record {
      later : IsLater l.initial.budget l.budget;
      small : length (string_bytes l.joined) ≤ TEXT_LIMIT;
      goes : each turn [] (flat_map symbols_of l.parts) l.initial.budget ≡ each turn (string_bytes l.joined)
          (flat_map symbols_of (drop l.part-index l.parts)) l.budget;
    }
