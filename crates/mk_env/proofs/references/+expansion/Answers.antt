use Rattle.std.proofs.Common.{◌≡◌, ◌∙◌, ◌++◌, ◌+◌, ◌-◌, ap, sym, subst, string_bytes, map, arith, refl, drop, length, option_map, Ok, ◌≤◌}
use Rattle.std.proofs.Common.{rules}
use Rattle.std.specs.List.{flat_map}
use Rattle.std.proofs.lemmas.List.{drop_more}
use Rattle.std.proofs.Math.Seq.{drop-length}
use Rattle.std.proofs.lemmas.Result.{err_from_is_err_and}
use Rattle.mk_base.specs.Meter.{IsLater-on}
use Rattle.mk_base.specs.Outcome.{each, after}
use Rattle.mk_base.specs.Each.{each-value, each-stop, each-end}
use Rattle.mk_base.specs.Stops.{StopsPurelyAt, StopsPurelyAt-whole, GivesPurely}
use Rattle.mk_ref.specs.Places.{piece_in_text}
use Rattle.mk_text.specs.declared.limits.TheConstants.{TEXT_LIMIT}
use Rattle.mk_mods.specs.Actions.{Whole, Reference, action_of, symbols_of}
use Rattle.mk_env.specs.declared.scope.Undefined.TheVariants as kept
use Rattle.mk_env.specs.Expansion as meaning
use Rattle.mk_env.specs.ActiveNames.{references_in, names_of}
use Rattle.mk_env.proofs.Walks.{each-front, each-front-stop, each-nothing}
use Rattle.mk_env.proofs.ExpansionSteps.{text_meaning-pieces, text_meaning-uncut, join-bytes, join-found, join-stops, Gives-joined}
use Rattle.mk_env.proofs.ExpansionSteps.{reference-name, reference-unbegun, text_meaning-plain}
use Rattle.mk_env.proofs.references.+expansion.Goals as goal

pub apply_modifiers-returns-in_err-value-clause-gives : goal.apply_modifiers-returns-in_err-value-clause-gives
apply_modifiers-returns-in_err-value-clause-gives t c =
    let turn = meaning.modified (references_in c.args.scope) in
    let p = err_from_is_err_and c.from_residual.result c.from_residual.ensures.1 in
    rw (p.1, p.2)
    (StopsPurelyAt-whole c.in_err-value.field-0.0 c.apply_modifier.new.budget _ _
    (λ end stops.
    c.loop-modifier.invariant.goes ∙
    each-stop turn action_of (string_bytes c.loop-modifier.value) c.args.modifiers.now c.loop-modifier.modifier-index _
    c.modifier-item.result c.loop-modifier.budget end (omega arith) c.modifier-item.is
    (ap (λ value. turn value (action_of c.modifier-item.result) c.loop-modifier.budget) (sym c.as_str.ensures.value) ∙ stops))
    c.in_err-value.ensures.gives)

pub apply_modifiers-loop-modifier-preserved : goal.apply_modifiers-loop-modifier-preserved
apply_modifiers-loop-modifier-preserved t c =
    let turn = meaning.modified (references_in c.args.scope) in
    record {
      later = IsLater-on c.loop-modifier.invariant.later c.in_ok-value.ensures.later;
      goes = c.loop-modifier.invariant.goes ∙
          each-value turn action_of (string_bytes c.loop-modifier.value) (string_bytes c.in_ok-value.value) c.args.modifiers.now
          c.loop-modifier.modifier-index _ c.modifier-item.result c.loop-modifier.budget c.apply_modifier.new.budget
          (omega arith) c.modifier-item.is
          (ap (λ value. turn value (action_of c.modifier-item.result) c.loop-modifier.budget) (sym c.as_str.ensures.value)
          ∙ c.in_ok-value.ensures.gives);
    }

pub apply_modifiers-returns-clause-gives : goal.apply_modifiers-returns-clause-gives
apply_modifiers-returns-clause-gives t c =
    let turn = meaning.modified (references_in c.args.scope) in
    let all : c.loop-modifier.modifier-index ≡ length c.args.modifiers.now = omega arith in
    c.loop-modifier.invariant.goes ∙
    ap (λ index. each turn (string_bytes c.loop-modifier.value) (map action_of (drop index c.args.modifiers.now)) c.loop-modifier.budget)
    all ∙
    each-end turn action_of (string_bytes c.loop-modifier.value) c.args.modifiers.now c.loop-modifier.budget

pub expand_parts-returns-in_err-join_part-clause-gives : goal.expand_parts-returns-in_err-join_part-clause-gives
expand_parts-returns-in_err-join_part-clause-gives t c =
    let turn = meaning.join_symbol (references_in c.args.scope) c.args.old.now in
    let parts = c.args.parts.now in
    let later = flat_map symbols_of (drop (c.loop-part.part-index + 1) parts) in
    let next : flat_map symbols_of (drop c.loop-part.part-index parts) ≡ symbols_of c.part-item.result ++ later =
    ap (flat_map symbols_of) (drop_more parts c.loop-part.part-index c.part-item.result (omega arith))
    ∙ ap (λ part. symbols_of part ++ later) (sym c.part-item.is) in
    let p = err_from_is_err_and c.from_residual.result c.from_residual.ensures.1 in
    rw (p.1, p.2)
    (StopsPurelyAt-whole c.in_err-join_part.field-0.0 c.join_part.new.budget _ _
    (λ end stops. c.loop-part.invariant.goes ∙ each-front-stop turn (string_bytes c.loop-part.joined) _ (symbols_of c.part-item.result)
    later c.loop-part.budget end next stops)
    c.in_err-join_part.ensures.gives)

pub expand_parts-loop-part-preserved : goal.expand_parts-loop-part-preserved
expand_parts-loop-part-preserved t c =
    let turn = meaning.join_symbol (references_in c.args.scope) c.args.old.now in
    let parts = c.args.parts.now in
    let later = flat_map symbols_of (drop (c.loop-part.part-index + 1) parts) in
    let next : flat_map symbols_of (drop c.loop-part.part-index parts) ≡ symbols_of c.part-item.result ++ later =
    ap (flat_map symbols_of) (drop_more parts c.loop-part.part-index c.part-item.result (omega arith))
    ∙ ap (λ part. symbols_of part ++ later) (sym c.part-item.is) in
    record {
      later = IsLater-on c.loop-part.invariant.later c.in_ok-join_part.ensures.later;
      small = c.in_ok-join_part.ensures.small;
      goes = c.loop-part.invariant.goes ∙ each-front turn (string_bytes c.loop-part.joined) (string_bytes c.join_part.new.joined) _
          (symbols_of c.part-item.result) later c.loop-part.budget c.join_part.new.budget next c.in_ok-join_part.ensures.gives;
    }

pub expand_parts-returns-clause-gives : goal.expand_parts-returns-clause-gives
expand_parts-returns-clause-gives t c =
    let turn = meaning.join_symbol (references_in c.args.scope) c.args.old.now in
    let parts = c.args.parts.now in
    let all : c.loop-part.part-index ≡ length parts = omega arith in
    c.loop-part.invariant.goes ∙
    ap (λ index. each turn (string_bytes c.loop-part.joined) (flat_map symbols_of (drop index parts)) c.loop-part.budget) all ∙
    ap (λ rest. each turn (string_bytes c.loop-part.joined) (flat_map symbols_of rest) c.loop-part.budget) (drop-length parts) ∙
    each-nothing turn (string_bytes c.loop-part.joined) c.loop-part.budget

pub expand_text-returns-in_err-cut-clause-gives : goal.expand_text-returns-in_err-cut-clause-gives
expand_text-returns-in_err-cut-clause-gives t c =
    let p = err_from_is_err_and c.from_residual.result c.from_residual.ensures.1 in
    rw (p.1, p.2) (text_meaning-uncut (references_in c.args.scope) c.args.text.now c.in_err-cut.field-0.0 c.args.budget.now
    c.in_err-cut.ensures.err)

pub expand_text-returns-in_err-join_piece-clause-gives : goal.expand_text-returns-in_err-join_piece-clause-gives
expand_text-returns-in_err-join_piece-clause-gives t c =
    let references = references_in c.args.scope in
    let text = c.args.text.now in
    let pieces = c.deref-piece-items.result.now in
    let p = err_from_is_err_and c.from_residual-in_err-join_piece.result c.from_residual-in_err-join_piece.ensures.1 in
    rw (p.1, p.2)
    (StopsPurelyAt-whole c.in_err-join_piece.field-0.0 c.join_piece.new.budget _ _
    (λ end stops.
    text_meaning-pieces references text (map (piece_in_text text) pieces) c.args.budget.now c.in_ok-cut.ensures.whole
    (ap (map (piece_in_text text)) c.deref-piece-items.ensures.value ∙ c.in_ok-cut.ensures.pieces) ∙
    c.loop-piece.invariant.goes ∙
    each-stop (meaning.join_piece references) (piece_in_text text) (string_bytes c.loop-piece.joined) pieces c.loop-piece.piece-index _ _
    c.loop-piece.budget end (omega arith) refl stops)
    c.in_err-join_piece.ensures.gives)

pub expand_text-loop-piece-preserved : goal.expand_text-loop-piece-preserved
expand_text-loop-piece-preserved t c =
    record {
      later = IsLater-on c.loop-piece.invariant.later c.in_ok-join_piece.ensures.later;
      goes = c.loop-piece.invariant.goes ∙
          each-value (meaning.join_piece (references_in c.args.scope)) (piece_in_text c.args.text.now) (string_bytes c.loop-piece.joined)
          (string_bytes c.join_piece.new.joined) c.deref-piece-items.result.now c.loop-piece.piece-index _ _ c.loop-piece.budget
          c.join_piece.new.budget (omega arith) refl c.in_ok-join_piece.ensures.gives;
    }

pub expand_text-returns-clause-gives : goal.expand_text-returns-clause-gives
expand_text-returns-clause-gives t c =
    let references = references_in c.args.scope in
    let text = c.args.text.now in
    let pieces = c.deref-piece-items.result.now in
    let turn = meaning.join_piece references in
    let all : c.loop-piece.piece-index ≡ length pieces = omega arith in
    text_meaning-pieces references text (map (piece_in_text text) pieces) c.args.budget.now c.in_ok-cut.ensures.whole
    (ap (map (piece_in_text text)) c.deref-piece-items.ensures.value ∙ c.in_ok-cut.ensures.pieces) ∙
    c.loop-piece.invariant.goes ∙
    ap (λ index. each turn (string_bytes c.loop-piece.joined) (map (piece_in_text text) (drop index pieces)) c.loop-piece.budget) all ∙
    each-end turn (piece_in_text text) (string_bytes c.loop-piece.joined) pieces c.loop-piece.budget

pub join_part-returns-in_err-found-in-Reference-clause-gives : goal.join_part-returns-in_err-found-in-Reference-clause-gives
join_part-returns-in_err-found-in-Reference-clause-gives t c =
    let references = references_in c.args.scope in
    let old = c.args.old.now in
    let joined = string_bytes c.args.joined.now in
    let symbol = Reference (string_bytes c.in-Reference.source) in
    let p = err_from_is_err_and c.from_residual.result c.from_residual.ensures.1 in
    rw (p.1, p.2)
    (StopsPurelyAt-whole c.in_err-found-in-Reference.field-0.0 c.expand_text.new.budget _ _
    (λ end stops.
    ap (λ part. each (meaning.join_symbol references old) joined (symbols_of part) c.args.budget.now) c.in-Reference.is ∙
    join-stops references old joined symbol c.args.budget.now end (ap (λ source. meaning.text_meaning references source c.args.budget.now)
    (sym c.as_str-in-Reference.ensures.value) ∙ stops))
    c.in_err-found-in-Reference.ensures.gives)

pub join_part-returns-in-Text-clause-gives : goal.join_part-returns-in-Text-clause-gives
join_part-returns-in-Text-clause-gives t c =
    let references = references_in c.args.scope in
    let old = c.args.old.now in
    let joined = string_bytes c.args.joined.now in
    let small : length joined ≤ TEXT_LIMIT = search rules in
    Gives-joined c.push_bounded.result (joined ++ c.as_str.result.now) (string_bytes c.push_bounded.new.joined) c.args.budget.now _
    c.push_bounded.ensures.ok c.push_bounded.ensures.err
    (ap (λ part. each (meaning.join_symbol references old) joined (symbols_of part) c.args.budget.now) c.in-Text.is ∙
    join-bytes references old joined (string_bytes c.in-Text.text) c.args.budget.now small ∙
    ap (λ bytes. meaning.bounded (joined ++ bytes) c.args.budget.now) (sym c.as_str.ensures.value))

pub join_part-returns-in-Whole-clause-gives : goal.join_part-returns-in-Whole-clause-gives
join_part-returns-in-Whole-clause-gives t c =
    let references = references_in c.args.scope in
    let old = c.args.old.now in
    let joined = string_bytes c.args.joined.now in
    Gives-joined c.push_bounded-in-Whole.result (joined ++ old) (string_bytes c.push_bounded-in-Whole.new.joined) c.args.budget.now _
    c.push_bounded-in-Whole.ensures.ok c.push_bounded-in-Whole.ensures.err
    (ap (λ part. each (meaning.join_symbol references old) joined (symbols_of part) c.args.budget.now) c.in-Whole.is ∙
    join-found references old joined old Whole c.args.budget.now c.args.budget.now refl)

pub join_part-returns-in_ok-found-in-Reference-clause-gives : goal.join_part-returns-in_ok-found-in-Reference-clause-gives
join_part-returns-in_ok-found-in-Reference-clause-gives t c =
    let references = references_in c.args.scope in
    let old = c.args.old.now in
    let joined = string_bytes c.args.joined.now in
    let found = string_bytes c.in_ok-found-in-Reference.found in
    let symbol = Reference (string_bytes c.in-Reference.source) in
    Gives-joined c.push_bounded-in-Reference.result (joined ++ c.as_str-in-Reference-2.result.now)
    (string_bytes c.push_bounded-in-Reference.new.joined) c.expand_text.new.budget _ c.push_bounded-in-Reference.ensures.ok
    c.push_bounded-in-Reference.ensures.err
    (ap (λ part. each (meaning.join_symbol references old) joined (symbols_of part) c.args.budget.now) c.in-Reference.is ∙
    join-found references old joined found symbol c.args.budget.now c.expand_text.new.budget
    (ap (λ source. meaning.text_meaning references source c.args.budget.now) (sym c.as_str-in-Reference.ensures.value)
    ∙ c.in_ok-found-in-Reference.ensures.gives) ∙
    ap (λ bytes. meaning.bounded (joined ++ bytes) c.expand_text.new.budget) (sym c.as_str-in-Reference-2.ensures.value))

pub expand_reference-returns-then-means_itself-clause-gives : goal.expand_reference-returns-then-means_itself-clause-gives
expand_reference-returns-then-means_itself-clause-gives t c =
    let scope = c.args.scope in
    let variables = scope.variables.now in
    let active = names_of scope.active in
    let written = c.args.mention.written.now in
    let name = c.args.mention.name.now in
    let modifiers = option_map (λ text. text.now) c.args.mention.modifiers in
    let references = meaning.reference kept.Empty (scope.levels - 1) variables in
    let value = c.means_itself.ensures c.if-means_itself.true (references active) c.begin_reference.new.budget in
    let whole = reference-name scope.undefined scope.levels variables active written name modifiers c.args.budget.now
    c.begin_reference.new.budget tt c.in_ok-begin_reference.ensures.inside c.in_ok-begin_reference.ensures.gives
    ∙ ap (λ end. after end (meaning.by_name scope.undefined references variables active written modifiers)) value in
    subst (λ outcome. GivesPurely string_bytes c.expand_by_name.result c.expand_by_name.new.budget outcome) (sym whole)
    c.expand_by_name.ensures.gives

pub expand_reference-returns-in_err-begin_reference-clause-gives : goal.expand_reference-returns-in_err-begin_reference-clause-gives
expand_reference-returns-in_err-begin_reference-clause-gives t c =
    let scope = c.args.scope in
    let mention = c.args.mention in
    let p = err_from_is_err_and c.from_residual.result c.from_residual.ensures.1 in
    rw (p.1, p.2)
    (StopsPurelyAt-whole c.in_err-begin_reference.field-0.0 c.begin_reference.new.budget _ _
    (λ end stops. reference-unbegun scope.undefined scope.levels scope.variables.now (names_of scope.active) mention.written.now
    mention.name.now (option_map (λ text. text.now) mention.modifiers) c.args.budget.now end stops)
    c.in_err-begin_reference.ensures.gives)

pub expand_reference-returns-in_err-name-clause-gives : goal.expand_reference-returns-in_err-name-clause-gives
expand_reference-returns-in_err-name-clause-gives t c =
    let scope = c.args.scope in
    let variables = scope.variables.now in
    let active = names_of scope.active in
    let written = c.args.mention.written.now in
    let modifiers = option_map (λ text. text.now) c.args.mention.modifiers in
    let p = err_from_is_err_and c.from_residual-in_err-name.result c.from_residual-in_err-name.ensures.1 in
    rw (p.1, p.2)
    (StopsPurelyAt-whole c.in_err-name.field-0.0 c.expand_text.new.budget _ _
    (λ end stops.
    reference-name scope.undefined scope.levels variables active written c.args.mention.name.now modifiers c.args.budget.now
    c.begin_reference.new.budget tt c.in_ok-begin_reference.ensures.inside c.in_ok-begin_reference.ensures.gives ∙
    ap (λ end'. after end' (meaning.by_name scope.undefined (meaning.reference kept.Empty (scope.levels - 1) variables) variables active
    written modifiers)) stops)
    (subst (λ inside. StopsPurelyAt c.in_err-name.field-0.0 c.expand_text.new.budget
    (meaning.text_meaning (references_in inside) c.args.mention.name.now c.begin_reference.new.budget)) c.inside.ensures
    c.in_err-name.ensures.gives))

pub expand_reference-returns-clause-gives : goal.expand_reference-returns-clause-gives
expand_reference-returns-clause-gives t c =
    let scope = c.args.scope in
    let variables = scope.variables.now in
    let active = names_of scope.active in
    let written = c.args.mention.written.now in
    let modifiers = option_map (λ text. text.now) c.args.mention.modifiers in
    let references = meaning.reference kept.Empty (scope.levels - 1) variables in
    let behind = meaning.by_name scope.undefined references variables active written modifiers in
    let found = string_bytes c.in_ok-name.name in
    let value = subst (λ inside. meaning.text_meaning (references_in inside) c.args.mention.name.now c.begin_reference.new.budget ≡ Ok
    (found, c.expand_text.new.budget)) c.inside.ensures c.in_ok-name.ensures.gives in
    let whole = reference-name scope.undefined scope.levels variables active written c.args.mention.name.now modifiers c.args.budget.now
    c.begin_reference.new.budget tt c.in_ok-begin_reference.ensures.inside c.in_ok-begin_reference.ensures.gives
    ∙ ap (λ end. after end behind) value in
    subst (λ outcome. GivesPurely string_bytes c.expand_by_name-2.result c.expand_by_name-2.new.budget outcome)
    (ap (λ name. behind name c.expand_text.new.budget) c.as_str.ensures.value ∙ sym whole)
    c.expand_by_name-2.ensures.gives

pub expand_text-returns-then-not-has_dollar-clause-gives : goal.expand_text-returns-then-not-has_dollar-clause-gives
expand_text-returns-then-not-has_dollar-clause-gives t c =
    subst (λ outcome. GivesPurely string_bytes c.copy_bounded.result c.args.budget.now outcome)
    (sym (text_meaning-plain (references_in c.args.scope) c.args.text.now c.args.budget.now (sym c.has_dollar.ensures
    ∙ c.if-not-has_dollar.true)))
    (c.copy_bounded.ensures.gives c.args.budget.now)
