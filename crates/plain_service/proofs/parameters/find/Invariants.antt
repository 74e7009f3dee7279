use Rattle.std.proofs.Common.{◌≡◌, ◌++◌, option_map, filter_map}
use Rattle.std.specs.Option.{option_to_list}
use Rattle.std.specs.Cow.{cow_str_bytes}
use Rattle.form_urlencoded.specs.Parse.{pairs_left}
use Rattle.plain_service.specs.Parameters.{values_under, value_under}
use Rattle.plain_service.proofs.parameters.find.Given as goal

-- the value found so far, before those in what is left
abbrev pub invariant-loop-pair : goal.invariant-loop-pair
invariant-loop-pair l =
    (goal.iterator-loop-pair).can_next l.pair-iterator ×
    (goal.iterator-loop-pair).is_finite l.pair-iterator ×
    (values_under l.name l.query ≡ option_to_list (option_map cow_str_bytes l.found) ++ filter_map (value_under l.name)
    (pairs_left l.pair-iterator))
