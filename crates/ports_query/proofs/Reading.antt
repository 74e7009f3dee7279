-- Conditions that are read one after another.
use Rattle.std.proofs.Common.{◌≡◌, ◌∙◌, sym, ap, refl, ℕ, ◌+◌, ◌<◌, ◌≤◌, List, [], ◌∷◌, ◌++◌, map, length, drop, get_or, Option, Some, None}
use Rattle.std.proofs.Common.{Bor, append-nil, arith}
use Rattle.std.proofs.lemmas.List.{append_assoc, drop_more, drop_all, get_or-map, map-append, length-map}
use Rattle.std.specs.Option.{option_map, option_and_then}
use Rattle.text_parts.specs.Cuts.{now_all}
use Rattle.ports_query.specs.Conditions.{ConditionValue, condition_of, conditions_of, condition_seen}
use Rattle.ports_query.specs.declared.conditions.Condition.{Condition}

-- conditions with others before them
abbrev pub in_front : List ConditionValue → Option (List ConditionValue) → Option (List ConditionValue)
in_front front more = option_map (λ conditions. front ++ conditions) more

in_front-one : (front : List ConditionValue) (one : ConditionValue) (more : Option (List ConditionValue))
    → in_front front (option_map (λ conditions. one ∷ conditions) more) ≡ in_front (front ++ one ∷ []) more
in_front-one front one None = refl
in_front-one front one (Some more) = ap Some (sym (append_assoc front (one ∷ []) more))

with_first : (text : List ℕ) (texts : List (List ℕ)) (condition : Option ConditionValue) → condition_of text ≡ condition
    → conditions_of (text ∷ texts) ≡ option_and_then (λ first. option_map (λ conditions. first ∷ conditions) (conditions_of texts))
    condition
unfolding conditions_of
with_first text texts condition is = ap (option_and_then (λ first. option_map (λ conditions. first ∷ conditions) (conditions_of texts))) is

-- the text at a place
at_place : (texts : List (Bor (List ℕ))) (i : ℕ) (d : Bor (List ℕ)) → i < length texts → drop i (now_all texts) ≡ (get_or texts i d).now ∷
    drop (i + 1) (now_all texts)
at_place texts i d inside =
    drop_more (now_all texts) i (get_or texts i d).now (omega (arith, inside, length-map texts now))
    ∙ ap (λ text. text ∷ drop (i + 1) (now_all texts)) (get_or-map now texts i d (get_or texts i d).now inside)
  where
    now : Bor (List ℕ) → List ℕ
    now text = text.now

-- one that is no condition
pub read-fails : (texts : List (Bor (List ℕ))) (i : ℕ) (d : Bor (List ℕ)) (front : List ConditionValue) (read : Option Condition)
    → i < length texts → read ≡ None
    → option_map condition_seen read ≡ condition_of (get_or texts i d).now → conditions_of (now_all texts) ≡ in_front front
    (conditions_of (drop i (now_all texts)))
    → None ≡ conditions_of (now_all texts)
read-fails texts i d front read inside none is so_far =
    let nothing : condition_of (get_or texts i d).now ≡ None = sym is ∙ ap (option_map condition_seen) none in
    sym (so_far ∙ ap (λ rest. in_front front (conditions_of rest)) (at_place texts i d inside)
    ∙ ap (in_front front) (with_first (get_or texts i d).now (drop (i + 1) (now_all texts)) None nothing))

-- one more
pub read-more : (texts : List (Bor (List ℕ))) (i : ℕ) (d : Bor (List ℕ)) (conditions now : List Condition) (one : Condition)
    (read : Option Condition) → i < length texts → read ≡ Some one
    → option_map condition_seen read ≡ condition_of (get_or texts i d).now → now ≡ conditions ++ one ∷ []
    → conditions_of (now_all texts) ≡ in_front (map condition_seen conditions) (conditions_of (drop i (now_all texts)))
    → conditions_of (now_all texts) ≡ in_front (map condition_seen now) (conditions_of (drop (i + 1) (now_all texts)))
read-more texts i d conditions now one read inside some is pushed so_far =
    let found : condition_of (get_or texts i d).now ≡ Some (condition_seen one) = sym is ∙ ap (option_map condition_seen) some in
    let rest = drop (i + 1) (now_all texts) in
    so_far ∙ ap (λ rest. in_front (map condition_seen conditions) (conditions_of rest)) (at_place texts i d inside)
    ∙ ap (in_front (map condition_seen conditions)) (with_first (get_or texts i d).now rest (Some (condition_seen one)) found)
    ∙ in_front-one (map condition_seen conditions) (condition_seen one) (conditions_of rest)
    ∙ ap (λ front. in_front front (conditions_of rest))
    (sym (ap (map condition_seen) pushed ∙ map-append condition_seen conditions (one ∷ [])))

-- all are read
pub read-ends : (texts : List (Bor (List ℕ))) (i : ℕ) (front : List ConditionValue) → length texts ≤ i
    → conditions_of (now_all texts) ≡ in_front front (conditions_of (drop i (now_all texts)))
    → Some front ≡ conditions_of (now_all texts)
unfolding conditions_of
read-ends texts i front past so_far =
    sym (so_far ∙ ap (λ rest. in_front front (conditions_of rest)) (drop_all i (now_all texts) (omega (arith, past, length-map texts now)))
    ∙ ap Some (append-nil front))
  where
    now : Bor (List ℕ) → List ℕ
    now text = text.now
