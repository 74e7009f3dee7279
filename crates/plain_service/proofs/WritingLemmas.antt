-- Objects and lists by the tokens that were added for them.
use Rattle.std.proofs.Common.{◌≡◌, ◌∙◌, ◌≤◌, ℕ, List, [], ◌∷◌, ◌++◌, length, map, take, refl, ap, sym, subst, append_assoc, append-nil}
use Rattle.std.proofs.lemmas.List.{take_all}
use Rattle.std.proofs.lemmas.Result.{on_ok_weaker}
use Rattle.std.proofs.lemmas.Grind.{flat_map-append}
use Rattle.std.specs.Prelude.{flat_map, Result, OnOk}
use Rattle.std.specs.Borrow.{Bor}
use Rattle.json.specs.Token.{Token, begin_object, begin_array, key, end_array, end_object}
use Rattle.json.specs.Tree.{items_tokens, members_tokens}
use Rattle.json.specs.Written.{Written, Writes}
use Rattle.json.specs.Print.{print}
use Rattle.serde_json.specs.Data.{Data, array, object}
use Rattle.serde_json.specs.View.{items_of}
use Rattle.serde_json.specs.Written.{items_outline, members_outline, compact_text}
use Rattle.serde_json.proofs.Texts.{print-outline}
use Rattle.plain_service.specs.ListBodies.{list_body}
use Rattle.plain_service.specs.declared.json_text.Scalar.{Scalar}
use Rattle.plain_service.specs.JsonText.{value_tokens, scalar_value, members_of, AddsTokens, AddsValue, AddsItems, HasItems}
use Rattle.plain_service.specs.JsonText.{Member, tokens_of_member, AddsMember, HasMembers, in_object, object_of}

-- the tokens of a member
abbrev pub member_tokens : Bor (List ℕ) × Scalar → List Token
member_tokens one = key one.0.now ∷ value_tokens (scalar_value one.1)

ended_members : (members : List (Bor (List ℕ) × Scalar)) → flat_map member_tokens members ++ end_object ∷ [] ≡ members_tokens
    (members_outline (members_of members))
ended_members [] = refl
ended_members (first ∷ others) =
    append_assoc (member_tokens first) (flat_map member_tokens others) (end_object ∷ [])
    ∙ ap (λ tokens. member_tokens first ++ tokens) (ended_members others)

-- what was added, and a token after it
one_token_more : {E : Type 0} {r : Result (Unit {0}) E} {before between after : Written} {more : List Token} {token : Token}
    → AddsTokens before between more → Writes r between after token
    → OnOk r (AddsTokens before after (more ++ token ∷ []))
one_token_more {r} {before} {more} {token} added written = on_ok_weaker r (λ grown. record {
  start = written.room.0 ∙ added.start;
  grown = grown ∙ ap (λ tokens. tokens ++ token ∷ []) added.grown ∙ append_assoc before.tokens more (token ∷ []);
}) written.ok

-- an object, once all its members are written
pub object_added : {E : Type 0} {r : Result (Unit {0}) E} {before between after : Written} (members : List (Bor (List ℕ) × Scalar))
    (i : ℕ) → length members ≤ i
    → AddsTokens before between (begin_object ∷ flat_map member_tokens (take i members)) → Writes r between after end_object
    → OnOk r (AddsValue before after (object (members_of members)))
object_added {r} {before} {after} members i all added written =
    subst (λ tokens. OnOk r (AddsTokens before after (begin_object ∷ tokens)))
    (ap (λ (part : List (Bor (List ℕ) × Scalar)). flat_map member_tokens part ++ end_object ∷ []) (take_all i members all)
    ∙ ended_members members) (one_token_more added written)

-- a list with the items of all
pub all_items : {X : Type 0} {text : Written} {name : List ℕ} (item : X → Data) (xs : List X) (i : ℕ) → length xs ≤ i
    → HasItems text name (map item (take i xs)) → HasItems text name (map item xs)
all_items {text} {name} item xs i all has = subst (λ part. HasItems text name (map item part)) (take_all i xs all) has

-- items after those that a list has
pub more_items : {before after : Written} {name : List ℕ} {items : List Data} (more : List Data) → HasItems before name items
    → AddsItems before after more → HasItems after name (items ++ more)
more_items {name} {items} more has adds = record {
  start = adds.start ∙ has.start;
  so_far = adds.grown ∙ ap (λ tokens. tokens ++ flat_map value_tokens more) has.so_far
      ∙ ap (λ tokens. begin_object ∷ key name ∷ begin_array ∷ tokens) (sym (flat_map-append value_tokens items more));
}

ended_items : (items : List Data) → flat_map value_tokens items ++ end_array ∷ [] ≡ items_tokens (items_outline (items_of items))
ended_items [] = refl
ended_items (value ∷ items) =
    append_assoc (value_tokens value) (flat_map value_tokens items) (end_array ∷ [])
    ∙ ap (λ tokens. value_tokens value ++ tokens) (ended_items items)

-- the text of an object with one member, a list
pub list_text : (name : List ℕ) (items : List Data) (tokens : List Token) → tokens ≡ (begin_object ∷ key name ∷ begin_array ∷ []) ++
    flat_map value_tokens items
    → print ((tokens ++ end_array ∷ []) ++ end_object ∷ []) ≡ compact_text (list_body name items)
list_text name items tokens is =
    ap (λ so_far. print ((so_far ++ end_array ∷ []) ++ end_object ∷ [])) is
    ∙ ap (λ list. print (begin_object ∷ key name ∷ begin_array ∷ (list ++ end_object ∷ []))) (ended_items items)
    ∙ print-outline (list_body name items)

-- a member that is a list, once all its items are written
pub list_added : {E X : Type 0} {r : Result (Unit {0}) E} {before between after : Written} (name : List ℕ)
    (item : X → Data) (xs : List X) (i : ℕ) → length xs ≤ i
    → AddsTokens before between (key name ∷ begin_array ∷ flat_map value_tokens (map item (take i xs))) → Writes r between after end_array
    → OnOk r (AddsMember before after name (array (items_of (map item xs))))
list_added {X = X} {r = r} {before} {between} {after} name item xs i all added written =
    subst (λ tokens. OnOk r (AddsTokens before after (key name ∷ begin_array ∷ tokens)))
    (ap (λ (part : List X). flat_map value_tokens (map item part) ++ end_array ∷ []) (take_all i xs all)
    ∙ ended_items (map item xs)) (one_token_more added written)

-- a member more
pub one_member_more : {before after : Written} {members : List Member} (name : List ℕ) (value : Data) → HasMembers before members
    → AddsMember before after name value → HasMembers after (members ++ (name, value) ∷ [])
one_member_more {members = members} name value has adds = record {
  start = adds.start ∙ has.start;
  so_far = adds.grown ∙ ap (λ tokens. tokens ++ tokens_of_member (name, value)) has.so_far
      ∙ ap (λ tokens. begin_object ∷ tokens) (more members);
} where
  more : (members : List Member)
      → flat_map tokens_of_member members ++ tokens_of_member (name, value) ≡ flat_map tokens_of_member (members ++ (name, value) ∷ [])
  more [] = sym (append-nil (tokens_of_member (name, value)))
  more (first ∷ others) = append_assoc (tokens_of_member first) (flat_map tokens_of_member others) (tokens_of_member (name, value))
      ∙ ap (λ tokens. tokens_of_member first ++ tokens) (more others)

ended_object : (members : List Member)
    → flat_map tokens_of_member members ++ end_object ∷ [] ≡ members_tokens (members_outline (in_object members))
ended_object [] = refl
ended_object (first ∷ others) =
    append_assoc (tokens_of_member first) (flat_map tokens_of_member others) (end_object ∷ [])
    ∙ ap (λ tokens. tokens_of_member first ++ tokens) (ended_object others)

-- the text of an object
pub object_text : (members : List Member) (tokens : List Token) → tokens ≡ begin_object ∷ flat_map tokens_of_member members
    → print (tokens ++ end_object ∷ []) ≡ compact_text (object_of members)
object_text members tokens is =
    ap (λ so_far. print (so_far ++ end_object ∷ [])) is ∙ ap (λ rest. print (begin_object ∷ rest)) (ended_object members)
    ∙ print-outline (object_of members)
