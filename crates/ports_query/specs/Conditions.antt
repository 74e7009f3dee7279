-- Queries of packages as they are written, for example `category=editors;version>=2.0`: conditions with
-- semicolons between them. Their form is this project's choice. A text is its bytes.
use Rattle.std.specs.Prelude.{◌≡◌, ℕ, ◌==◌, ◌&&◌, ◌+◌, nat_le, nat_eq, if◌then◌else◌, List, [], ◌∷◌, length, take, drop}
use Rattle.std.specs.Prelude.{map, is_some, Option, Some, None, option_map, option_and_then, string_bytes, codes, Vec}
use Rattle.std.specs.Prelude.{MatchOption, Result, IfOk}
use Rattle.std.specs.Borrow.{Bor}
use Rattle.std.specs.Global.{Global}
use Rattle.std.specs.List.{slice_split, starts_with}
use Rattle.std.specs.Str.{bytes_eq}
use Rattle.general_facts.specs.Ascii.{semicolon}
use Rattle.pkg_name.specs.Version.{is_version}
use Rattle.ports_query.specs.declared.conditions.TextField.{TextField}
use Rattle.ports_query.specs.declared.conditions.TextField.TheVariants.{Path, Name, Stem, Version, Maintainer, Comment}
use Rattle.ports_query.specs.declared.conditions.ListField.{ListField}
use Rattle.ports_query.specs.declared.conditions.ListField.TheVariants.{Category, Flavor}
use Rattle.ports_query.specs.declared.conditions.Field.{Field}
use Rattle.ports_query.specs.declared.conditions.Field.TheVariants as fields
use Rattle.ports_query.specs.declared.conditions.Condition.{Condition}
use Rattle.ports_query.specs.declared.conditions.Condition.TheVariants as conditions
use Rattle.ports_query.specs.declared.operators.OperatorSign.{OperatorSign}
use Rattle.ports_query.specs.declared.operators.OperatorSign.TheVariants.{Is, IsNot, Has}
use Rattle.ports_query.specs.declared.operators.Bound.{Bound}
use Rattle.ports_query.specs.declared.operators.Bound.TheVariants.{Below, AtLeast}
use Rattle.ports_query.specs.declared.operators.Operator.{Operator}
use Rattle.ports_query.specs.declared.operators.Operator.TheVariants.{Plain, Ordered}

-- an operator, and what follows it
pub record OperatorAt : Type 0 where
  pub operator : Operator
  pub behind : List ℕ

-- the operator that a text begins with, if it does
abbrev pub operator_at : List ℕ → Option OperatorAt
operator_at text =
    if starts_with nat_eq text (codes "!=") then Some (record { operator = Plain IsNot; behind = drop 2 text })
    else if starts_with nat_eq text (codes ">=") then Some (record { operator = Ordered AtLeast; behind = drop 2 text })
    else if starts_with nat_eq text (codes "=") then Some (record { operator = Plain Is; behind = drop 1 text })
    else if starts_with nat_eq text (codes "~") then Some (record { operator = Plain Has; behind = drop 1 text })
    else if starts_with nat_eq text (codes "<") then Some (record { operator = Ordered Below; behind = drop 1 text })
    else None

-- how many bytes of a text precede the first place where an operator begins
unfoldable pub plain_length : List ℕ → ℕ
plain_length [] = 0
plain_length (byte ∷ rest) = if is_some (operator_at (byte ∷ rest)) then 0 else plain_length rest + 1

-- a condition: on a text of a package or its port, on a list of texts of the port, or on the package's
-- version by the order of versions
pub data ConditionValue : Type 0 where
  OfText : TextField → OperatorSign → List ℕ → ConditionValue
  OfList : ListField → OperatorSign → List ℕ → ConditionValue
  OfVersion : Bound → List ℕ → ConditionValue

-- the field of this name
abbrev pub field_named : List ℕ → Option Field
field_named name =
    if bytes_eq name (codes "path") then Some (fields.Text Path)
    else if bytes_eq name (codes "name") then Some (fields.Text Name)
    else if bytes_eq name (codes "stem") then Some (fields.Text Stem)
    else if bytes_eq name (codes "version") then Some (fields.Text Version)
    else if bytes_eq name (codes "maintainer") then Some (fields.Text Maintainer)
    else if bytes_eq name (codes "comment") then Some (fields.Text Comment)
    else if bytes_eq name (codes "category") then Some (fields.Texts Category)
    else if bytes_eq name (codes "flavor") then Some (fields.Texts Flavor)
    else None

-- a condition on a field
abbrev pub condition_on : OperatorSign → List ℕ → Field → ConditionValue
condition_on sign value (fields.Text field) = OfText field sign value
condition_on sign value (fields.Texts field) = OfList field sign value

-- the condition of a field's name, an operator and a value; only versions are ordered, and only by
-- a value that is a version
abbrev pub condition_with : List ℕ → Operator → List ℕ → Option ConditionValue
condition_with name (Plain sign) value = option_map (condition_on sign value) (field_named name)
condition_with name (Ordered bound) value =
    if bytes_eq name (codes "version") && is_version value then Some (OfVersion bound value) else None

-- the condition that a text is: it is cut at the operator that begins first
unfoldable pub condition_of : List ℕ → Option ConditionValue
condition_of text =
    let name = take (plain_length text) text in
    option_and_then (λ (found : OperatorAt). condition_with name found.operator found.behind) (operator_at (drop (plain_length text) text))

-- the conditions that texts are, if each of them is one
unfoldable pub conditions_of : List (List ℕ) → Option (List ConditionValue)
conditions_of [] = Some []
conditions_of (text ∷ texts) =
    option_and_then (λ condition. option_map (λ conditions. condition ∷ conditions) (conditions_of texts))
    (condition_of text)

-- the conditions that these texts are, if they are at most eight
abbrev pub few_conditions : List (List ℕ) → Option (List ConditionValue)
few_conditions texts = if nat_le (length texts) 8 then conditions_of texts else None

-- the conditions of a query: an empty text has none
abbrev pub query_conditions : List ℕ → Option (List ConditionValue)
query_conditions text = if length text == 0 then Some [] else few_conditions (slice_split (λ byte. byte == semicolon) text)

-- a condition, its texts as bytes
abbrev pub condition_seen : Condition → ConditionValue
condition_seen (conditions.OnText field sign value) = OfText field sign (string_bytes value)
condition_seen (conditions.OnTexts field sign value) = OfList field sign (string_bytes value)
condition_seen (conditions.OnVersion bound version) = OfVersion bound version

abbrev pub conditions_seen : Vec Condition Global → List ConditionValue
conditions_seen conditions = map condition_seen conditions.items

-- where a function succeeds, it read this condition, or none if there is none
abbrev pub ReadsCondition : {F : Type 0} → Result (Option Condition) F → Option ConditionValue → Type 0
ReadsCondition result condition = IfOk result (λ read. option_map condition_seen read ≡ condition)

-- where a function succeeds, it read these conditions, or none if some text is no condition
abbrev pub ReadsConditions : {F : Type 0} → Result (Option (Vec Condition Global)) F → Option (List ConditionValue) → Type 0
ReadsConditions result conditions = IfOk result (λ read. option_map conditions_seen read ≡ conditions)

-- a function found this operator, and what follows it; or there is none, and it found none
abbrev pub FindsOperator : Option (Operator × Bor (List ℕ)) → Option OperatorAt → Type 0
FindsOperator result operator =
    MatchOption result (operator ≡ None) (λ found. operator ≡ Some (record { operator = found.0; behind = found.1.now }))
