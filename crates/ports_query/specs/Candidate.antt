-- When a package meets a condition.
use Rattle.std.specs.Prelude.{◌≡◌, ℕ, ◌||◌, nat_eq, not, Bool, List, [], ◌∷◌, string_bytes, Result, IfOk}
use Rattle.std.specs.List.{list_all, list_any, starts_with}
use Rattle.std.specs.Ordering.{is_lt, is_ge}
use Rattle.std.specs.Str.{bytes_eq}
use Rattle.std.specs.declared.cmp.Ordering.{Ordering}
use Rattle.pkg_name.specs.Name.{name_text}
use Rattle.pkg_name.specs.Order.{version_cmp}
use Rattle.port_rules.specs.Ports.{PortValue}
use Rattle.port_rules.specs.Packages.{PackageValue}
use Rattle.ports_query.specs.Conditions.{ConditionValue, OfText, OfList, OfVersion, condition_seen}
use Rattle.ports_query.specs.declared.conditions.Condition.{Condition}
use Rattle.ports_query.specs.declared.conditions.TextField.{TextField}
use Rattle.ports_query.specs.declared.conditions.TextField.TheVariants.{Path, Name, Stem, Version, Maintainer, Comment}
use Rattle.ports_query.specs.declared.conditions.ListField.{ListField}
use Rattle.ports_query.specs.declared.conditions.ListField.TheVariants.{Category, Flavor}
use Rattle.ports_query.specs.declared.candidate.Candidate.{Candidate}
use Rattle.ports_query.specs.declared.candidate.FieldText.{FieldText}
use Rattle.ports_query.specs.declared.candidate.FieldText.TheVariants.{Lent, Made}
use Rattle.ports_query.specs.declared.operators.OperatorSign.{OperatorSign}
use Rattle.ports_query.specs.declared.operators.OperatorSign.TheVariants.{Is, IsNot, Has}
use Rattle.ports_query.specs.declared.operators.Bound.{Bound}
use Rattle.ports_query.specs.declared.operators.Bound.TheVariants.{Below, AtLeast}

-- a part is somewhere in a text
unfoldable pub has_part : List ℕ → List ℕ → Bool
has_part part [] = starts_with nat_eq [] part
has_part part (byte ∷ rest) = starts_with nat_eq (byte ∷ rest) part || has_part part rest

-- a text meets a sign and a value
abbrev pub text_meets : OperatorSign → List ℕ → List ℕ → Bool
text_meets Is value text = bytes_eq text value
text_meets IsNot value text = not (bytes_eq text value)
text_meets Has value text = has_part value text

-- some of these texts is the value, none is, or the value is a part of some
abbrev pub texts_meet : OperatorSign → List ℕ → List (List ℕ) → Bool
texts_meet Is value texts = list_any (λ text. bytes_eq text value) texts
texts_meet IsNot value texts = not (list_any (λ text. bytes_eq text value) texts)
texts_meet Has value texts = list_any (λ text. has_part value text) texts

-- a version meets a bound, by how it compares with the bound's version
abbrev pub bound_meets : Bound → Ordering → Bool
bound_meets Below = is_lt
bound_meets AtLeast = is_ge

-- a text of a package, or of its port at this path
abbrev pub text_by_field : TextField → List ℕ → PortValue → PackageValue → List ℕ
text_by_field Path path port found = path
text_by_field Name path port found = name_text found.name
text_by_field Stem path port found = found.name.stem
text_by_field Version path port found = found.name.version
text_by_field Maintainer path port found = port.maintainer
text_by_field Comment path port found = found.comment

-- texts of a port: its categories, and the flavors that are chosen
abbrev pub texts_of_field : ListField → PortValue → List (List ℕ)
texts_of_field Category port = port.categories
texts_of_field Flavor port = port.flavors.chosen

-- a package of the port at this path meets a condition
abbrev pub meets : List ℕ → PortValue → PackageValue → ConditionValue → Bool
meets path port found (OfText field sign value) = text_meets sign value (text_by_field field path port found)
meets path port found (OfList field sign value) = texts_meet sign value (texts_of_field field port)
meets path port found (OfVersion bound version) = bound_meets bound (version_cmp found.name.version version)

-- a package meets all of these conditions
abbrev pub meets_all : List ConditionValue → List ℕ → PortValue → PackageValue → Bool
meets_all conditions path port found = list_all (meets path port found) conditions

-- a text that is lent, or one that was made
abbrev pub text_seen : FieldText → List ℕ
text_seen (Lent text) = text.now
text_seen (Made text) = string_bytes text

-- where a function succeeds, it tells if this is so
abbrev pub TellsIf : {F : Type 0} → Result Bool F → Bool → Type 0
TellsIf result so = IfOk result (λ told. told ≡ so)

-- a package that is looked at meets a condition
abbrev pub candidate_meets : Candidate → ConditionValue → Bool
candidate_meets candidate condition = meets candidate.path.now candidate.port.now candidate.found.now condition

-- a package that is looked at meets all of these conditions
abbrev pub candidate_meets_all : Candidate → List Condition → Bool
candidate_meets_all candidate conditions = list_all (λ condition. candidate_meets candidate (condition_seen condition)) conditions

-- where a function succeeds, it gives this text of a package that is looked at, or of its port
abbrev pub GivesFieldText : {F : Type 0} → Result FieldText F → TextField → Candidate → Type 0
GivesFieldText result field candidate =
    IfOk result (λ text. text_seen text ≡ text_by_field field candidate.path.now candidate.port.now candidate.found.now)
