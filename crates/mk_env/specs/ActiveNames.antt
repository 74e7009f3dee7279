-- What is expanded in a scope of the code.
use Rattle.std.specs.Prelude.{ℕ, ◌-◌, Bool, List, [], ◌∷◌}
use Rattle.mk_base.specs.Meter.{Meter}
use Rattle.mk_base.specs.Outcome.{Work}
use Rattle.mk_base.specs.declared.faults.FaultKind.{FaultKind}
use Rattle.mk_env.specs.declared.mentions.Mention.{Mention}
use Rattle.mk_env.specs.declared.scope.Active.{Active, Nothing, Name'}
use Rattle.mk_env.specs.declared.scope.ExpansionScope.{ExpansionScope}
use Rattle.mk_env.specs.declared.scope.Undefined.TheVariants as kept
use Rattle.mk_env.specs.Texts.{text_in}
use Rattle.mk_env.specs.Expansion.{Meaning, References, text_meaning, value_meaning, reference, is_kept}
use Rattle.mk_env.specs.Mentions.{lent_text}

-- the names of a chain, the innermost first
abbrev pub names_of : Active → List (List ℕ)
names_of Nothing = []
names_of (Name' name pointer outer) = name.now ∷ names_of outer

-- what references in a scope mean
abbrev pub references_in : ExpansionScope → References
references_in scope = reference scope.undefined scope.levels scope.variables.now (names_of scope.active)

-- what a text in a scope means
abbrev pub meaning_in : ExpansionScope → Meaning
meaning_in scope = text_meaning (references_in scope)

-- what a reference in a scope means
abbrev pub mention_in : ExpansionScope → Mention → Work Meter FaultKind (List ℕ)
mention_in scope mention = references_in scope mention.written.now mention.name.now (lent_text mention.modifiers)

-- what the value of a variable means, in the scope of what is inside a reference to it
abbrev pub expanded_value : ExpansionScope → List ℕ → Work Meter FaultKind (List ℕ)
expanded_value scope name =
    value_meaning (reference kept.Empty scope.levels scope.variables.now (name ∷ names_of scope.active))
    (text_in scope.variables.now name)

-- the scope of what is inside a reference in this scope
abbrev pub scope_inside : ExpansionScope → ExpansionScope
scope_inside scope = record scope { levels = scope.levels - 1; undefined = kept.Empty }

-- whether a reference to the variable of this name is kept as it is written
abbrev pub is_kept_in : ExpansionScope → List ℕ → Bool
is_kept_in scope name = is_kept scope.undefined (text_in scope.variables.now name)
