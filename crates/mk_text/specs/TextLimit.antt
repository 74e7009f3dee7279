-- The limit of a text, which is this project's choice.
use Rattle.std.specs.Prelude.{◌<◌, ℕ, List, length}
use Rattle.mk_text.specs.declared.limits.TheConstants.{TEXT_LIMIT}
use Rattle.mk_text.specs.declared.limits.TextFault.{TextFault}
use Rattle.mk_text.specs.declared.limits.TextFault.TheVariants as faults

-- why a text wasn't made: it would be too long, or memory ran out, which says nothing about the text
abbrev pub IsTooLong : List ℕ → TextFault → Type 0
IsTooLong whole faults.Length = TEXT_LIMIT < length whole
IsTooLong whole (faults.Memory _) = Unit {0}
