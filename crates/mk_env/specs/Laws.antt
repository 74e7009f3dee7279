-- What holds of every expansion.
use Rattle.std.specs.Prelude.{◌≡◌, ℕ, List}
use Rattle.mk_base.specs.Meter.{Meter}
use Rattle.mk_mods.specs.Actions.{Substitute, Replacement, AllPlain}
use Rattle.mk_mods.specs.Applied.{applied}
use Rattle.mk_env.specs.Expansion.{References, modified, made}

-- A substitution without references means what it makes of the value by itself, whatever references mean. It
-- costs nothing.
abbrev pub PlainSubstitutionIsApplied : Type 0
PlainSubstitutionIsApplied =
    (references : References) (value : List ℕ) (s : Replacement) (m : Meter) → AllPlain s.old → AllPlain s.new
    → modified references value (Substitute s) m ≡ made (applied (Substitute s) value) m
