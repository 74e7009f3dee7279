-- The values of the one package of a port that names none.
use Rattle.std.proofs.Common.{◌≡◌, ◌∙◌, ◌++◌, ap, cond, refl, ℕ, Bool, true, false, List, [], Option, Some, None, is_some, Result, Ok, Err}
use Rattle.std.proofs.Common.{codes, append-nil}
use Rattle.std.specs.Str.{bytes_eq}
use Rattle.mk_base.specs.declared.faults.FaultKind.{FaultKind}
use Rattle.mk_base.specs.Meter.{Meter}
use Rattle.mk_base.specs.Outcome.{Work, after, give, ◌>>=◌}
use Rattle.mk_env.specs.Texts.{Variables, text_in}
use Rattle.mk_env.specs.Expansion.{variable}
use Rattle.port_rules.specs.Values.{ending, or_else, package_value, value, value_or}

-- a value that was found is taken, and no other is asked for
kept : (end : Result (List ℕ × Meter) (FaultKind × Meter)) (other : Work Meter FaultKind (Option (List ℕ)))
    → after (after end (λ text. give (Some text))) (λ found. or_else found other) ≡ after end (λ text. give (Some text))
kept (Ok end) other = refl
kept (Err stop) other = refl

-- what is asked for where it is there, and again if it isn't, gives what it gives the first time
once : (there : Bool) (work : Work Meter FaultKind (List ℕ)) (m : Meter)
    → let asked = cond there (work >>= λ text. give (Some text)) (give None) in
    (asked >>= λ found. or_else found asked) m ≡ asked m
once true work m = kept (work m) _
once false work m = refl

-- a variable in whose place itself is taken gives its value
value-once : (variables : Variables) (name : List ℕ) (m : Meter) → value_or variables name name m ≡ value variables name m
unfolding value_or value
value-once variables name m = once (is_some (text_in variables name)) (variable variables name) m

-- nothing is added to the names of the variables of the package `-`
pub ending-none : (name subpackage : List ℕ) → bytes_eq subpackage (codes "-") ≡ true → name ++ ending subpackage ≡ name
ending-none name subpackage is = ap (λ test. name ++ cond test [] subpackage) is ∙ append-nil name

-- so its value is that of the variable itself
pub package_value-once : (variables : Variables) (name subpackage : List ℕ) (m : Meter) → bytes_eq subpackage (codes "-") ≡ true
    → package_value variables name subpackage m ≡ value variables name m
package_value-once variables name subpackage m is =
    ap (λ own. value_or variables own name m) (ending-none name subpackage is) ∙ value-once variables name m
