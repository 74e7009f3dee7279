-- What clap reads of the command line.
use Rattle.std.proofs.Common.{◌≡◌, ◌∙◌, ◌<◌, ◌^◌, ◌&&◌, ℕ, suc, Bool, not, true, false, List, [], Option, Some, None, Result, Ok, Err, refl}
use Rattle.std.proofs.Common.{sym, ap, arith}
use Rattle.std.specs.Prelude.{if◌then◌else◌, option_map, option_and_then, unwrap_or}
use Rattle.std.specs.Str.Parse.{ParsesUnsigned}
use Rattle.clap.specs.Matches.{ReadsOne}
use Rattle.clap.specs.Words.{Row, Text, is_simple}
use Rattle.clap.specs.Faults.{is_simple_and_free}
use Rattle.clap.specs.declared.builder.value_parser.ValueParser.TheVariants as parser
use Rattle.clap.proofs.OnLiterals.{clap_on_literals}
use Rattle.clap.proofs.ValueTestLemmas.{accepts-Accepts, Accepts-accepts}
use Rattle.portsd_run.specs.CommandLine.{number_up_to, portsd}

pub portsd_is_simple : is_simple portsd ≡ true
unfolding clap_on_literals
portsd_is_simple = refl

pub portsd_is_free : is_simple_and_free portsd ≡ true
unfolding clap_on_literals
portsd_is_free = refl

chosen : (b : Bool) (n : ℕ) → b ≡ true → (if b then Some n else None) ≡ Some n
chosen true n e = refl
chosen false n e = cc

passed_over : (b : Bool) (n : ℕ) → (b ≡ true → ⊥) → (if b then Some n else None) ≡ None
passed_over true n refused = absurd (refused refl)
passed_over false n refused = refl

-- the numbers of so many bits are those up to this one
abbrev pub AreUpTo : ℕ → ℕ → Type 0
AreUpTo bits greatest = (2 ^ bits ≡ suc greatest) × (greatest < 2 ^ 64)

number_read : (E : Type 0) (bits greatest : ℕ) (text : Text) (n : ℕ) → AreUpTo bits greatest → ParsesUnsigned {E = E} bits 10 text (Ok n)
    → number_up_to greatest text ≡ Some n
number_read E bits greatest text n width h =
    chosen _ _ (Accepts-accepts false (parser.Unsigned 0 greatest) text (
      h.0.0,
      omega (arith, h.0.1, width.0, width.1),
      omega arith,
      omega (arith, h.0.1, width.0),
    )) ∙ ap Some (sym h.1)

number_unread : {E : Type 0} (bits greatest : ℕ) (text : Text) (e : E) → AreUpTo bits greatest → ParsesUnsigned bits 10 text (Err e)
    → number_up_to greatest text ≡ None
number_unread bits greatest text e width h = passed_over _ _ (λ passes.
    let accepted = accepts-Accepts false (parser.Unsigned 0 greatest) text passes in
    h (accepted.0, omega (arith, accepted.3, width.0)))

-- what `get_one` reads is the number of the text
pub number_given : (E : Type 0) (G : List ℕ → Result ℕ E → Type 0) (bits greatest : ℕ) (text : Option Text) (r : Option ℕ) (default : ℕ)
    → AreUpTo bits greatest → ((u : List ℕ) (x : Result ℕ E) → G u x → ParsesUnsigned bits 10 u x) → (text ≡ None → r ≡ None)
    → ((t : Text) → text ≡ Some t → ReadsOne G t r) → unwrap_or r default ≡ unwrap_or (option_and_then (number_up_to greatest) text) default
number_given E G bits greatest None r default width only none value = ap (λ o. unwrap_or o default) (none refl)
number_given E G bits greatest (Some t) r default width only none value = go r (value t refl)
  where
    go : (o : Option ℕ) → ReadsOne G t o → unwrap_or o default ≡ unwrap_or (number_up_to greatest t) default
    go (Some n) h = ap (λ o. unwrap_or o default) (sym (number_read E bits greatest t n width (only t (Ok n) h)))
    go None h = ap (λ o. unwrap_or o default) (sym (number_unread bits greatest t h.0 width (only t (Err h.0) h.1)))

-- what is made of a value or of what takes its place
pub made_or : {X Y : Type 0} (f : X → Y) (o : Option X) (d : X) (y : Y) (made : Option Y) → option_map f o ≡ made → f d ≡ y
    → f (unwrap_or o d) ≡ unwrap_or made y
made_or f None d y made is h = h ∙ ap (λ m. unwrap_or m y) is
made_or f (Some x) d y made is h = ap (λ m. unwrap_or m y) is

-- a subcommand that was met, with its name and what is given to it
pub is_met : {X : Type 0} (name : X → Text) (rows : X → List Row) (met : Option X) (named : Text) (given : List Row)
    → option_map name met ≡ Some named → option_map (λ (p : Text × List Row). p.1) (option_map {U = Text × List Row} (λ x. (name x, rows x))
    met) ≡ Some given → option_map {U = Text × List Row} (λ x. (name x, rows x)) met ≡ Some (named, given)
is_met name rows None named given is are = cc
is_met name rows (Some x) named given is are =
    let is_name : name x ≡ named = ap (λ o. unwrap_or o []) is in
    let is_given : rows x ≡ given = ap (λ o. unwrap_or o []) are in
    rw (is_name, is_given) refl

-- none was met
pub is_unmet : {X : Type 0} (name : X → Text) (rows : X → List Row) (met : Option X) → option_map name met ≡ None
    → option_map {U = Text × List Row} (λ x. (name x, rows x)) met ≡ None
is_unmet name rows None is = refl
is_unmet name rows (Some x) is = cc

-- the third of some facts, where they all hold
pub third_is_false : (a b c d : Bool) → (a && (not b && (not c && d))) ≡ true → c ≡ false
third_is_false true false false d h = refl
third_is_false true false true d h = cc
third_is_false true true c d h = cc
third_is_false false b c d h = cc
