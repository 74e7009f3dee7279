-- Texts within the limit.
use Rattle.std.proofs.Common.{◌≡◌, ℕ, ◌<◌, ◌≤◌, leb, List, [], length, Option, Some, None, Result, Ok, Err, IfOk, IfErr, String}
use Rattle.std.proofs.Common.{string_bytes, sym, ap, ◌∙◌}
use Rattle.std.specs.Option.{option_and_then, option_map}
use Rattle.std.specs.declared.alloc.Global.{Global}
use Rattle.std.proofs.lemmas.Bool.{cond-true, cond-false, le-leb, lt-leb}
use Rattle.mk_text.specs.declared.limits.TheConstants.{TEXT_LIMIT}
use Rattle.mk_text.specs.declared.limits.TextFault.{TextFault}
use Rattle.mk_text.specs.declared.limits.TextFault.TheVariants as faults
use Rattle.mk_mods.specs.Joined.{joined, within_limit, IsMadeText, IsUnmade}
use Rattle.mk_text.specs.TextLimit.{IsTooLong}
use Rattle.mk_mods.specs.Actions.{Replacement}
use Rattle.mk_mods.specs.Substituted.{text_of, substituted}
use Rattle.mk_mods.specs.Applied.{words_substituted}

within-small : (text : List ℕ) → length text ≤ TEXT_LIMIT → within_limit text ≡ Some text
within-small text small = cond-true (leb (length text) TEXT_LIMIT) (Some text) None (le-leb (length text) TEXT_LIMIT small)

within-long : (text : List ℕ) → TEXT_LIMIT < length text → within_limit text ≡ None
within-long text long = cond-false (leb (length text) TEXT_LIMIT) (Some text) None (lt-leb (length text) TEXT_LIMIT long)

pub within-made : (text : List ℕ) (made : String Global) → IsMadeText text made → within_limit text ≡ Some (string_bytes made)
within-made text made is = within-small text is.0 ∙ ap Some (sym is.1)

pub within-unmade : (text : List ℕ) (fault : TextFault) → IsTooLong text fault → IsUnmade (within_limit text) fault
within-unmade text faults.Length long = within-long text long
within-unmade text (faults.Memory _) long = tt

pub ok-within : (r : Result (String Global) TextFault) (text : List ℕ) → IfOk r (IsMadeText text)
    → IfOk r (λ made. within_limit text ≡ Some (string_bytes made))
ok-within (Ok made) text is = within-made text made is
ok-within (Err fault) text is = tt

pub err-within : (r : Result (String Global) TextFault) (text : List ℕ) → IfErr r (IsTooLong text) → IfErr r (IsUnmade (within_limit text))
err-within (Ok made) text long = tt
err-within (Err fault) text long = within-unmade text fault long

-- a substitution by texts that were made
pub substituted-by : (s : Replacement) (words : List (List ℕ)) (old new : List ℕ) → within_limit (text_of [] s.old) ≡ Some old
    → within_limit (text_of old s.new) ≡ Some new
    → option_and_then (λ changed. within_limit (joined changed)) (words_substituted s words) ≡ within_limit
    (joined (substituted s old new words))
substituted-by s words old new is_old is_new =
    let after : Option (List (List ℕ)) → Option (List ℕ) = option_and_then (λ changed. within_limit (joined changed)) in
    ap (λ o. after (option_and_then (λ old. option_map (λ new. substituted s old new words) (within_limit (text_of old s.new))) o)) is_old
    ∙ ap (λ o. after (option_map (λ new. substituted s old new words) o)) is_new

pub substituted-unmade : (s : Replacement) (words : List (List ℕ)) (old : List ℕ) (fault : TextFault)
    → within_limit (text_of [] s.old) ≡ Some old → IsTooLong (text_of old s.new) fault
    → IsUnmade (option_and_then (λ changed. within_limit (joined changed)) (words_substituted s words)) fault
substituted-unmade s words old faults.Length is_old long =
    let after : Option (List (List ℕ)) → Option (List ℕ) = option_and_then (λ changed. within_limit (joined changed)) in
    ap (λ o. after (option_and_then (λ old. option_map (λ new. substituted s old new words) (within_limit (text_of old s.new))) o)) is_old
    ∙ ap (λ o. after (option_map (λ new. substituted s old new words) o)) (within-long (text_of old s.new) long)
substituted-unmade s words old (faults.Memory _) is_old long = tt
