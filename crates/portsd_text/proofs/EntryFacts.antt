-- What a line writes.
use Rattle.std.proofs.Common.{◌≡◌, ℕ, ◌<◌, true, false, ◌==◌, List, [], ◌∷◌, length, arith, Option, None}
use Rattle.std.specs.List.{list_all, position_or_len, before_first, after_first, All}
use Rattle.std.specs.Str.{IsUtf8}
use Rattle.std.proofs.lemmas.Str.{IsUtf8-from_ascii}
use Rattle.std.proofs.lemmas.Str.Ascii.{IsAscii-from_all}
use Rattle.std.proofs.lemmas.Bool.Decides.{nat_tests}
use Rattle.portsd_text.specs.Escapes.{is_printable}
use Rattle.portsd_text.specs.Entries.{EventValue, at_blank, worded, event_of}

printable_small : (bytes : List ℕ) → list_all is_printable bytes ≡ true → All (λ byte. byte < 128) bytes
printable_small [] h = grind (arith, nat_tests)
printable_small (byte ∷ bytes) h = grind (arith, nat_tests, printable_small bytes)

pub printable-IsUtf8 : (bytes : List ℕ) → list_all is_printable bytes ≡ true → IsUtf8 bytes
printable-IsUtf8 bytes h = IsUtf8-from_ascii bytes (IsAscii-from_all bytes (printable_small bytes h))

pub at_blank-none : (read : List ℕ → List ℕ → Option EventValue) (text : List ℕ) → position_or_len (λ byte. byte == 32) text ≡ length text
    → at_blank read text ≡ None
at_blank-none read text h = grind (arith, nat_tests)

pub at_blank-some : (read : List ℕ → List ℕ → Option EventValue) (text word rest : List ℕ) → position_or_len (λ byte. byte == 32) text <
    length text → word ≡ before_first (λ byte. byte == 32) text → rest ≡ after_first (λ byte. byte == 32) text
    → at_blank read text ≡ read word rest
at_blank-some read text word rest h w r = rw (w, r) (grind (arith, nat_tests))

pub event_of-other : (line : List ℕ) → list_all is_printable line ≡ false → event_of line ≡ None
unfolding event_of
event_of-other line h = rw h

pub event_of-printable : (line : List ℕ) → list_all is_printable line ≡ true → event_of line ≡ at_blank worded line
unfolding event_of
event_of-printable line h = rw h
