-- What is read before bytes, step by step, and what written bytes are read as.
use Rattle.std.proofs.Common.{◌≡◌, ℕ, ◌^◌, ◌<◌, false, ltb, List, [], ◌∷◌, ◌++◌, length, Option, Some, None, refl, sym, ap, ◌∙◌}
use Rattle.std.proofs.Common.{append_assoc, arith, IsUtf8}
use Rattle.std.specs.Int.{Width, w64, byte_len, from_le_bytes, to_le_bytes}
use Rattle.std.proofs.lemmas.Bool.{le-ltb}
use Rattle.std.proofs.lemmas.List.{take_at, drop_at, length-append, append-nil}
use Rattle.std.proofs.lemmas.Nat.{from_le_bytes-to_le_bytes_8}
use Rattle.std.proofs.lemmas.Str.{is_utf8-from_IsUtf8}
use Rattle.general_facts.specs.Texts.{is_utf8-not}
use Rattle.index_row.specs.Reads.{Read, give, read_after, give_if_some, ◌>>=◌, byte, stretch, number, utf8_text, text}
use Rattle.index_row.specs.Answers.{Adds}

-- ---- adding bytes

-- where nothing is written, nothing is read
pub Adds-give : {A : Type 0} (x : A) (old new : List ℕ) → new ≡ old → Adds (give x) old new x
Adds-give x old new same = record { added = []; are_added = same ∙ sym (append-nil old); are_read = λ rest. refl }

-- one thing, and then another
pub Adds-then : {A B : Type 0} (read : Read A) (next : A → Read B) (old mid new : List ℕ) (x : A) (y : B)
    → Adds read old mid x → Adds (next x) mid new y → Adds (read >>= next) old new y
Adds-then read next old mid new x y one more = record {
  added = one.added ++ more.added;
  are_added = more.are_added ∙ ap (λ (t : List ℕ). t ++ more.added) one.are_added ∙ append_assoc old one.added more.added;
  are_read = λ rest.
      ap (read >>= next) (append_assoc one.added more.added rest)
      ∙ ap (λ found. read_after found next) (one.are_read (more.added ++ rest))
      ∙ more.are_read rest;
}

-- one thing, and then a value that it gives
pub Adds-last : {A B : Type 0} (read : Read A) (made : A → B) (old new : List ℕ) (x : A)
    → Adds read old new x → Adds (read >>= λ found. give (made found)) old new (made x)
Adds-last read made old new x one = Adds-then read (λ found. give (made found)) old new new x (made x) one (Adds-give (made x) new new refl)

-- ---- bytes and numbers

pub Adds-byte : (old new : List ℕ) (value : ℕ) → new ≡ old ++ value ∷ [] → Adds byte old new value
unfolding byte
Adds-byte old new value more = record { added = value ∷ []; are_added = more; are_read = λ rest. refl }

pub stretch-front : (front rest : List ℕ) (count : ℕ) → length front ≡ count → stretch count (front ++ rest) ≡ Some (front, rest)
unfolding stretch
stretch-front front rest count is =
    let long : ltb (length (front ++ rest)) count ≡ false = le-ltb _ _ (omega (arith, length-append front rest)) in
    rw (long, take_at front rest count is, drop_at front rest count is) refl

pub Adds-stretch : (old new front : List ℕ) → new ≡ old ++ front → Adds (stretch (length front)) old new front
Adds-stretch old new front more = record {
  added = front;
  are_added = more;
  are_read = λ rest. stretch-front front
      rest (length front) refl;
}

number-front : (width : Width) (n : ℕ) (rest : List ℕ) → length (to_le_bytes width n) ≡ byte_len width
    → from_le_bytes width (to_le_bytes width n) ≡ n
    → number width (to_le_bytes width n ++ rest) ≡ Some (n, rest)
unfolding number
number-front width n rest long same =
    ap (λ found. read_after found (λ digits. give (from_le_bytes width digits)))
    (stretch-front (to_le_bytes width n) rest (byte_len width) long)
    ∙ ap (λ (value : ℕ). Some (value, rest)) same

pub Adds-number : (old new : List ℕ) (n : ℕ) → n < 2 ^ 64 → new ≡ old ++ to_le_bytes w64 n → Adds (number w64) old new n
Adds-number old new n low more = record {
  added = to_le_bytes w64 n;
  are_added = more;
  are_read = λ rest. number-front w64 n rest refl (from_le_bytes-to_le_bytes_8 n low);
}

-- ---- texts

pub utf8_text-good : (found bytes : List ℕ) → IsUtf8 found → utf8_text found bytes ≡ Some (found, bytes)
unfolding utf8_text
utf8_text-good found bytes good = rw (is_utf8-from_IsUtf8 found good) refl

pub utf8_text-bad : (found bytes : List ℕ) → ¬ (IsUtf8 found) → utf8_text found bytes ≡ None
unfolding utf8_text
utf8_text-bad found bytes bad = rw (is_utf8-not found bad) refl

-- a text by its length, its bytes and the test of these
pub text-by : (bytes rest left found : List ℕ) (count : ℕ) (read : Option (List ℕ × List ℕ)) → number w64 bytes ≡ Some (count, rest)
    → stretch count rest ≡ Some (found, left) → utf8_text found left ≡ read → text bytes ≡ read
unfolding text
text-by bytes rest left found count read counted cut tested =
    ap (λ one. read_after one (λ n. stretch n >>= λ found. utf8_text found)) counted
    ∙ ap (λ two. read_after two (λ found. utf8_text found)) cut
    ∙ tested

pub Adds-text : (old mid new written : List ℕ) → IsUtf8 written → Adds (number w64) old mid (length written) → new ≡ mid ++ written
    → Adds text old new written
unfolding text
Adds-text old mid new written good counted more =
    Adds-then (number w64) (λ count. stretch count >>= λ found. utf8_text found) old mid new (length written) written counted
    (Adds-then (stretch (length written)) (λ found. utf8_text found) mid new new written written (Adds-stretch mid new written more)
    (record { added = []; are_added = sym (append-nil new); are_read = λ rest. utf8_text-good written rest good }))

-- a value that is there is read
pub Adds-value_in : {A : Type 0} (found : Option A) (x : A) (old : List ℕ) → found ≡ Some x → Adds (give_if_some found) old old x
Adds-value_in found x old is = record { added = []; are_added = sym (append-nil old); are_read = λ rest. ap (λ o. give_if_some o rest) is }
