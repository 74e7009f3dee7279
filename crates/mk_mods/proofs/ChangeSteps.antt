-- The words that are left to change, one word on.
use Rattle.std.proofs.Common.{◌≡◌, ◌≢◌, ℕ, ◌++◌, String, string_bytes, Bool, true, false, cond, List, [], ◌∷◌, map, Option, Some, None}
use Rattle.std.proofs.Common.{refl, sym, ap, ◌∙◌, append_assoc}
use Rattle.std.specs.Prelude.{unwrap_or, ◌↔◌}
use Rattle.std.specs.declared.alloc.Global.{Global}
use Rattle.std.proofs.lemmas.List.Concat.{flat_map-append}
use Rattle.mk_mods.specs.declared.modifiers.Part.{Part}
use Rattle.mk_mods.specs.declared.modifiers.Part.TheVariants as parts
use Rattle.mk_mods.specs.Actions.{Symbol, Byte, symbols_of, AllPlain, Replacement}
use Rattle.mk_mods.specs.Substituted.{text_of, symbol_text, first_changed, each_changed, changed_here, substituted, replaced}

-- what is to come: the words as they are where the only change was made, else the words changed
abbrev pub to_come : Bool → (List (List ℕ) → List (List ℕ)) → List (List ℕ) → List (List ℕ)
to_come done change rest = cond done rest (change rest)

pub come-done : (done : Bool) (change : List (List ℕ) → List (List ℕ)) (word : List ℕ) (rest later : List (List ℕ))
    → done ≡ true → rest ≡ word ∷ later
    → to_come done change rest ≡ word ∷ to_come done change later
come-done done change word rest later is e = rw is e

abbrev pick : Bool → (List ℕ → Option (List ℕ)) → List (List ℕ) → List (List ℕ)
pick once f words = cond once (first_changed f words) (each_changed f words)

pick-none : (once : Bool) (f : List ℕ → Option (List ℕ)) (word : List ℕ) (later : List (List ℕ)) → f word ≡ None
    → pick once f (word ∷ later) ≡ word ∷ pick once f later
pick-none true f word later e = ap (changed_here word later (first_changed f later)) e
pick-none false f word later e = ap (λ o. unwrap_or o word ∷ each_changed f later) e

pick-some : (once : Bool) (f : List ℕ → Option (List ℕ)) (word text : List ℕ) (later : List (List ℕ)) → f word ≡ Some text
    → pick once f (word ∷ later) ≡ text ∷ to_come once (pick once f) later
pick-some true f word text later e = ap (changed_here word later (first_changed f later)) e
pick-some false f word text later e = ap (λ o. unwrap_or o word ∷ each_changed f later) e

pub come-none : (s : Replacement) (old new word : List ℕ) (done : Bool) (rest later : List (List ℕ)) → done ≡ false → rest ≡ word ∷ later
    → replaced s old new word ≡ None → to_come done (substituted s old new) rest ≡ word ∷ to_come done (substituted s old new) later
come-none s old new word done rest later is e none = rw (is, e) (pick-none s.once (replaced s old new) word later none)

pub come-some : (s : Replacement) (old new word text : List ℕ) (done : Bool) (rest later : List (List ℕ))
    → done ≡ false → rest ≡ word ∷ later
    → replaced s old new word ≡ Some text → to_come done (substituted s old new) rest ≡ text ∷ to_come s.once (substituted s old new) later
come-some s old new word text done rest later is e some = rw (is, e) (pick-some s.once (replaced s old new) word text later some)

-- a text of bytes means itself
pub text_of-bytes : (old bytes : List ℕ) → text_of old (map Byte bytes) ≡ bytes
text_of-bytes old [] = refl
text_of-bytes old (b ∷ bytes) = ap (λ l. b ∷ l) (text_of-bytes old bytes)

-- one more part
pub text_of-part : (old made part : List ℕ) (symbols later : List Symbol) → text_of old symbols ≡ part
    → made ++ text_of old (symbols ++ later) ≡ (made ++ part) ++ text_of old later
text_of-part old made part symbols later e =
    ap (λ l. made ++ l) (flat_map-append (symbol_text old) symbols later ∙ ap (λ l. l ++ text_of old later) e)
    ∙ sym (append_assoc made part (text_of old later))

pub AllPlain-right : (xs ys : List Symbol) → AllPlain (xs ++ ys) → AllPlain ys
AllPlain-right [] ys all = all
AllPlain-right (x ∷ xs) ys all = AllPlain-right xs ys all.1

AllPlain-append : (xs ys : List Symbol) → AllPlain xs → AllPlain ys → AllPlain (xs ++ ys)
AllPlain-append [] ys all more = more
AllPlain-append (x ∷ xs) ys all more = (all.0, AllPlain-append xs ys all.1 more)

AllPlain-bytes : (bytes : List ℕ) → AllPlain (map Byte bytes)
AllPlain-bytes [] = tt
AllPlain-bytes (b ∷ bytes) = (tt, AllPlain-bytes bytes)

AllPlain-part : (part : Part) → ((source : String Global) → part ≢ parts.Reference source) → AllPlain (symbols_of part)
AllPlain-part (parts.Text text) plain = AllPlain-bytes (string_bytes text)
AllPlain-part parts.Whole plain = (tt, tt)
AllPlain-part (parts.Reference source) plain = absurd (plain source refl)

-- a part that is no reference, before others
pub AllPlain-more : (part : Part) (whole later : List Symbol) → ((source : String Global) → part ≢ parts.Reference source)
    → AllPlain whole ↔ AllPlain (symbols_of part ++ later)
    → AllPlain whole ↔ AllPlain later
AllPlain-more part whole later plain so_far = (
  λ all. AllPlain-right (symbols_of part) later (so_far.0 all),
  λ more. so_far.1
      (AllPlain-append (symbols_of part) later (AllPlain-part part plain) more),
)
