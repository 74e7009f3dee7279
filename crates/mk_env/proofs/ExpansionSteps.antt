-- What texts mean, step by step.
use Rattle.std.proofs.Common.{◌≡◌, ◌≢◌, ◌<◌, ◌≤◌, ◌-◌, ◌⊎◌, ℕ, suc, zero, false, if◌then◌else◌, List, [], ◌∷◌, ◌++◌, length, map, Result}
use Rattle.std.proofs.Common.{Ok, Err, IfOk, IfErr, Option, refl, sym, ap, ◌∙◌, arith, append_assoc, append-nil, length-append, inl, inr}
use Rattle.std.specs.Prelude.{◌==◌}
use Rattle.std.specs.List.{list_any}
use Rattle.std.proofs.lemmas.Bool.{lt-ltb, le-ltb, cases_lt}
use Rattle.mk_base.specs.declared.stops.PureStop.{PureStop}
use Rattle.mk_base.specs.declared.stops.PureStop.TheVariants as pure
use Rattle.mk_base.specs.declared.faults.FaultKind.{FaultKind}
use Rattle.mk_base.specs.declared.faults.FaultKind.TheVariants as kinds
use Rattle.mk_base.specs.Meter.{Meter, pay}
use Rattle.mk_base.specs.Outcome.{after, each, give, fail}
use Rattle.mk_base.specs.Stops.{StopsPurelyAt, GivesPurely}
use Rattle.mk_ref.specs.Atoms.{atoms_of, left_of}
use Rattle.mk_ref.specs.Atoms.{Byte as TextByte}
use Rattle.mk_ref.proofs.PlainTexts.{cut-plain}
use Rattle.mk_ref.specs.Pieces.{TextPiece, LiteralPiece, with_byte, pieces_of}
use Rattle.mk_text.specs.declared.limits.TheConstants.{TEXT_LIMIT}
use Rattle.mk_mods.specs.Actions.{Symbol, Byte}
use Rattle.mk_env.specs.declared.scope.Undefined.{Undefined}
use Rattle.mk_env.specs.declared.scope.Undefined.TheVariants as kept
use Rattle.mk_env.specs.Texts.{Variables}
use Rattle.mk_env.specs.Expansion.{References, bounded, join_piece, where_whole, text_meaning, symbol_meaning, join_symbol, by_name}
use Rattle.mk_env.specs.Expansion.{enter_reference, reference}
use Rattle.mk_env.specs.Refusals.{IsUncut, IsTooLong}
use Rattle.mk_env.proofs.Walks.{each-nothing, each-one}

-- a text with these pieces means what they mean, joined
pub text_meaning-pieces : (references : References) (text : List ℕ) (found : List TextPiece) (m : Meter) → left_of text ≡ []
    → found ≡ pieces_of (atoms_of text)
    → text_meaning references text m ≡ each (join_piece references) [] found m
unfolding text_meaning
text_meaning-pieces references text found m whole is =
    ap (λ left. where_whole references left (pieces_of (atoms_of text)) m) whole
    ∙ ap (λ pieces. each (join_piece references) [] pieces m) (sym is)

left-over : (references : References) (left : List ℕ) (pieces : List TextPiece) (m : Meter) → left ≢ [] → where_whole references left pieces
    m ≡ Err (kinds.Reference, m)
left-over references [] pieces m some = absurd (some refl)
left-over references (b ∷ left) pieces m some = refl

text_meaning-unclosed : (references : References) (text : List ℕ) (m : Meter) → left_of text ≢ []
    → text_meaning references text m ≡ Err (kinds.Reference, m)
unfolding text_meaning
text_meaning-unclosed references text m some = left-over references (left_of text) (pieces_of (atoms_of text)) m some

-- a text that isn't cut stops there
pub text_meaning-uncut : (references : References) (text : List ℕ) (stop : PureStop FaultKind) (m : Meter) → IsUncut text stop
    → StopsPurelyAt stop m (text_meaning references text m)
text_meaning-uncut references text (pure.Fault kind) m uncut =
    text_meaning-unclosed references text m uncut.1 ∙ ap (λ found. Err (found, m)) (sym uncut.0)
text_meaning-uncut references text (pure.Memory _) m uncut = tt

pub bounded-small : (text : List ℕ) (m : Meter) → length text ≤ TEXT_LIMIT → bounded text m ≡ Ok (text, m)
bounded-small text m small = ap (λ test. if test then fail kinds.Length m else give text m) (le-ltb TEXT_LIMIT (length text) small)

pub bounded-long : (text : List ℕ) (m : Meter) → TEXT_LIMIT < length text → bounded text m ≡ Err (kinds.Length, m)
bounded-long text m long = ap (λ test. if test then fail kinds.Length m else give text m) (lt-ltb TEXT_LIMIT (length text) long)

longer : (text : List ℕ) (b : ℕ) (bytes : List ℕ) → TEXT_LIMIT < length (text ++ b ∷ []) → TEXT_LIMIT < length (text ++ b ∷ bytes)
longer text b bytes long = omega (arith, long, length-append text (b ∷ []), length-append text (b ∷ bytes))

join-byte : (references : References) (old text : List ℕ) (b : ℕ) (bytes : List ℕ) (m : Meter)
    → ((more : List ℕ) → length more ≤ TEXT_LIMIT → each (join_symbol references old) more (map Byte bytes) m ≡ bounded (more ++ bytes) m)
    → (TEXT_LIMIT < length (text ++ b ∷ [])) ⊎ (length (text ++ b ∷ []) ≤ TEXT_LIMIT)
    → after (bounded (text ++ b ∷ []) m) (λ next. each (join_symbol references old) next (map Byte bytes)) ≡ bounded (text ++ b ∷ bytes) m
join-byte references old text b bytes m goes (inl long) =
    ap (λ end. after end (λ next. each (join_symbol references old) next (map Byte bytes))) (bounded-long (text ++ b ∷ []) m long)
    ∙ sym (bounded-long (text ++ b ∷ bytes) m (longer text b bytes long))
join-byte references old text b bytes m goes (inr small) =
    ap (λ end. after end (λ next. each (join_symbol references old) next (map Byte bytes))) (bounded-small (text ++ b ∷ []) m small)
    ∙ goes (text ++ b ∷ []) small ∙ ap (λ l. bounded l m) (append_assoc text (b ∷ []) bytes)

-- bytes as symbols mean themselves, all together
pub join-bytes : (references : References) (old text bytes : List ℕ) (m : Meter) → length text ≤ TEXT_LIMIT
    → each (join_symbol references old) text (map Byte bytes) m ≡ bounded (text ++ bytes) m
unfolding each
join-bytes references old text [] m small = sym (ap (λ l. bounded l m) (append-nil text) ∙ bounded-small text m small)
join-bytes references old text (b ∷ bytes) m small =
    join-byte references old text b bytes m (λ more fits. join-bytes references old more bytes m fits)
    (cases_lt TEXT_LIMIT (length (text ++ b ∷ [])))

first-name : (undefined_gives : Undefined) (levels : ℕ) (variables : Variables) (active : List (List ℕ)) (written name : List ℕ)
    (modifiers : Option (List ℕ))
    (m m' : Meter) (unit : Unit {0}) → pay m ≡ Ok (unit, m')
    → reference undefined_gives (suc levels) variables active written name modifiers m
    ≡ after (text_meaning (reference kept.Empty levels variables active) name m')
    (by_name undefined_gives (reference kept.Empty levels variables) variables active written modifiers)
unfolding reference
first-name undefined_gives levels variables active written name modifiers m m' unit paid =
    ap (λ end. after end (λ _ m''. after (text_meaning (reference kept.Empty levels variables active) name m'')
    (by_name undefined_gives (reference kept.Empty levels variables) variables active written modifiers))) paid

-- a reference that is paid for means what follows the meaning of its name
pub reference-name : (undefined_gives : Undefined) (levels : ℕ) (variables : Variables) (active : List (List ℕ)) (written name : List ℕ)
    (modifiers : Option (List ℕ))
    (m m' : Meter) (unit : Unit {0}) → levels ≢ 0 → enter_reference levels m ≡ Ok (unit, m')
    → reference undefined_gives levels variables active written name modifiers m
    ≡ after (text_meaning (reference kept.Empty (levels - 1) variables active) name m')
    (by_name undefined_gives (reference kept.Empty (levels - 1) variables) variables active written modifiers)
unfolding enter_reference
reference-name undefined_gives zero variables active written name modifiers m m' unit some paid = absurd (some refl)
reference-name undefined_gives (suc levels) variables active written name modifiers m m' unit some paid =
    first-name undefined_gives levels variables active written name modifiers m m' unit paid
    ∙ (let same : suc levels - 1 ≡ levels = omega arith in rw same refl)

abbrev with-text : Result (Unit {0} × Meter) (FaultKind × Meter) → Result (List ℕ × Meter) (FaultKind × Meter)
with-text (Ok end) = Ok ([], end.1)
with-text (Err stop) = Err stop

abbrev deep-unit : Result (Unit {0} × Meter) (FaultKind × Meter) → Result (Unit {0} × Meter) (FaultKind × Meter)
deep-unit paid = after paid (λ _. fail kinds.Depth)

abbrev deep-text : Result (Unit {0} × Meter) (FaultKind × Meter) → Result (List ℕ × Meter) (FaultKind × Meter)
deep-text paid = after paid (λ _. fail kinds.Depth)

too-deep : (paid : Result (Unit {0} × Meter) (FaultKind × Meter)) → deep-text paid ≡ with-text (deep-unit paid)
too-deep (Ok end) = refl
too-deep (Err stop) = refl

-- a reference that isn't paid for, or is too deep, stops there
pub reference-unbegun : (undefined_gives : Undefined) (levels : ℕ) (variables : Variables) (active : List (List ℕ)) (written name : List ℕ)
    (modifiers : Option (List ℕ))
    (m : Meter) (stop : FaultKind × Meter) → enter_reference levels m ≡ Err stop → reference undefined_gives levels variables active written
    name modifiers m ≡ Err stop
unfolding enter_reference reference
reference-unbegun undefined_gives zero variables active written name modifiers m stop stops = too-deep (pay m) ∙ ap with-text stops
reference-unbegun undefined_gives (suc levels) variables active written name modifiers m stop stops =
    ap (λ end. after end (λ _ m'. after (text_meaning (reference kept.Empty levels variables active) name m')
    (by_name undefined_gives (reference kept.Empty levels variables) variables active written modifiers))) stops

stops-long : (text : List ℕ) (m : Meter) (stop : PureStop FaultKind) (outcome : Result (List ℕ × Meter) (FaultKind × Meter))
    → IsTooLong text stop → outcome ≡ bounded text m → StopsPurelyAt stop m outcome
stops-long text m (pure.Fault kind) outcome long is = is ∙ bounded-long text m long.1 ∙ ap (λ found. Err (found, m)) (sym long.0)
stops-long text m (pure.Memory _) outcome long is = tt

-- a text that was added, or was too long, was joined on
pub Gives-joined : (result : Result (Unit {0}) (PureStop FaultKind)) (whole made : List ℕ) (m : Meter)
    (outcome : Result (List ℕ × Meter) (FaultKind × Meter))
    → IfOk result (λ _. (length whole ≤ TEXT_LIMIT) × (made ≡ whole)) → IfErr result (IsTooLong whole) → outcome ≡ bounded whole m
    → GivesPurely (λ _. made) result m outcome
Gives-joined (Ok unit) whole made m outcome ok err is = is ∙ bounded-small whole m ok.0 ∙ ap (λ text. Ok (text, m)) (sym ok.1)
Gives-joined (Err stop) whole made m outcome ok err is = stops-long whole m stop outcome err is

-- a symbol alone is joined on, once its meaning is known
pub join-found : (references : References) (old text found : List ℕ) (symbol : Symbol) (m m' : Meter)
    → symbol_meaning references old symbol m ≡ Ok (found, m')
    → each (join_symbol references old) text (symbol ∷ []) m ≡ bounded (text ++ found) m'
join-found references old text found symbol m m' value =
    each-one (join_symbol references old) text symbol m ∙ ap (λ end. after end (λ more. bounded (text ++ more))) value

pub join-stops : (references : References) (old text : List ℕ) (symbol : Symbol) (m : Meter) (stop : FaultKind × Meter)
    → symbol_meaning references old symbol m ≡ Err stop
    → each (join_symbol references old) text (symbol ∷ []) m ≡ Err stop
join-stops references old text symbol m stop stops =
    each-one (join_symbol references old) text symbol m ∙ ap (λ end. after end (λ more. bounded (text ++ more))) stops

plain-pieces : (b : ℕ) (rest : List ℕ) → pieces_of (map TextByte (b ∷ rest)) ≡ LiteralPiece (b ∷ rest) ∷ []
plain-pieces b [] = refl
plain-pieces b (c ∷ rest) = ap (with_byte b) (plain-pieces c rest)

plain-joined : (references : References) (text : List ℕ) (m : Meter)
    → where_whole references [] (pieces_of (map TextByte text)) m ≡ bounded text m
plain-joined references [] m = each-nothing (join_piece references) [] m ∙ sym (bounded-small [] m (omega arith))
plain-joined references (b ∷ rest) m =
    ap (λ pieces. each (join_piece references) [] pieces m) (plain-pieces b rest) ∙ each-one (join_piece references) []
    (LiteralPiece (b ∷ rest)) m

-- a text without a dollar means itself
pub text_meaning-plain : (references : References) (text : List ℕ) (m : Meter) → list_any (λ b. b == 36) text ≡ false
    → text_meaning references text m ≡ bounded text m
unfolding text_meaning
text_meaning-plain references text m none =
    ap (λ parts. where_whole references parts.1 (pieces_of parts.0) m) (cut-plain text none) ∙ plain-joined references text m

pub text_meaning-small : (references : References) (text : List ℕ) (m : Meter) → list_any (λ b. b == 36) text ≡ false
    → length text ≤ TEXT_LIMIT → text_meaning references text m ≡ Ok (text, m)
text_meaning-small references text m none small = text_meaning-plain references text m none ∙ bounded-small text m small
