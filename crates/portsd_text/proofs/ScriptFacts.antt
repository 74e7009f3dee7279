-- What scripts hold.
use Rattle.std.proofs.Common.{◌≡◌, ℕ, zero, suc, ◌+◌, ◌<◌, ◌≤◌, Bool, true, false, ◌==◌, cond, List, [], ◌∷◌, ◌++◌, length, take, drop, map}
use Rattle.std.proofs.Common.{refl, sym, subst, ap, ◌∙◌, arith, Option, Some, None, Result, Ok, Err, append_assoc}
use Rattle.std.specs.List.{zip, slice_split, position, position_or_len, slice_get, HoldsAt}
use Rattle.std.specs.Result.{OnOk, OnErr, IfOk, IfErr}
use Rattle.std.specs.Io.KnownBytes.{Consumes}
use Rattle.std.proofs.KnownBytes.{Consumes-trans}
use Rattle.std.proofs.lemmas.List.Sums.{fails_before_first}
use Rattle.std.proofs.lemmas.List.Splits.{slice_split_first, slice_split_none}
use Rattle.std.proofs.lemmas.Bool.{true≢false}
use Rattle.general_facts.specs.Lists.{slice_split-first}
use Rattle.ports_core.specs.declared.event.Event.{Event}
use Rattle.portsd_text.specs.declared.script.Script.{Script}
use Rattle.portsd_text.specs.declared.script.ScriptFault.{ScriptFault}
use Rattle.portsd_text.specs.declared.script.ScriptFault.TheVariants.{BadEvent, Memory}
use Rattle.portsd_text.specs.Entries.{EventValue, entry_of_event, event_of}
use Rattle.portsd_text.specs.Scripts.{Reading, is_passed_over, put_before, with_event, with_line, events_from, script_of, numbered}
use Rattle.portsd_text.specs.Scripts.{IsFaultOf, HasGiven, HasGivenSome, ReadsScript, FailsToRead}
use Rattle.refusals.specs.Refused.{refused}
use Rattle.portsd_text.proofs.PlaceFacts.{position-none, position-some}

pub zip-push : (lines : List ℕ) (events : List Event) (line : ℕ) (event : Event) → length lines ≡ length events
    → zip (lines ++ line ∷ []) (map entry_of_event (events ++ event ∷ [])) ≡ zip lines (map entry_of_event events) ++
    (line, entry_of_event event) ∷ []
zip-push [] [] line event same = refl
zip-push [] (e ∷ events) line event same = absurd (omega arith)
zip-push (l ∷ lines) [] line event same = absurd (omega arith)
zip-push (l ∷ lines) (e ∷ events) line event same = ap (λ x. (l, entry_of_event e) ∷ x) (zip-push lines events line event (omega arith))

pub put_before-twice : (xs ys : List (ℕ × EventValue)) (later : Reading) → put_before xs (put_before ys later) ≡ put_before (xs ++ ys) later
put_before-twice xs ys (Ok zs) = ap Ok (sym (append_assoc xs ys zs))
put_before-twice xs ys (Err line) = refl

pub IsFaultOf-before : (xs : List (ℕ × EventValue)) (reading : Reading) (fault : ScriptFault) → IsFaultOf reading fault
    → IsFaultOf (put_before xs reading) fault
IsFaultOf-before xs reading (BadEvent line) h = rw h
IsFaultOf-before xs reading (Memory _) h = tt

-- a line with an event
pub with_line-event : (line : ℕ) (text : List ℕ) (event : EventValue) (later : Reading) → is_passed_over text ≡ false
    → event_of text ≡ Some event → with_line line text later ≡ put_before ((line, event) ∷ []) later
with_line-event line text event later other e = rw (other, e)

events_from-cons : (whole : Bool) (line : ℕ) (text : List ℕ) (texts : List (List ℕ)) (first : List ℕ) (others : List (List ℕ))
    → texts ≡ first ∷ others → events_from whole line (text ∷ texts) ≡ with_line line text (events_from whole (line + 1) texts)
unfolding events_from
events_from-cons whole line text texts first others e = rw e

-- a line before others
pub events_from-line : (whole : Bool) (line : ℕ) (text front later : List ℕ) → slice_split (λ byte. byte == 10) text ≡ front ∷ slice_split
    (λ byte. byte == 10) later → events_from whole line (slice_split (λ byte. byte == 10) text) ≡ with_line line front
    (events_from whole (line + 1) (slice_split (λ byte. byte == 10) later))
events_from-line whole line text front later parts =
    let more = slice_split-first (λ byte. byte == 10) later in
    rw parts (events_from-cons whole line front _ more.0 more.1 more.2)

-- a last line of a whole text
pub events_from-end : (whole : Bool) (line : ℕ) (text : List ℕ) → whole ≡ true → slice_split (λ byte. byte == 10) text ≡ text ∷ []
    → events_from whole line (slice_split (λ byte. byte == 10) text) ≡ with_line line text (Ok [])
unfolding events_from
events_from-end whole line text w alone = rw (alone, w)

-- the last line of a text that isn't whole
pub events_from-cut : (whole : Bool) (line : ℕ) (text : List ℕ) → whole ≡ false → slice_split (λ byte. byte == 10) text ≡ text ∷ []
    → events_from whole line (slice_split (λ byte. byte == 10) text) ≡ Err line
unfolding events_from
events_from-cut whole line text w alone = rw (alone, w)

put_before-nil : (reading : Reading) → put_before [] reading ≡ reading
put_before-nil (Ok later) = refl
put_before-nil (Err line) = refl

-- before the first line nothing is read
pub script_of-begins : (lines : List ℕ) (events : List Event) (whole : Bool) (text : List ℕ) → lines ≡ []
    → put_before (zip lines (map entry_of_event events)) (events_from whole 1 (slice_split (λ byte. byte == 10) text)) ≡ script_of whole
    text
unfolding script_of
script_of-begins lines events whole text none = rw none (put_before-nil (events_from whole 1 (slice_split (λ byte. byte == 10) text)))

-- where no element passes before the end
split_none : (text : List ℕ) → length text ≤ position_or_len (λ byte. byte == 10) text → slice_split (λ byte. byte == 10) text ≡ text ∷ []
split_none text h = slice_split_none (λ byte. byte == 10) text (λ k d l. fails_before_first (λ byte. byte == 10) text k d (omega arith))

pub first_line-none : (text : List ℕ) (r : Option ℕ) → r ≡ position (λ byte. byte == 10) text → r ≡ None
    → slice_split (λ byte. byte == 10) text ≡ text ∷ []
first_line-none text r at none = split_none text (position-none (λ byte. byte == 10) text (sym at ∙ none))

pub first_line-some : (text : List ℕ) (r : Option ℕ) (end : ℕ) → r ≡ position (λ byte. byte == 10) text → r ≡ Some end → (end < length text)
    × (slice_split (λ byte. byte == 10) text ≡ take end text ∷ slice_split (λ byte. byte == 10) (drop (end + 1) text))
first_line-some text r end at found =
    let place = position-some (λ byte. byte == 10) text end (sym at ∙ found) in
    (place.0, rw place.1 at (slice_split_first (λ byte. byte == 10) text 0 (omega arith)))

pub OnOk-then : {T E : Type 0} (P Q : Type 0) (r : Result T E) → (P → Q) → OnOk r P → OnOk r Q
OnOk-then P Q (Ok x) f h = f h
OnOk-then P Q (Err e) f h = h

-- the events of a script by their places
pub entry-none_left : (lines : List ℕ) (events : List Event) (i : ℕ) → length lines ≤ i
    → slice_get (zip lines (map entry_of_event events)) i ≡ None
entry-none_left [] events i h = refl
entry-none_left (l ∷ lines) [] i h = refl
entry-none_left (l ∷ lines) (e ∷ events) zero h = absurd (omega arith)
entry-none_left (l ∷ lines) (e ∷ events) (suc i) h = entry-none_left lines events i (omega arith)

pub entry-none_right : (lines : List ℕ) (events : List Event) (i : ℕ) → length events ≤ i
    → slice_get (zip lines (map entry_of_event events)) i ≡ None
entry-none_right [] events i h = refl
entry-none_right (l ∷ lines) [] i h = refl
entry-none_right (l ∷ lines) (e ∷ events) zero h = absurd (omega arith)
entry-none_right (l ∷ lines) (e ∷ events) (suc i) h = entry-none_right lines events i (omega arith)

pub entry-some : (lines : List ℕ) (events : List Event) (i line : ℕ) (event : Event) → i < length lines → i < length events
    → HoldsAt (λ l. line ≡ l) lines i → HoldsAt (λ e. event ≡ e) events i → slice_get (zip lines (map entry_of_event events)) i ≡ Some
    (line, entry_of_event event)
entry-some [] events i line event h k a b = absurd (omega arith)
entry-some (l ∷ lines) [] i line event h k a b = absurd (omega arith)
entry-some (l ∷ lines) (e ∷ events) zero line event h k a b = rw (a l, b e)
entry-some (l ∷ lines) (e ∷ events) (suc i) line event h k a b = entry-some lines events i line event (omega arith) (omega arith) a b

put_before-ok : (xs zs : List (ℕ × EventValue)) (reading : Reading) → put_before xs reading ≡ Ok zs
    → (ys : List (ℕ × EventValue)) × (reading ≡ Ok ys)
put_before-ok xs zs (Ok ys) e = (ys, refl)
put_before-ok xs zs (Err line) e = absurd (cc)

with_event-ok : (line : ℕ) (event : Option EventValue) (later : Reading) (zs : List (ℕ × EventValue)) → with_event line event later ≡ Ok zs
    → (ys : List (ℕ × EventValue)) × (later ≡ Ok ys)
with_event-ok line None later zs e = absurd (cc)
with_event-ok line (Some event) later zs e = put_before-ok ((line, event) ∷ []) zs later e

cond_event-ok : (b : Bool) (line : ℕ) (event : Option EventValue) (later : Reading) (zs : List (ℕ × EventValue))
    → cond b later (with_event line event later) ≡ Ok zs → (ys : List (ℕ × EventValue)) × (later ≡ Ok ys)
cond_event-ok true line event later zs e = (zs, e)
cond_event-ok false line event later zs e = with_event-ok line event later zs e

-- the last line of a text that isn't whole is never read
never_read : (line : ℕ) (first : List ℕ) (others : List (List ℕ)) (zs : List (ℕ × EventValue))
    → events_from false line (first ∷ others) ≡ Ok zs → ⊥
unfolding events_from
never_read line first [] zs e = cc
never_read line first (next ∷ later) zs e =
    let read = cond_event-ok (is_passed_over first) line (event_of first) (events_from false (line + 1) (next ∷ later)) zs e in
    never_read (line + 1) next later read.0 read.1

cut_unread : (text : List ℕ) (zs : List (ℕ × EventValue)) → script_of false text ≡ Ok zs → ⊥
unfolding script_of
cut_unread text zs e =
    let lines = slice_split-first (λ byte. byte == 10) text in
    never_read 1 lines.0 lines.1 zs (rw lines.2 at e)

pub reads : (old new : Option (List ℕ)) (whole : Bool) (text : List ℕ) (r : Result Script ScriptFault) → HasGiven old new whole text
    → IfOk r (λ script. script_of whole text ≡ Ok (numbered script)) → IfOk r (λ script. ReadsScript old new (numbered script))
reads old new true text (Ok script) given read = (text, given, read)
reads old new false text (Ok script) given read = absurd (cut_unread text (numbered script) read)
reads old new whole text (Err fault) given read = tt

-- an input gave some bytes, and there was no memory for more
pub unread_for_memory : {A : Type 0} (old new : Option (List ℕ)) (r : Result A ScriptFault) → IfErr r (λ why. why ≡ Memory refused)
    → HasGivenSome old new → IfErr r (FailsToRead old new)
unread_for_memory old new (Ok x) why given = tt
unread_for_memory old new (Err fault) why given = subst (λ (met : ScriptFault). FailsToRead old new met) (sym why)
    (false, given.0, given.1, tt)

-- an input gave some bytes, and then some more
pub given_some : {A E : Type 0} (r : Result A E) (a b c : Option (List ℕ)) (front more : List ℕ) → Consumes a b front → Consumes b c more
    → OnErr r (HasGivenSome a c)
given_some (Ok x) a b c front more given read = tt
given_some (Err why) a b c front more given read =
    (front ++ more, (Consumes-trans a b c front more given read, λ whole. absurd (true≢false (sym whole))))
