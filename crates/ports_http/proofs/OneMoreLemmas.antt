-- Heads that begin with as many field lines as they may have.
use Rattle.std.proofs.Common.{◌≡◌, ◌≢◌, ℕ, ◌+◌, ◌-◌, ◌<◌, ◌≤◌, Bool, true, false, not, ◌==◌, zero, suc, List, [], ◌∷◌, ◌++◌, length, take}
use Rattle.std.proofs.Common.{drop, slice_index, refl, ap, sym, ◌∙◌, subst, arith, length-append, append_assoc, append-nil}
use Rattle.std.specs.List.{flat_map}
use Rattle.std.proofs.Math.Seq.{take-append_seam, drop-append_seam, take-suc, drop-cons, drop-length}
use Rattle.std.proofs.lemmas.List.{length-take-le, length-map, take-append-drop}
use Rattle.std.proofs.lemmas.List.Elements.{All-head, All-tail}
use Rattle.httparse.specs.Ascii.{line_feed}
use Rattle.httparse.specs.Grammar.{AllPass, LineEnd, lf, crlf, print_blank, print_version, print_end, print_field, print_section, Field}
use Rattle.httparse.specs.Grammar.{RequestHead, IsRequestHead, print_request, ReadsRequest}
use Rattle.httparse.specs.Pieces.{Stops, is_newline, RequestStart, Section}
use Rattle.httparse.proofs.PieceLemmas.{Stops_token, RequestStart_deterministic, Section_skip, newline_not_stopped}
use Rattle.httparse.proofs.GrammarLemmas.{cons-append, print_request-append, request_tree, request_pieces}
use Rattle.httparse.specs.Spans.{header_bytes, name_and_value, IsRequestAt, IsRequestOf, IsRequestWithin}
use Rattle.httparse.specs.declared.spans.HeaderSpan.{HeaderSpan}
use Rattle.httparse.specs.declared.spans.RequestSpans.{RequestSpans}
use Rattle.ports_http.specs.Limits.{field_limit}
use Rattle.ports_http.specs.Streams.{IsFullHead, BeginsOneMore, BeginsOneMoreOpen}

-- what comes before the field lines of a head, and then rest
abbrev start_on : RequestHead → List ℕ → List ℕ
start_on h rest =
    print_blank h.blank ++ (h.method ++ 32 ∷ (h.target ++ 32 ∷ (print_version h.minor ++ (print_end h.line_end ++ rest))))

start_regroup : (h : RequestHead) (x y : List ℕ) → start_on h (x ++ y) ≡ start_on h x ++ y
start_regroup h x y = regroup (print_blank h.blank) h.method h.target (print_version h.minor) (print_end h.line_end) x y
  where
    regroup : (a b c d e x y : List ℕ)
        → a ++ (b ++ 32 ∷ (c ++ 32 ∷ (d ++ (e ++ (x ++ y))))) ≡ (a ++ (b ++ 32 ∷ (c ++ 32 ∷ (d ++ (e ++ x))))) ++ y
    regroup a b c d e x y = simp append_assoc

-- the start of a head comes first, whatever follows it
start_comes : (h : RequestHead) (rest : List ℕ) → IsRequestHead h → RequestStart (request_tree h).0 (start_on h rest) rest
start_comes h rest valid = (
  _,
  (refl, Stops_token h.method _ valid.method.0 valid.method.1),
  (
    _,
    (valid.method.0, valid.method.1, refl),
    (_, ((valid.target.0, valid.target.1, refl), valid.target_text), (_, (valid.minor, refl), refl)),
  ),
)

-- the field lines, as they are printed
abbrev lines_of : RequestHead → List ℕ
lines_of h = flat_map print_field h.fields

-- a head is its start, its field lines and the empty line
head_printed : (h : RequestHead) → print_request h ++ [] ≡ start_on h (lines_of h) ++ print_end h.last
head_printed h =
    print_request-append h [] ∙ ap (start_on h) (append-nil (print_section h.fields h.last))
    ∙ start_regroup h (lines_of h) (print_end h.last)

same_split : (a b r q : List ℕ) → length a ≡ length b → a ++ r ≡ b ++ q → (a ≡ b) × (r ≡ q)
same_split a b r q n e = (
  sym (take-append_seam a r) ∙ (λ i. take (n i) (e i)) ∙ take-append_seam b q,
  sym (drop-append_seam a r) ∙ (λ i. drop (n i) (e i)) ∙ drop-append_seam b q,
)

-- if a text ends in two line feeds, its last line end is the second one
before_end : (a b : List ℕ) (last : LineEnd) → a ++ 10 ∷ 10 ∷ [] ≡ b ++ print_end last → a ++ 10 ∷ [] ≡ b
before_end a b lf e =
    let same : (a ++ 10 ∷ []) ++ 10 ∷ [] ≡ b ++ 10 ∷ [] = append_assoc a (10 ∷ []) (10 ∷ []) ∙ e in
    let lengths = ap length same in
    (same_split (a ++ 10 ∷ []) b (10 ∷ []) (10 ∷ [])
    (omega (arith, lengths, length-append (a ++ 10 ∷ []) (10 ∷ []), length-append b (10 ∷ []))) same).0
before_end a b crlf e =
    let lengths = ap length e in
    let ends = (same_split a b (10 ∷ 10 ∷ []) (13 ∷ 10 ∷ [])
    (omega (arith, lengths, length-append a (10 ∷ 10 ∷ []), length-append b (13 ∷ 10 ∷ []))) e).1 in
    absurd (feed_is_no_return (ap (λ (l : List ℕ). first l) ends))
  where
    first : List ℕ → ℕ
    first [] = 0
    first (b ∷ l) = b

    feed_is_no_return : ◌≡◌ {A = ℕ} 10 13 → ⊥
    feed_is_no_return e = cc

stops_on : (line more : List ℕ) → Stops is_newline line → Stops is_newline (line ++ more)
stops_on [] more none = absurd none
stops_on (b ∷ line) more stops = stops

-- after these lines no section ends
more_lines : (hs : List Field) (fields gs : List Field) (last : LineEnd) (text rest : List ℕ) → gs ≡ fields ++ hs
    → Section (hs, last) text rest → Stops is_newline text → length fields < length gs
more_lines [] fields gs last text rest is ends stops = absurd (newline_not_stopped last rest text (sym ends.1) stops)
more_lines (h ∷ hs) fields gs last text rest is ends stops =
    let count = ap length is ∙ length-append fields (h ∷ hs) in omega (arith, count)

-- each head that begins as one more line does has more field lines than the limit
pub one_more_overflows : (bytes more : List ℕ) (h : RequestHead) (rest : List ℕ) → BeginsOneMore bytes
    → ReadsRequest (bytes ++ more) h rest → field_limit < length h.fields
one_more_overflows bytes more h rest one reads =
    let full = one.full.head in
    let before : one.before ++ 10 ∷ [] ≡ start_on full (lines_of full) =
    before_end one.before (start_on full (lines_of full)) full.last (one.full.reads.1 ∙ head_printed full) in
    let tail = one.line ++ more in
    let here : bytes ++ more ≡ start_on full (lines_of full ++ tail) =
    ap (λ (t : List ℕ). t ++ more) one.cut ∙ append_assoc one.before (10 ∷ one.line) more
    ∙ sym (append_assoc one.before (10 ∷ []) tail) ∙ ap (λ (t : List ℕ). t ++ tail) before
    ∙ sym (start_regroup full (lines_of full) tail) in
    let pieces = request_pieces (bytes ++ more) h rest reads in
    let start = subst (λ (t : List ℕ). RequestStart (request_tree full).0 t (lines_of full ++ tail)) (sym here)
    (start_comes full (lines_of full ++ tail) one.full.reads.0) in
    let same = RequestStart_deterministic.unique (request_tree full).0 (request_tree h).0 (bytes ++ more) _ pieces.0 start pieces.1 in
    let skipped = Section_skip full.fields h.fields h.last pieces.0 tail rest (one.full.reads.0.fields, sym same.1) pieces.2 in
    subst (λ (n : ℕ). n < length h.fields) one.full.lines
    (more_lines skipped.0 full.fields h.fields h.last tail rest skipped.1 skipped.2 (stops_on one.line more one.begins))

-- one line more stays one with more after it
pub one_more_stays : (front x whole : List ℕ) → whole ≡ front ++ x → BeginsOneMore front → BeginsOneMore whole
one_more_stays front x whole e one = record {
  before = one.before;
  line = one.line ++ x;
  cut = e ∙ ap (λ (t : List ℕ). t ++ x) one.cut ∙ append_assoc one.before (line_feed ∷ one.line) x;
  full = one.full;
  begins = stops_on one.line x one.begins;
}

abbrev NoFeed : List ℕ → Type 0
NoFeed bytes = AllPass (λ b. not (b == line_feed)) bytes

feed_in : (before line : List ℕ) → NoFeed (before ++ 10 ∷ line) → ⊥
feed_in [] line none = let fails : false ≡ true = All-head (λ b. not (b == line_feed) ≡ true) 10 line none in cc
feed_in (b ∷ before) line none = feed_in before line (All-tail (λ b. not (b == line_feed) ≡ true) b (before ++ 10 ∷ line) none)

tails : {x y : ℕ} {a b : List ℕ} → x ∷ a ≡ y ∷ b → a ≡ b
tails e = ap (λ (l : List ℕ). drop 1 l) e

heads : {x y : ℕ} {a b : List ℕ} → x ∷ a ≡ y ∷ b → x ≡ y
heads e = cc

-- a text has one last line feed
pub one_last_feed : (a b l m : List ℕ) → a ++ 10 ∷ l ≡ b ++ 10 ∷ m → NoFeed l → NoFeed m → (a ≡ b) × (l ≡ m)
one_last_feed [] [] l m e some none = (refl, tails e)
one_last_feed [] (y ∷ b) l m e some none = absurd (feed_in b m (subst NoFeed (tails e) some))
one_last_feed (x ∷ a) [] l m e some none = absurd (feed_in a l (subst NoFeed (sym (tails e)) none))
one_last_feed (x ∷ a) (y ∷ b) l m e some none =
    let later = one_last_feed a b l m (tails e) some none in
    let same : x ≡ y = heads e in
    (λ i. same i ∷ later.0 i, later.1)

-- how many fields the parser told
field_count : (buf : List ℕ) (headers : List HeaderSpan) (r : RequestSpans) (h : RequestHead) → IsRequestAt buf headers r h
    → r.headers ≤ length headers → r.headers ≡ length h.fields
field_count buf headers r h at fits =
    let fields = take r.headers headers in
    let count : length fields ≡ length h.fields =
    sym (length-map fields (header_bytes buf)) ∙ ap length at.fields ∙ length-map h.fields name_and_value in
    sym (length-take-le r.headers headers fits) ∙ count

-- the parser told a head that takes all bytes, with as many fields as the limit
pub full_when : (bytes : List ℕ) (headers : List HeaderSpan) (r : RequestSpans) → IsRequestWithin bytes headers r
    → IsRequestOf bytes headers r → r.headers ≡ field_limit → r.len ≡ length bytes → IsFullHead bytes
full_when bytes headers r within of count whole = record {
  head = of.0;
  reads = subst (λ (rest : List ℕ). ReadsRequest bytes of.0 rest)
      (ap (λ (n : ℕ). drop n bytes) whole ∙ drop-length bytes) of.1.reads;
  lines = sym (field_count bytes headers r of.0 of.1 within.section.count_fits) ∙ count;
}

-- if the bytes are a full head, that is what the parser tells
pub full_found : (bytes : List ℕ) (headers : List HeaderSpan) (r : RequestSpans) → IsRequestWithin bytes headers r
    → (full : IsFullHead bytes) → IsRequestAt bytes headers r full.head → (r.headers ≡ field_limit) × (r.len ≡ length bytes)
full_found bytes headers r within full at = (
  field_count bytes headers r full.head at within.section.count_fits ∙ full.lines,
  at.len ∙ sym (ap length (full.reads.1 ∙ append-nil (print_request full.head))),
)

-- the bytes before the last line feed, and those after it
feed_cut : (bytes : List ℕ) (k : ℕ) → k < length bytes → slice_index bytes k ≡ line_feed
    → bytes ≡ take k bytes ++ line_feed ∷ drop (suc k) bytes
feed_cut bytes k inside is =
    sym (take-append-drop k bytes) ∙ ap (λ (t : List ℕ). take k bytes ++ t) (drop-cons bytes k 0 inside)
    ∙ ap (λ (b : ℕ). take k bytes ++ b ∷ drop (suc k) bytes) is

front_cut : (bytes : List ℕ) (k : ℕ) → k < length bytes → slice_index bytes k ≡ line_feed
    → take (suc k) bytes ≡ take k bytes ++ line_feed ∷ []
front_cut bytes k inside is = take-suc bytes k 0 inside ∙ ap (λ (b : ℕ). take k bytes ++ b ∷ []) is

feeds : (bytes : List ℕ) (k : ℕ) → k < length bytes → slice_index bytes k ≡ line_feed
    → take (suc k) bytes ++ line_feed ∷ [] ≡ take k bytes ++ line_feed ∷ line_feed ∷ []
feeds bytes k inside is =
    ap (λ (t : List ℕ). t ++ line_feed ∷ []) (front_cut bytes k inside is)
    ∙ append_assoc (take k bytes) (line_feed ∷ []) (line_feed ∷ [])

one_before : (k : ℕ) → suc k - 1 ≡ k
one_before k = omega arith

no_newline : (b : ℕ) → b ≢ 13 → not (b == line_feed) ≡ true → is_newline b ≡ false
no_newline b other none = grind (arith, other, none)

-- a line after the last line feed, which is no empty one
pub begins_when : (bytes : List ℕ) (at : ℕ) → 0 < at → at < length bytes → slice_index bytes (at - 1) ≡ line_feed
    → NoFeed (drop at bytes) → slice_index bytes at ≢ 13 → IsFullHead (take at bytes ++ line_feed ∷ []) → BeginsOneMore bytes
begins_when bytes zero some inside is none other full = absurd (omega arith)
begins_when bytes (suc k) some inside feed none other full =
    let is = subst (λ (n : ℕ). slice_index bytes n ≡ line_feed) (one_before k) feed in
    let here : k < length bytes = omega arith in
    let line = drop-cons bytes (suc k) 0 inside in
    let first = All-head (λ b. not (b == line_feed) ≡ true) (slice_index bytes (suc k)) (drop (suc (suc k)) bytes)
    (subst NoFeed line none) in
    record {
      before = take k bytes;
      line = drop (suc k) bytes;
      cut = feed_cut bytes k here is;
      full = subst IsFullHead (feeds bytes k here is) full;
      begins = subst (Stops is_newline) (sym line) (no_newline (slice_index bytes (suc k)) other first);
    }

-- the line that is one too many comes after the last line feed
pub open_after : (bytes : List ℕ) (at : ℕ) → at ≤ length bytes → (0 < at → slice_index bytes (at - 1) ≡ line_feed)
    → NoFeed (drop at bytes) → (one : BeginsOneMoreOpen bytes)
    → (0 < at) × IsFullHead (take at bytes ++ line_feed ∷ []) × Stops is_newline (drop at bytes)
open_after bytes zero inside is none one =
    absurd (feed_in one.more.before one.more.line (subst NoFeed one.more.cut none))
open_after bytes (suc k) inside is none one =
    let here : k < length bytes = omega arith in
    let some : 0 < suc k = omega arith in
    let feed = subst (λ (n : ℕ). slice_index bytes n ≡ line_feed) (one_before k) (is some) in
    let same = one_last_feed one.more.before (take k bytes) one.more.line (drop (suc k) bytes)
    (sym one.more.cut ∙ feed_cut bytes k here feed) one.unfinished none in (
      omega arith,
      subst IsFullHead
          (ap (λ (t : List ℕ). t ++ line_feed ∷ line_feed ∷ []) same.0 ∙ sym (feeds bytes k here feed)) one.more.full,
      subst (Stops is_newline) same.1 one.more.begins,
    )

-- nothing follows the last line feed
pub nothing_begins : (bytes : List ℕ) (at : ℕ) → at ≡ length bytes → Stops is_newline (drop at bytes) → ⊥
nothing_begins bytes at whole stops =
    subst (Stops is_newline) (ap (λ (n : ℕ). drop n bytes) whole ∙ drop-length bytes) stops

-- a carriage return begins no field line
pub return_begins : (bytes : List ℕ) (at : ℕ) → at < length bytes → slice_index bytes at ≡ 13 → Stops is_newline (drop at bytes) → ⊥
return_begins bytes at inside is stops =
    let fails : true ≡ false =
    subst (Stops is_newline) (drop-cons bytes at 0 inside ∙ ap (λ (b : ℕ). b ∷ drop (suc at) bytes) is) stops in
    cc
