-- Where the places of tokens begin and end: beside a byte that ends a side, which is ASCII and no dollar, or at an end of the text.
use Rattle.std.proofs.Common.{◌≡◌, ◌≢◌, inl, inr, ◌<◌, ◌≤◌, ◌==◌, ℕ, zero, suc, ◌+◌, ◌-◌, Bool, true, false, not, List, [], ◌∷◌, length}
use Rattle.std.proofs.Common.{take, drop, get_or, Option, Some, None, IfSome, All, option_map, cond, refl, sym, ap, subst, ◌∙◌, arith}
use Rattle.std.proofs.lemmas.Bool.Decides.{eqb_tells}
use Rattle.std.specs.Str.{IsUtf8, IsCharBoundary}
use Rattle.std.proofs.lemmas.Str.{IsCharBoundary-start, IsCharBoundary-end, IsCharBoundary-before_ascii, IsCharBoundary-after_ascii}
use Rattle.std.proofs.lemmas.List.Elements.{All-nil, All-cons}
use Rattle.mk_cond_tree.proofs.Scans.{dropped, end-low}
use Rattle.mk_text.specs.Blanks.{is_blank}
use Rattle.mk_ref.specs.Outside.{outside}
use Rattle.mk_ref.specs.Laws.{OutsideKeepsPlaces}
use Rattle.mk_cond_tree.specs.declared.tokens.Call.{Call}
use Rattle.mk_cond_tree.specs.declared.tokens.Side.TheVariants.{Quoted, Bare}
use Rattle.mk_cond_tree.specs.declared.tokens.Token.{Token}
use Rattle.mk_cond_tree.specs.declared.tokens.Token.TheVariants as t
use Rattle.mk_cond_tree.specs.Tokens.{is_stop, call_of}
use Rattle.mk_cond_tree.specs.Scanner.{place_of_first, first_or_end, closing_place, word_token, word_at, blanks_end, begins, call_token}
use Rattle.mk_cond_tree.specs.Scanner.{quoted_side, sign_of_two_or_one, sign_of_two, token_at, token_before, walk}

-- a byte that ends a side is there
pub record StopAt (bytes : List ℕ) (at : ℕ) : Type 0 where
  pub inside : at < length bytes
  pub stop : is_stop (get_or bytes at 0) ≡ true

-- a place at an end of the bytes, or beside a byte that ends a side
pub data IsEdge (bytes : List ℕ) (at : ℕ) : Type 0 where
  AtStart : at ≡ 0 → IsEdge bytes at
  AtEnd : at ≡ length bytes → IsEdge bytes at
  Before : StopAt bytes at → IsEdge bytes at
  Behind : (before : ℕ) → at ≡ before + 1 → StopAt bytes before → IsEdge bytes at

-- a byte that ends a side is ASCII and no dollar
stop_low : (b : ℕ) → is_stop b ≡ true → b < 128
stop_low b is = grind arith

stop_plain : (b : ℕ) → is_stop b ≡ true → b ≢ 36
stop_plain b is e = cc (subst (λ n. is_stop n ≡ true) e is)

module _ (law : OutsideKeepsPlaces) (text : List ℕ) (utf8 : IsUtf8 text) where
  low_there : (at : ℕ) → StopAt (outside text) at → (at < length text) × (get_or text at 0 < 128)
  low_there at stop = (
    subst (λ n. at < n) (law text).0 stop.inside,
    subst (λ b. b < 128) ((law text).1 at (stop_plain (get_or (outside text) at 0) stop.stop))
        (stop_low (get_or (outside text) at 0) stop.stop),
  )

  pub edge-cuts : (at : ℕ) → IsEdge (outside text) at → IsCharBoundary text at
  edge-cuts at (AtStart is) = subst (IsCharBoundary text) (sym is) (IsCharBoundary-start text utf8)
  edge-cuts at (AtEnd is) = subst (IsCharBoundary text) (sym (is ∙ (law text).0)) (IsCharBoundary-end text)
  edge-cuts at (Before stop) = let h = low_there at stop in IsCharBoundary-before_ascii text at h.0 h.1
  edge-cuts at (Behind before is stop) = let h = low_there before stop in subst (IsCharBoundary text) (sym is)
      (IsCharBoundary-after_ascii text before utf8 h.0 h.1)

-- the text from a place of the bytes on
step : (bytes : List ℕ) (at b : ℕ) (rest : List ℕ) → drop at bytes ≡ b ∷ rest → (at < length bytes) × (get_or bytes at 0 ≡ b)
    × (drop (at + 1) bytes ≡ rest)
step [] zero b rest is = absurd (cc is)
step [] (suc at) b rest is = absurd (cc is)
step (c ∷ bytes) zero b rest is = (omega arith, cc, cc)
step (c ∷ bytes) (suc at) b rest is = let h = step bytes at b rest is in let more : suc at + 1 ≡ suc (at + 1) =
    omega arith in (omega (arith, h.0), h.1, ap (λ n. drop n (c ∷ bytes)) more ∙ h.2)

none_left : (bytes : List ℕ) (at : ℕ) → at ≤ length bytes → drop at bytes ≡ [] → at ≡ length bytes
none_left [] zero low is = refl
none_left [] (suc at) low is = absurd (omega arith)
none_left (b ∷ bytes) zero low is = absurd (cc is)
none_left (b ∷ bytes) (suc at) low is = ap suc (none_left bytes at (omega arith) is)

module _ (bytes : List ℕ) where
  stop_at : (at b : ℕ) (rest : List ℕ) → drop at bytes ≡ b ∷ rest → is_stop b ≡ true → StopAt bytes at
  stop_at at b rest is stop = let h = step bytes at b rest is
      in record { inside = h.0; stop = subst (λ n. is_stop n ≡ true) (sym h.1) stop }

  side_on : (at b : ℕ) (rest : List ℕ) → drop at bytes ≡ b ∷ rest → (test : Bool) → is_stop b ≡ test
      → IsEdge bytes (first_or_end is_stop (at + 1) rest)
      → IsEdge bytes (cond test at (first_or_end is_stop (at + 1) rest))
  side_on at b rest is true stop more = Before (stop_at at b rest is stop)
  side_on at b rest is false stop more = more

  -- a side ends at an edge
  pub side-edge : (at : ℕ) (text : List ℕ) → at ≤ length bytes → drop at bytes ≡ text → IsEdge bytes (first_or_end is_stop at text)
  side-edge at [] low is = AtEnd (none_left bytes at low is)
  side-edge at (b ∷ rest) low is =
      let h = step bytes at b rest is in
      side_on at b rest is (is_stop b) refl (side-edge (at + 1) rest (omega (arith, h.0)) h.2)

  -- a quote, and the parenthesis that closes, are bytes that end a side
  quote_on : (at b : ℕ) (rest : List ℕ) → drop at bytes ≡ b ∷ rest → (test : Bool) → (b == 34) ≡ test
      → IfSome (place_of_first (λ c. c == 34) (at + 1) rest) (StopAt bytes)
      → IfSome (cond test (Some at) (place_of_first (λ c. c == 34) (at + 1) rest)) (StopAt bytes)
  quote_on at b rest is true stop more = stop_at at b rest is
      (elim (eqb_tells b 34) [ inl same ↦ subst (λ n. is_stop n ≡ true) (sym same.1) refl | inr other ↦ absurd (cc (stop, other.0)) ])
  quote_on at b rest is false stop more = more

  pub quote-stop : (at : ℕ) (text : List ℕ) → drop at bytes ≡ text → IfSome (place_of_first (λ c. c == 34) at text) (StopAt bytes)
  quote-stop at [] is = tt
  quote-stop at (b ∷ rest) is = quote_on at b rest is (b == 34) refl (quote-stop (at + 1) rest (step bytes at b rest is).2)

  pub closing_place-stop : (at depth : ℕ) (text : List ℕ) → drop at bytes ≡ text → IfSome (closing_place at depth text) (StopAt bytes)
  closing_place-stop at depth [] is = tt
  closing_place-stop at depth (b ∷ rest) is =
      let h = (step bytes at b rest is).2 in
      elim (eqb_tells b 40) [
        | inl left ↦ rw left.0 (closing_place-stop (at + 1) (suc depth) rest h)
        | inr other ↦ rw other.0 (elim (eqb_tells b 41) [
          | inl right ↦ rw right.0 (elim (eqb_tells depth 0) [
            | inl none ↦ rw none.0 (stop_at at b rest is (subst (λ n. is_stop n ≡ true) (sym right.1) refl))
            | inr some ↦ rw some.0 (closing_place-stop (at + 1) (depth - 1) rest h)
          ])
          | inr plain ↦ rw plain.0 (closing_place-stop (at + 1) depth rest h)
        ])
      ]

  -- the places in a token are edges, and the place after it is one
  abbrev pub Edged : Token → Type 0
  Edged (t.Side (Quoted span)) = IsEdge bytes span.start × IsEdge bytes span.end × (span.start ≤ span.end)
  Edged (t.Side (Bare span)) = IsEdge bytes span.start × IsEdge bytes span.end × (span.start ≤ span.end)
  Edged (t.Call call span) = IsEdge bytes span.start × IsEdge bytes span.end × (span.start ≤ span.end)
  Edged token = Unit {0}

  first_low : (p : ℕ → Bool) (at : ℕ) (text : List ℕ) → IfSome (place_of_first p at text) (λ end. at ≤ end)
  first_low p at [] = tt
  first_low p at (b ∷ rest) = low_on p at (p b) (place_of_first p (at + 1) rest) (first_low p (at + 1) rest)
    where
      low_on : (p : ℕ → Bool) (at : ℕ) (test : Bool) (more : Option ℕ) → IfSome more (λ end. at + 1 ≤ end)
          → IfSome (cond test (Some at) more) (λ end. at ≤ end)
      low_on p at true more h = omega arith
      low_on p at false None h = tt
      low_on p at false (Some end) h = omega arith

  later : (at : ℕ) (more : Option ℕ) → IfSome more (λ end. at + 1 ≤ end) → IfSome more (λ end. at ≤ end)
  later at None h = tt
  later at (Some end) h = omega arith

  closing_low : (at depth : ℕ) (text : List ℕ) → IfSome (closing_place at depth text) (λ end. at ≤ end)
  closing_low at depth [] = tt
  closing_low at depth (b ∷ rest) =
      elim (eqb_tells b 40) [
        | inl left ↦ rw left.0 (later at (closing_place (at + 1) (suc depth) rest) (closing_low (at + 1) (suc depth) rest))
        | inr other ↦ rw other.0 (elim (eqb_tells b 41) [
          | inl right ↦ rw right.0 (elim (eqb_tells depth 0) [
            | inl none ↦ rw none.0 (omega arith)
            | inr some ↦ rw some.0 (later at (closing_place (at + 1) (depth - 1) rest) (closing_low (at + 1) (depth - 1) rest))
          ])
          | inr plain ↦ rw plain.0 (later at (closing_place (at + 1) depth rest) (closing_low (at + 1) depth rest))
        ])
      ]

  -- a token that was found, with the place after it
  abbrev pub Found : ℕ → Token × ℕ → Type 0
  Found at x = Edged x.0 × IsEdge bytes x.1 × (at < x.1)

  after_stop : (at : ℕ) → StopAt bytes at → IsEdge bytes (at + 1)
  after_stop at stop = Behind at refl stop

  next_stop : (at n : ℕ) (rest : List ℕ) → drop at bytes ≡ rest → is_stop n ≡ true → begins n rest ≡ true → StopAt bytes at
  next_stop at n [] is stop there = absurd (cc there)
  next_stop at n (c ∷ rest) is stop there =
      elim (eqb_tells c n) [
        | inl same ↦ stop_at at c rest is (subst (λ m. is_stop m ≡ true) (sym same.1) stop)
        | inr
            other ↦ absurd (cc (there, other.0))
      ]

  sign_found : (at : ℕ) (rest : List ℕ) (two one : Token) (doubled : Bool) → StopAt bytes at → drop (at + 1) bytes ≡ rest
      → begins 61 rest ≡ doubled → Edged two → Edged one
      → IfSome (sign_of_two_or_one at doubled two one) (Found at)
  sign_found at rest two one true stop is there h k =
      (h, Behind (at + 1) (omega arith) (next_stop (at + 1) 61 rest is refl there), omega arith)
  sign_found at rest two one false stop is there h k = (k, after_stop at stop, omega arith)

  pair_found : (at n : ℕ) (rest : List ℕ) (two : Token) (doubled : Bool) → drop (at + 1) bytes ≡ rest → is_stop n ≡ true
      → begins n rest ≡ doubled → Edged two
      → IfSome (sign_of_two at doubled two) (Found at)
  pair_found at n rest two true is stop there h = (h, Behind (at + 1) (omega arith) (next_stop (at + 1) n rest is stop there), omega arith)
  pair_found at n rest two false is stop there h = tt

  quoted_found : (at start : ℕ) (end : Option ℕ) → at < start → IsEdge bytes start → IfSome end (StopAt bytes) → IfSome end (λ e. start ≤ e)
      → IfSome (quoted_side start end) (Found at)
  quoted_found at start None ahead edge stop low = tt
  quoted_found at start (Some end) ahead edge stop low = ((edge, Before stop, low), after_stop end stop, omega arith)

  call_found : (at : ℕ) (call : Call) (start : ℕ) (end : Option ℕ) → at < start → IsEdge bytes start → IfSome end (StopAt bytes)
      → IfSome end (λ e. start ≤ e) → IfSome (call_token call start end) (Found at)
  call_found at call start None ahead edge stop low = tt
  call_found at call start (Some end) ahead edge stop low = ((edge, Before stop, low), after_stop end stop, omega arith)

  opened_found : (at end left : ℕ) (call : Call) (text behind : List ℕ) (test : Bool) → IsEdge bytes at → IsEdge bytes end → at < end
      → at < left → drop left bytes ≡ text → drop (left + 1) bytes ≡ behind
      → begins 40 text ≡ test
      → IfSome (cond test (call_token call (left + 1) (closing_place (left + 1) 0 behind))
      (Some (t.Side (Bare (record { start = at; end = end })), end))) (Found at)
  opened_found at end left call text behind true edge end_edge low more is next there =
      call_found at call (left + 1) (closing_place (left + 1) 0 behind) (omega arith)
      (after_stop left (next_stop left 40 text is refl there)) (closing_place-stop (left + 1) 0 behind next)
      (closing_low (left + 1) 0 behind)
  opened_found at end left call text behind false edge end_edge low more is next there = ((edge, end_edge, omega arith), end_edge, low)

  word_found : (at end left : ℕ) (call : Option Call) → IsEdge bytes at → IsEdge bytes end → at < end → at + 1 ≤ left
      → IfSome (word_token at (drop (at + 1) bytes) end left call) (Found at)
  word_found at end left None edge end_edge low more = ((edge, end_edge, omega arith), end_edge, low)
  word_found at end left (Some call) edge end_edge low more =
      opened_found at end left call (drop (left - (at + 1)) (drop (at + 1) bytes)) (drop (left + 1 - (at + 1)) (drop (at + 1) bytes))
      (begins 40 (drop (left - (at + 1)) (drop (at + 1) bytes))) edge end_edge low (omega arith) (sym (dropped bytes (at + 1) left more))
      (sym (dropped bytes (at + 1) (left + 1) (omega arith))) refl

  word_edged : (at b : ℕ) → IsEdge bytes at → at < length bytes → IfSome (word_at at b (drop (at + 1) bytes)) (Found at)
  word_edged at b edge room =
      let rest : List ℕ = drop (at + 1) bytes in
      let end : ℕ = first_or_end is_stop (at + 1) rest in
      let low : at + 1 ≤ end = end-low is_stop (at + 1) rest in
      let left : ℕ = blanks_end end (drop (end - (at + 1)) rest) in
      let more : end ≤ left = end-low (λ c. not (is_blank c)) end (drop (end - (at + 1)) rest) in
      word_found at end left (call_of (b ∷ take (end - (at + 1)) rest)) edge (side-edge (at + 1) rest (omega arith) refl)
      (omega arith) (omega arith)

  stop_here : (at b n : ℕ) → at < length bytes → get_or bytes at 0 ≡ b → b ≡ n → is_stop n ≡ true → StopAt bytes at
  stop_here at b n room there is stop = record { inside = room; stop = subst (λ m. is_stop m ≡ true) (sym (there ∙ is)) stop }

  token_found : (at b : ℕ) → IsEdge bytes at → at < length bytes → get_or bytes at 0 ≡ b
      → IfSome (token_at at b (drop (at + 1) bytes)) (Found at)
  unfolding token_at
  token_found at b edge room there =
      let rest : List ℕ = drop (at + 1) bytes in
      elim (eqb_tells b 40) [
        | inl is ↦ rw is.0 (tt, after_stop at (stop_here at b 40 room there is.1 refl), omega arith)
        | inr no40 ↦ rw no40.0 (
            elim (eqb_tells b 41) [
              | inl is ↦ rw is.0 (tt, after_stop at (stop_here at b 41 room there is.1 refl), omega arith)
              | inr no41 ↦ rw no41.0 (
                  elim (eqb_tells b 33) [
                    | inl is ↦ rw is.0 (sign_found at rest _ _ (begins 61 rest) (stop_here at b 33 room there is.1 refl) refl refl tt tt)
                    | inr no33 ↦ rw no33.0 (
                        elim (eqb_tells b 60) [
                          | inl is ↦ rw is.0 (sign_found at rest _ _ (begins 61 rest)
                              (stop_here at b 60 room there is.1 refl) refl refl tt tt)
                          | inr no60 ↦ rw no60.0 (
                              elim (eqb_tells b 62) [
                                | inl is ↦ rw is.0 (sign_found at rest _ _ (begins 61 rest)
                                    (stop_here at b 62 room there is.1 refl) refl refl tt tt)
                                | inr no62 ↦ rw no62.0 (
                                    elim (eqb_tells b 61) [
                                      | inl is ↦ rw is.0 (pair_found at 61 rest _ (begins 61 rest) refl refl refl tt)
                                      | inr no61 ↦ rw no61.0 (
                                          elim (eqb_tells b 38) [
                                            | inl is ↦ rw is.0 (pair_found at 38 rest _ (begins 38 rest) refl refl refl tt)
                                            | inr no38 ↦ rw no38.0 (
                                                elim (eqb_tells b 124) [
                                                  | inl is ↦ rw is.0 (pair_found at 124 rest _ (begins 124 rest) refl refl refl tt)
                                                  | inr no124 ↦ rw no124.0 (
                                                      elim (eqb_tells b 34) [
                                                        | inl is ↦ rw is.0 (quoted_found at (at + 1)
                                                            (place_of_first (λ c. c == 34) (at + 1) rest) (omega arith)
                                                            (after_stop at (stop_here at b 34 room there is.1 refl))
                                                            (quote-stop (at + 1) rest refl) (first_low (λ c. c == 34) (at + 1) rest))
                                                        | inr no34 ↦ rw no34.0 (word_edged at b edge room)
                                                      ])
                                                ])
                                          ])
                                    ])
                              ])
                        ])
                  ])
            ])
      ]

  blank_stops : (b : ℕ) → is_blank b ≡ true → is_stop b ≡ true
  blank_stops b is = rw is refl

  before_edged : (at : ℕ) (rest : List ℕ) (x : Option (Token × ℕ)) → IfSome x (Found at)
      → ((skipped : ℕ) → IsEdge bytes (at + 1 + skipped) → IfSome (walk (at + 1) skipped rest) (All Edged))
      → IfSome (token_before (λ end. walk (at + 1) (end - (at + 1)) rest) x) (All Edged)
  before_edged at rest None h more = tt
  before_edged at rest (Some x) h more =
      let passed : at + 1 + (x.1 - (at + 1)) ≡ x.1 = omega arith in
      put_edged x.0 (walk (at + 1) (x.1 - (at + 1)) rest) h.0 (more (x.1 - (at + 1)) (subst (IsEdge bytes) (sym passed) h.1))
    where
      put_edged : (token : Token) (tokens : Option (List Token)) → Edged token → IfSome tokens (All Edged)
          → IfSome (option_map (λ l. token ∷ l) tokens) (All Edged)
      put_edged token None h more = tt
      put_edged token (Some tokens) h more = All-cons Edged token tokens h more

  walked_on : (at b : ℕ) (rest : List ℕ) → drop at bytes ≡ b ∷ rest → (test : Bool) → is_blank b ≡ test → (one other : Option (List Token))
      → (StopAt bytes at → IfSome one (All Edged)) → IfSome other (All Edged) → IfSome (cond test one other) (All Edged)
  walked_on at b rest is true blank one other h k = h (stop_at at b rest is (blank_stops b blank))
  walked_on at b rest is false blank one other h k = k

  pub walk-edged : (at skipped : ℕ) (text : List ℕ) → drop at bytes ≡ text → IsEdge bytes (at + skipped)
      → IfSome (walk at skipped text) (All Edged)
  unfolding walk
  walk-edged at skipped [] is edge = All-nil Edged
  walk-edged at (suc skipped) (b ∷ rest) is edge =
      let same : at + suc skipped ≡ at + 1 + skipped = omega arith in
      walk-edged (at + 1) skipped rest (step bytes at b rest is).2 (subst (IsEdge bytes) same edge)
  walk-edged at zero (b ∷ rest) is edge =
      let h = step bytes at b rest is in
      let here : at + 0 ≡ at = omega arith in
      let next : at + 1 ≡ at + 1 + 0 = omega arith in
      walked_on at b rest is (is_blank b) refl (walk (at + 1) 0 rest)
      (token_before (λ end. walk (at + 1) (end - (at + 1)) rest) (token_at at b rest))
      (λ stop. walk-edged (at + 1) 0 rest h.2 (subst (IsEdge bytes) next (after_stop at stop)))
      (before_edged at rest (token_at at b rest)
      (subst (λ l. IfSome (token_at at b l) (Found at)) h.2 (token_found at b (subst (IsEdge bytes) here edge) h.0 h.1))
      (λ skipped more. walk-edged (at + 1) skipped rest h.2 more))
