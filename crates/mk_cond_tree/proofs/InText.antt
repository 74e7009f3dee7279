-- The places in the tokens of a condition, in its text.
use Rattle.std.proofs.Common.{◌≤◌, ℕ, List, IfSome, All, refl, sym, subst, arith}
use Rattle.std.specs.Str.{IsUtf8}
use Rattle.std.proofs.lemmas.List.Elements.{All-weaker}
use Rattle.mk_ref.specs.Outside.{outside}
use Rattle.mk_ref.specs.Laws.{OutsideKeepsPlaces}
use Rattle.mk_text.specs.declared.word_spans.Span.{Span}
use Rattle.mk_text.specs.Words.{IsSpanOf}
use Rattle.mk_cond_tree.specs.declared.tokens.Side.TheVariants.{Quoted, Bare}
use Rattle.mk_cond_tree.specs.declared.tokens.Token.{Token}
use Rattle.mk_cond_tree.specs.declared.tokens.Token.TheVariants as t
use Rattle.mk_cond_tree.specs.Tokens.{tokens_of}
use Rattle.mk_cond_tree.specs.Trees.{OrTree, or_tokens}
use Rattle.mk_cond_tree.specs.Placed.{IsTokenIn}
use Rattle.mk_cond_tree.specs.Conditions.{IsConditionOf}
use Rattle.mk_cond_tree.proofs.Pieces.{walk-tokens}
use Rattle.mk_cond_tree.proofs.Edges.{IsEdge, AtStart, Edged, edge-cuts, walk-edged}

module _ (law : OutsideKeepsPlaces) (text : List ℕ) (utf8 : IsUtf8 text) where
  span_in : (span : Span) → IsEdge (outside text) span.start × IsEdge (outside text) span.end × (span.start ≤ span.end) → IsSpanOf text span
  span_in span h = record { ordered = h.2; starts = edge-cuts law text utf8 span.start h.0; ends = edge-cuts law text utf8 span.end h.1 }

  token_in : (token : Token) → Edged (outside text) token → IsTokenIn text token
  token_in (t.Side (Quoted span)) h = span_in span h
  token_in (t.Side (Bare span)) h = span_in span h
  token_in (t.Call call span) h = span_in span h
  token_in token h = tt

  tokens_in : (tokens : List Token) → All (Edged (outside text)) tokens → All (IsTokenIn text) tokens
  tokens_in tokens h = All-weaker (Edged (outside text)) (IsTokenIn text) token_in tokens h

  pub places-in : (tree : OrTree) → IsConditionOf text tree → All (IsTokenIn text) (or_tokens tree)
  places-in tree condition =
      let edged : IfSome (tokens_of (outside text)) (All (Edged (outside text))) =
      subst (λ o. IfSome o (All (Edged (outside text)))) (walk-tokens (outside text))
      (walk-edged (outside text) 0 0 (outside text) refl (AtStart (omega arith))) in
      let all : All (Edged (outside text)) condition.tokens = subst (λ o. IfSome o (All (Edged (outside text)))) condition.cut edged in
      subst (All (IsTokenIn text)) (sym condition.read.in_order) (tokens_in condition.tokens all)
