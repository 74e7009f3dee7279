-- A substitution without references, expanded, is the substitution itself.
use Rattle.std.proofs.Common.{◌≡◌, ◌∙◌, ◌<◌, ◌≤◌, ◌⊎◌, inl, inr, refl, sym, ap, ℕ, List, [], ◌∷◌, ◌++◌, length, Option, Some, None}
use Rattle.std.proofs.Common.{if◌then◌else◌, arith, append_assoc, append-nil, length-append}
use Rattle.std.proofs.lemmas.Bool.{cases_lt, le-leb, lt-leb}
use Rattle.std.specs.Option.{option_and_then, option_map}
use Rattle.mk_base.specs.Meter.{Meter}
use Rattle.mk_base.specs.Outcome.{after, each}
use Rattle.mk_text.specs.Words.{words_of}
use Rattle.mk_text.specs.declared.limits.TheConstants.{TEXT_LIMIT}
use Rattle.mk_mods.specs.Actions.{Symbol, Byte, Whole, Reference, Replacement, IsPlain, AllPlain}
use Rattle.mk_mods.specs.Applied.{applied, words_substituted}
use Rattle.mk_mods.specs.Joined.{joined, within_limit}
use Rattle.mk_mods.specs.Substituted.{symbol_text, text_of, substituted}
use Rattle.mk_env.specs.Expansion.{References, bounded, join_symbol, symbols_meaning, made}
use Rattle.mk_env.specs.Laws.{PlainSubstitutionIsApplied}
use Rattle.mk_env.proofs.ExpansionSteps.{bounded-small, bounded-long}

-- a text within the limit, and one beyond it
made-by : (text : List ℕ) (m : Meter) → (TEXT_LIMIT < length text) ⊎ (length text ≤ TEXT_LIMIT)
    → bounded text m ≡ made (within_limit text) m
made-by text m (inl long) =
    bounded-long text m long ∙ sym (ap (λ test. made (if test then Some text else None) m) (lt-leb (length text) TEXT_LIMIT long))
made-by text m (inr small) =
    bounded-small text m small ∙ sym (ap (λ test. made (if test then Some text else None) m) (le-leb (length text) TEXT_LIMIT small))

bounded-made : (text : List ℕ) (m : Meter) → bounded text m ≡ made (within_limit text) m
bounded-made text m = made-by text m (cases_lt TEXT_LIMIT (length text))

module _ (references : References) (old : List ℕ) where
  plain-joined : (text : List ℕ) (symbol : Symbol) (m : Meter) → IsPlain symbol → join_symbol references old text symbol m ≡ bounded
      (text ++ symbol_text old symbol) m
  plain-joined text (Byte b) m plain = refl
  plain-joined text Whole m plain = refl
  plain-joined text (Reference source) m plain = absurd plain

  joined-on : (text more : List ℕ) (symbols : List Symbol) (m : Meter)
      → ((next : List ℕ) → length next ≤ TEXT_LIMIT → each (join_symbol references old) next symbols m ≡ bounded
      (next ++ text_of old symbols) m)
      → (TEXT_LIMIT < length (text ++ more)) ⊎ (length (text ++ more) ≤ TEXT_LIMIT)
      → after (bounded (text ++ more) m) (λ next. each (join_symbol references old) next symbols) ≡ bounded
      (text ++ (more ++ text_of old symbols)) m
  joined-on text more symbols m goes (inl long) =
      ap (λ end. after end (λ next. each (join_symbol references old) next symbols)) (bounded-long (text ++ more) m long)
      ∙ sym (bounded-long (text ++ (more ++ text_of old symbols)) m
      (omega (
        arith,
        long,
        length-append text more,
        length-append text (more ++ text_of old symbols),
        length-append more
            (text_of old symbols),
      )))
  joined-on text more symbols m goes (inr small) =
      ap (λ end. after end (λ next. each (join_symbol references old) next symbols)) (bounded-small (text ++ more) m small)
      ∙ goes (text ++ more) small ∙ ap (λ l. bounded l m) (append_assoc text more (text_of old symbols))

  -- symbols without references are joined to their text
  plain-each : (text : List ℕ) (symbols : List Symbol) (m : Meter) → AllPlain symbols → length text ≤ TEXT_LIMIT
      → each (join_symbol references old) text symbols m ≡ bounded (text ++ text_of old symbols) m
  unfolding each
  plain-each text [] m plain small = sym (ap (λ l. bounded l m) (append-nil text) ∙ bounded-small text m small)
  plain-each text (symbol ∷ symbols) m plain small =
      ap (λ end. after end (λ next. each (join_symbol references old) next symbols)) (plain-joined text symbol m plain.0)
      ∙ joined-on text (symbol_text old symbol) symbols m (λ next fits. plain-each next symbols m plain.1 fits)
      (cases_lt TEXT_LIMIT (length (text ++ symbol_text old symbol)))

  plain-symbols : (symbols : List Symbol) (m : Meter) → AllPlain symbols → symbols_meaning references old symbols m ≡ made
      (within_limit (text_of old symbols)) m
  plain-symbols symbols m plain = plain-each [] symbols m plain (omega arith) ∙ bounded-made (text_of old symbols) m

module _ (references : References) (s : Replacement) (words : List (List ℕ)) (m : Meter) where
  -- what is made of the words, once the old text is known
  with-old : (old : List ℕ) → AllPlain s.new
      → after (symbols_meaning references old s.new m) (λ new. made (within_limit (joined (substituted s old new words))))
      ≡ made (option_and_then (λ made_words. within_limit (joined made_words))
      (option_map (λ new. substituted s old new words) (within_limit (text_of old s.new)))) m
  with-old old plain =
      ap (λ end. after end (λ new. made (within_limit (joined (substituted s old new words))))) (plain-symbols references old s.new m plain)
      ∙ by (within_limit (text_of old s.new))
    where
      by : (new : Option (List ℕ)) → after (made new m) (λ new. made (within_limit (joined (substituted s old new words))))
          ≡ made (option_and_then (λ made_words. within_limit (joined made_words)) (option_map (λ new. substituted s old new words) new)) m
      by None = refl
      by (Some new) = refl

  with-both : AllPlain s.old → AllPlain s.new
      → after (symbols_meaning references [] s.old m) (λ old m'. after (symbols_meaning references old s.new m')
      (λ new. made (within_limit (joined (substituted s old new words)))))
      ≡ made (option_and_then (λ made_words. within_limit (joined made_words)) (words_substituted s words)) m
  with-both plain_old plain_new =
      ap (λ end. after end (λ old m'. after (symbols_meaning references old s.new m')
      (λ new. made (within_limit (joined (substituted s old new words))))))
      (plain-symbols references [] s.old m plain_old)
      ∙ by (within_limit (text_of [] s.old))
    where
      by : (old : Option (List ℕ))
          → after (made old m) (λ old m'. after (symbols_meaning references old s.new m')
          (λ new. made (within_limit (joined (substituted s old new words)))))
          ≡ made (option_and_then (λ made_words. within_limit (joined made_words))
          (option_and_then (λ old. option_map (λ new. substituted s old new words) (within_limit (text_of old s.new))) old)) m
      by None = refl
      by (Some old) = with-old old plain_new

pub plain-applied : PlainSubstitutionIsApplied
unfolding applied
plain-applied references value s m plain_old plain_new = with-both references s (words_of value) m plain_old plain_new
