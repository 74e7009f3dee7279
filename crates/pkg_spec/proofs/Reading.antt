-- What an alternative is, step by step.
use Rattle.std.proofs.Common.{◌≡◌, ◌∙◌, sym, ap, refl, ℕ, Bool, true, false, not, cond, ◌&&◌, eqb, List, [], ◌∷◌, map, filter, drop, length}
use Rattle.std.proofs.Common.{Option, Some, None, Ok, Err, arith}
use Rattle.std.proofs.lemmas.List.Folds.{list_all-map}
use Rattle.std.specs.Borrow.{Bor}
use Rattle.std.specs.List.{list_all, slice_split}
use Rattle.std.specs.Option.{option_map}
use Rattle.pkg_spec.specs.Alternatives.{AlternativeValue, ComparisonValue, at_versions, alternative_of, alternative_of_cut}
use Rattle.pkg_spec.specs.Alternatives.{alternative_of_words, are_versions, comparisons_of, has_name, forbids}
use Rattle.text_parts.specs.Cuts.{Cut, now_all}
use Rattle.general_facts.specs.Ascii.{dash}
use Rattle.pkg_spec.specs.declared.faults.SpecFault.TheVariants.{NoStem, BadVersion, EmptyAlternative}

pub is_empty : (text : List ℕ) → eqb (length text) 0 ≡ true → alternative_of text ≡ Err EmptyAlternative
unfolding alternative_of
is_empty text none = ap (λ b. cond b (Err EmptyAlternative) (alternative_of_cut (at_versions text))) none

pub at_cut : (text : List ℕ) (cut : Option Cut) → eqb (length text) 0 ≡ false → at_versions text ≡ cut
    → alternative_of text ≡ alternative_of_cut cut
unfolding alternative_of
at_cut text cut some is = ap (λ b. cond b (Err EmptyAlternative) (alternative_of_cut (at_versions text))) some ∙ ap alternative_of_cut is

pub without_stem : (text stem behind : List ℕ) → eqb (length text) 0 ≡ false
    → at_versions text ≡ Some (record { before = stem; behind = behind }) → eqb (length stem) 0 ≡ true → alternative_of text ≡ Err NoStem
without_stem text stem behind some is none =
    at_cut text _ some is ∙ ap (λ b. cond b (Err NoStem) (alternative_of_words stem (slice_split (λ byte. eqb byte dash) behind))) none

-- a text with a stem and words
pub of_words : (text stem behind : List ℕ) (words : List (Bor (List ℕ))) → eqb (length text) 0 ≡ false
    → at_versions text ≡ Some (record { before = stem; behind = behind }) → eqb (length stem) 0 ≡ false
    → now_all words ≡ slice_split (λ byte. eqb byte dash) behind → alternative_of text ≡ alternative_of_words stem (now_all words)
of_words text stem behind words some is named same =
    at_cut text _ some is ∙ ap (λ b. cond b (Err NoStem) (alternative_of_words stem (slice_split (λ byte. eqb byte dash) behind))) named
    ∙ ap (alternative_of_words stem) (sym same)

pub no_words : (stem : List ℕ) (words : List (Bor (List ℕ))) → length words ≡ 0 → alternative_of_words stem (now_all words) ≡ Err NoStem
no_words stem [] none = refl
no_words stem (word ∷ words) none = absurd (omega arith)

names_now : (flavors : List (Bor (List ℕ))) (named : Bool) → named ≡ list_all (λ flavor. has_name flavor.now) flavors
    → list_all has_name (now_all flavors) ≡ named
names_now flavors named is = list_all-map has_name (λ (flavor : Bor (List ℕ)). flavor.now) flavors ∙ sym is

-- the alternative of a stem, versions and flavors
abbrev whole : List ℕ → List ℕ → List (List ℕ) → AlternativeValue
whole stem versions flavors =
    record {
      stem = stem;
      comparisons = comparisons_of versions;
      wanted = filter (λ flavor. not (forbids flavor)) flavors;
      forbidden =
          map (drop 1) (filter forbids flavors);
    }

-- what was read of versions: nothing, or their comparisons
pub no_versions : {X : Type 0} (seen : X → List ComparisonValue) (stem versions : List ℕ) (flavors : List (List ℕ))
    (read : Option X) → read ≡ None
    → option_map seen read ≡ cond (are_versions versions) (Some (comparisons_of versions)) None
    → alternative_of_words stem (versions ∷ flavors) ≡ Err BadVersion
no_versions seen stem versions flavors read is e =
    by (are_versions versions) (ap (option_map seen) (sym is) ∙ e)
  where
    by : (test : Bool) → None ≡ cond test (Some (comparisons_of versions)) None
        → cond (test && list_all has_name flavors) (Ok (whole stem versions flavors)) (Err BadVersion) ≡ Err BadVersion
    by true e = absurd cc
    by false e = refl

pub some_versions : {X : Type 0} (seen : X → List ComparisonValue) (versions : List ℕ) (read : Option X) (comparisons : X)
    → read ≡ Some comparisons
    → option_map seen read ≡ cond (are_versions versions) (Some (comparisons_of versions)) None → (are_versions versions ≡ true)
    × (seen comparisons ≡ comparisons_of versions)
some_versions seen versions read comparisons is e = by (are_versions versions) refl (ap (option_map seen) (sym is) ∙ e)
  where
    by : (test : Bool) → are_versions versions ≡ test → Some (seen comparisons) ≡ cond test (Some (comparisons_of versions)) None
        → (are_versions versions ≡ true) × (seen comparisons ≡ comparisons_of versions)
    by true are e = (are, (cc))
    by false are e = absurd cc

pub nameless : (stem versions : List ℕ) (flavors : List (Bor (List ℕ))) (named : Bool) → named ≡ list_all (λ flavor. has_name flavor.now)
    flavors → named ≡ false → are_versions versions ≡ true
    → alternative_of_words stem (versions ∷ now_all flavors) ≡ Err BadVersion
nameless stem versions flavors named is fails are =
    ap (λ b. cond (b && list_all has_name (now_all flavors)) (Ok (whole stem versions (now_all flavors))) (Err BadVersion)) are
    ∙ ap (λ b. cond b (Ok (whole stem versions (now_all flavors))) (Err BadVersion)) (names_now flavors named is ∙ fails)

pub is_whole : (stem versions : List ℕ) (flavors : List (Bor (List ℕ))) (named : Bool) (alternative : AlternativeValue)
    → named ≡ list_all (λ flavor. has_name flavor.now) flavors → named ≡ true → are_versions versions ≡ true
    → alternative.stem ≡ stem → alternative.comparisons ≡ comparisons_of versions
    → alternative.wanted ≡ filter (λ flavor. not (forbids flavor)) (now_all flavors)
    → alternative.forbidden ≡ map (drop 1) (filter forbids (now_all flavors))
    → alternative_of_words stem (versions ∷ now_all flavors) ≡ Ok alternative
is_whole stem versions flavors named alternative is holds are at_stem at_comparisons at_wanted at_forbidden =
    ap (λ b. cond (b && list_all has_name (now_all flavors)) (Ok (whole stem versions (now_all flavors))) (Err BadVersion)) are
    ∙ ap (λ b. cond b (Ok (whole stem versions (now_all flavors))) (Err BadVersion)) (names_now flavors named is ∙ holds)
    ∙ ap Ok (λ i. record {
      stem = sym at_stem i;
      comparisons = sym at_comparisons i;
      wanted =
          sym at_wanted i;
      forbidden = sym at_forbidden i;
    })
