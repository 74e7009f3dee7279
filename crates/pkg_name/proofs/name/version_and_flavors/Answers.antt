-- The words after a stem are a version and flavors if the stem and the flavors are words and the version is one.
use Rattle.std.proofs.Common.{◌≡◌, ℕ, Bool, true, false, ◌&&◌, List, ◌∷◌, refl, sym, ap, ◌∙◌, true≢false}
use Rattle.std.proofs.lemmas.List.Folds.{list_all-map}
use Rattle.std.specs.Borrow.{Bor}
use Rattle.std.specs.List.{list_all}
use Rattle.pkg_name.specs.Version.{is_version}
use Rattle.pkg_name.specs.Name.{name_of, name_if, is_stem_or_flavor}
use Rattle.text_parts.specs.Cuts.{now_all}
use Rattle.pkg_name.proofs.name.version_and_flavors.Goals as goal
use Rattle.pkg_name.proofs.name.version_and_flavors.Goals.{else-is_word_text-via-then-is_word_text+else-are_words}
use Rattle.pkg_name.proofs.name.version_and_flavors.Goals.{else-is_word_text-via-else-is_word_text}

middle : (a b c : Bool) → a ≡ true → c ≡ true → (a && b && c) ≡ b
middle true true c first last = last
middle true false c first last = refl
middle false b c first last = absurd (true≢false (sym first))

without_first : (a b c : Bool) → a ≡ false → (a && b && c) ≡ false
without_first true b c first = absurd (true≢false first)
without_first false b c first = refl

without_last : (a b c : Bool) → c ≡ false → (a && b && c) ≡ false
without_last true true c last = last
without_last true false c last = refl
without_last false b c last = refl

-- the name of a stem and words after it, by what is known of the stem and the flavors
named : (stem : List ℕ) (words flavors : List (Bor (List ℕ))) (version : Bor (List ℕ)) (are : Bool) → words ≡ version ∷ flavors
    → (is_stem_or_flavor stem && is_version version.now && list_all (λ text. is_stem_or_flavor text.now) flavors) ≡ are
    → name_of stem (now_all words) ≡ name_if are stem version.now (now_all flavors)
named stem words flavors version are cut test =
    ap (λ all. name_of stem (now_all all)) cut
    ∙ ap (λ last. name_if (is_stem_or_flavor stem && is_version version.now && last) stem version.now (now_all flavors))
    (list_all-map is_stem_or_flavor (λ (text : Bor (List ℕ)). text.now) flavors)
    ∙ ap (λ all. name_if all stem version.now (now_all flavors)) test

pub returns-then-are_words : goal.returns-then-are_words
returns-then-are_words c =
    named c.args.stem.now c.args.words.now c.in_ok-version.flavors.now c.in_ok-version.version.now
    (is_version c.in_ok-version.version.now.now) c.in_ok-version.ensures.cases.0
    (middle (is_stem_or_flavor c.args.stem.now) (is_version c.in_ok-version.version.now.now)
    (list_all (λ text. is_stem_or_flavor text.now) c.in_ok-version.flavors.now)
    (sym c.is_word_text.ensures ∙ c.if-is_word_text.true) (sym c.are_words.ensures ∙ c.if-are_words.true))

pub returns-else-is_word_text : goal.returns-else-is_word_text
returns-else-is_word_text c =
    named c.args.stem.now c.args.words.now c.in_ok-version.flavors.now c.in_ok-version.version.now false c.in_ok-version.ensures.cases.0
    (elim c.else-is_word_text.branch [
      | else-is_word_text-via-then-is_word_text+else-are_words w ↦
          without_last (is_stem_or_flavor c.args.stem.now) (is_version c.in_ok-version.version.now.now)
          (list_all (λ text. is_stem_or_flavor text.now) c.in_ok-version.flavors.now)
          (sym w.are_words.ensures ∙ w.if-are_words.false)
      | else-is_word_text-via-else-is_word_text w ↦
          without_first (is_stem_or_flavor c.args.stem.now) (is_version c.in_ok-version.version.now.now)
          (list_all (λ text. is_stem_or_flavor text.now) c.in_ok-version.flavors.now)
          (sym c.is_word_text.ensures ∙ w.if-is_word_text.false)
    ])
