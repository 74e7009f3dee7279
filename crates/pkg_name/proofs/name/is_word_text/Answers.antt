-- A text that isn't empty is a stem or a flavor where no byte is forbidden.
use Rattle.std.proofs.Common.{◌≡◌, ℕ, false, ◌==◌, not, List, [], ◌∷◌, length, refl, sym, ◌∙◌, true≢false}
use Rattle.std.specs.List.{list_all}
use Rattle.pkg_name.specs.Name.{is_stem_or_flavor, is_forbidden}
use Rattle.pkg_name.proofs.name.is_word_text.Goals as goal

there : (text : List ℕ) → (length text == 0) ≡ false → list_all (λ byte. not (is_forbidden byte)) text ≡ is_stem_or_flavor text
there [] some = absurd (true≢false some)
there (byte ∷ rest) some = refl

pub returns-then-not-is_empty : goal.returns-then-not-is_empty
returns-then-not-is_empty c = c.has_word_bytes.ensures ∙ there c.args.text.now (sym c.is_empty.ensures ∙ c.if-not-is_empty.true)
