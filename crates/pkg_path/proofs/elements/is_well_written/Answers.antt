-- The three tests together.
use Rattle.std.proofs.Common.{◌≡◌, ◌∙◌, ap, sym, refl, ℕ, true, not, ◌&&◌, ◌||◌, List, [], ◌∷◌}
use Rattle.std.specs.Borrow.{Bor}
use Rattle.std.specs.List.{list_any, list_all}
use Rattle.pkg_path.specs.Paths.{is_bare_dash, is_well_cut, is_directory, may_occur}
use Rattle.text_parts.specs.Cuts.{now_all}
use Rattle.pkg_path.proofs.elements.is_well_written.Goals as goal
use Rattle.pkg_path.proofs.elements.is_well_written.Goals.{then-has_path_bytes, else-has_path_bytes}
use Rattle.std.proofs.lemmas.Bool.{false≢true}

bare_now : (choices : List (Bor (List ℕ))) → list_any is_bare_dash (now_all choices) ≡ list_any (λ choice. is_bare_dash choice.now) choices
bare_now [] = refl
bare_now (choice ∷ choices) = ap (λ b. is_bare_dash choice.now || b) (bare_now choices)

all_three : (text directory : List ℕ) (choices : List (Bor (List ℕ))) → list_all may_occur text ≡ true → is_directory directory ≡ true
    → not (list_any (λ choice. is_bare_dash choice.now) choices) ≡ is_well_cut text directory (now_all choices)
all_three text directory choices a b = sym (ap (λ t. (t && is_directory directory) && not (list_any is_bare_dash (now_all choices))) a
    ∙ ap (λ t. t && not (list_any is_bare_dash (now_all choices))) b ∙ ap not (bare_now choices))

pub returns-then-is_directory : goal.returns-then-is_directory
returns-then-is_directory c =
    elim c.if-has_path_bytes.branch [
      | then-has_path_bytes w ↦ ap not c.has_bare_dash.ensures ∙ all_three c.args.text.now c.args.directory.now c.args.choices.now
          (sym c.has_path_bytes.ensures ∙ w.if-has_path_bytes.true) (sym w.is_directory.ensures ∙ sym w.value-is ∙ c.if-is_directory.true)
      | else-has_path_bytes w ↦ absurd (false≢true (sym w.if-has_path_bytes.false ∙ sym w.value-is ∙ c.if-is_directory.true))
    ]
