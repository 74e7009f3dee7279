-- Whether a text names a directory alone.
use Rattle.std.proofs.Common.{◌≡◌, ◌∙◌, sym, ap, refl, arith, ℕ, ◌<◌, ltb, not, Bool, true, false, cond, eqb, ◌&&◌, ◌||◌, List, [], ◌∷◌}
use Rattle.std.proofs.Common.{length, Ok, Err, Some, None}
use Rattle.std.specs.List.{filter, find, list_any, slice_split, onto_first, position_or_len, before_first, after_first}
use Rattle.std.specs.Prelude.{is_none}
use Rattle.text_parts.specs.Order.{in_order}
use Rattle.pkg_path.specs.Paths.{elements_of, flavors_of, is_flavor, is_subpackage, is_well_cut, value_of, is_bare_directory, is_bare_path}
use Rattle.pkg_path.specs.Paths.{names_directory}
use Rattle.pkg_path.specs.declared.faults.PkgPathFault.TheVariants.{TwoSubpackages, BadCharacter}
use Rattle.std.specs.Result.{result_ok}
use Rattle.std.proofs.lemmas.Grind.{common_steps}
use Rattle.pkg_path.proofs.Cutting.{is_empty, cut}
use Rattle.pkg_path.proofs.FirstComma.{is_comma, at_comma}

pub empty_is_none : (text : List ℕ) → eqb (length text) 0 ≡ true → is_bare_directory text ≡ false
empty_is_none text none = ap (λ path. is_bare_path (result_ok path)) (is_empty text none)

by_well : (text : List ℕ) (well : Bool) → is_bare_path (result_ok (cond well (Ok (value_of (text ∷ []))) (Err BadCharacter))) ≡ well
by_well text true = refl
by_well text false = refl

-- a text that is its only element
pub alone : (text : List ℕ) → eqb (length text) 0 ≡ false → text ∷ [] ≡ elements_of text → is_bare_directory text ≡ is_well_cut text text []
alone text some e = ap (λ path. is_bare_path (result_ok path)) (cut text text [] some e) ∙ by_well text (is_well_cut text text [])

and_false : (b : Bool) → (b && false) ≡ false
and_false true = refl
and_false false = refl

by_first : (directory choice : List ℕ) (choices : List (List ℕ)) (is : Bool) → is_subpackage choice ≡ is
    → names_directory (value_of (directory ∷ choice ∷ choices)) ≡ false
by_first directory choice choices true is =
    ap (λ b. is_none (flavors_of (choice ∷ choices)) && is_none (cond b (Some choice) (find is_subpackage choices))) is
    ∙ and_false (is_none (flavors_of (choice ∷ choices)))
by_first directory choice choices false is =
    ap (λ b. is_none (cond (not b || list_any (λ one. not (is_subpackage one)) choices)
    (Some (in_order (filter is_flavor (choice ∷ choices)))) None)
    && is_none (find is_subpackage (choice ∷ choices))) is

by_two : (directory choice : List ℕ) (choices : List (List ℕ)) (two well : Bool)
    → is_bare_path (result_ok (cond two (Err TwoSubpackages) (cond well (Ok (value_of (directory ∷ choice ∷ choices))) (Err BadCharacter))))
    ≡ false
by_two directory choice choices true well = refl
by_two directory choice choices false true = by_first directory choice choices (is_subpackage choice) refl
by_two directory choice choices false false = refl

-- a text has at least one part
pub record IsCut (parts : List (List ℕ)) : Type 0 where
  pub first : List ℕ
  pub others : List (List ℕ)
  pub is : parts ≡ first ∷ others

onto : (byte : ℕ) (parts : List (List ℕ)) → IsCut (onto_first byte parts)
onto byte [] = record { first = byte ∷ []; others = []; is = refl }
onto byte (first ∷ others) = record { first = byte ∷ first; others = others; is = refl }

cut_by : (byte : ℕ) (text : List ℕ) (b : Bool)
    → IsCut (cond b ([] ∷ slice_split is_comma text) (onto_first byte (slice_split is_comma text)))
cut_by byte text true = record { first = []; others = slice_split is_comma text; is = refl }
cut_by byte text false = onto byte (slice_split is_comma text)

is_cut : (text : List ℕ) → IsCut (slice_split is_comma text)
is_cut [] = record { first = []; others = []; is = refl }
is_cut (byte ∷ text) = cut_by byte text (is_comma byte)

some_text : (text : List ℕ) → position_or_len is_comma text < length text → eqb (length text) 0 ≡ false
some_text text there = grind (arith, common_steps)

-- a text with a comma
pub with_choices : (text : List ℕ) → position_or_len is_comma text < length text → is_bare_directory text ≡ false
with_choices text there =
    let directory : List ℕ = before_first is_comma text in
    let choices : List ℕ = after_first is_comma text in
    let parts = is_cut choices in
    let elements : directory ∷ parts.first ∷ parts.others ≡ elements_of text =
    ap (λ others. directory ∷ others) (sym parts.is) ∙ at_comma text directory choices there refl refl in
    ap (λ path. is_bare_path (result_ok path)) (cut text directory (parts.first ∷ parts.others) (some_text text there) elements)
    ∙ by_two directory parts.first parts.others (ltb 1 (length (filter is_subpackage (parts.first ∷ parts.others))))
    (is_well_cut text directory (parts.first ∷ parts.others))
