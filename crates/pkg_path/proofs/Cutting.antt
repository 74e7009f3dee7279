-- What a text is, where its elements are known.
use Rattle.std.proofs.Common.{◌≡◌, ◌∙◌, sym, ap, refl, ℕ, ◌<◌, ◌≤◌, Bool, true, false, cond, eqb, ltb, List, [], ◌∷◌, length, Ok, Err}
use Rattle.std.proofs.Common.{arith}
use Rattle.std.proofs.lemmas.Grind.{common_steps}
use Rattle.std.specs.Borrow.{Bor}
use Rattle.std.specs.List.{filter, find}
use Rattle.pkg_path.specs.Paths.{PathValue, elements_of, is_subpackage, has_two_subpackages, is_well_cut, is_well_written}
use Rattle.pkg_path.specs.Paths.{directory_element, choices_of, flavors_of, value_of, path_of}
use Rattle.text_parts.specs.Cuts.{now_all}
use Rattle.pkg_path.specs.declared.faults.PkgPathFault.TheVariants.{Empty, TwoSubpackages, BadCharacter}

counted : {X Y : Type 0} (b : Bool) (x : X) (y : Y) (xs : List X) (ys : List Y) → length xs ≡ length ys
    → length (cond b (x ∷ xs) xs) ≡ length (cond b (y ∷ ys) ys)
counted true x y xs ys e = omega arith
counted false x y xs ys e = e

count_now : (choices : List (Bor (List ℕ))) → length (filter is_subpackage (now_all choices)) ≡ length
    (filter (λ choice. is_subpackage choice.now) choices)
count_now [] = refl
count_now (choice ∷ choices) = counted (is_subpackage choice.now) choice.now choice (filter is_subpackage (now_all choices))
    (filter (λ choice. is_subpackage choice.now) choices) (count_now choices)

pub is_empty : (text : List ℕ) → eqb (length text) 0 ≡ true → path_of text ≡ Err Empty
unfolding path_of
is_empty text none = ap (λ b. cond b (Err Empty) (cond (has_two_subpackages (elements_of text)) (Err TwoSubpackages)
    (cond (is_well_written text) (Ok (value_of (elements_of text))) (Err BadCharacter)))) none

-- a text with elements
pub cut : (text directory : List ℕ) (choices : List (List ℕ)) → eqb (length text) 0 ≡ false → directory ∷ choices ≡ elements_of text
    → path_of text ≡ cond (ltb 1 (length (filter is_subpackage choices))) (Err TwoSubpackages)
    (cond (is_well_cut text directory choices) (Ok (value_of (directory ∷ choices))) (Err BadCharacter))
unfolding path_of
cut text directory choices some e =
    ap (λ b. cond b (Err Empty) (cond (has_two_subpackages (elements_of text)) (Err TwoSubpackages)
    (cond (is_well_written text) (Ok (value_of (elements_of text))) (Err BadCharacter)))) some
    ∙ ap (λ elements. cond (has_two_subpackages elements) (Err TwoSubpackages)
    (cond (is_well_cut text (directory_element elements) (choices_of elements)) (Ok (value_of elements)) (Err BadCharacter))) (sym e)

pub has_two : (text directory : List ℕ) (choices : List (Bor (List ℕ))) (n : ℕ) → eqb (length text) 0 ≡ false
    → directory ∷ now_all choices ≡ elements_of text
    → n ≡ length (filter (λ choice. is_subpackage choice.now) choices) → 1 < n → path_of text ≡ Err TwoSubpackages
has_two text directory choices n some e count more =
    let many : ltb 1 (length (filter is_subpackage (now_all choices))) ≡ true =
    (let same = count_now choices in grind (arith, common_steps)) in
    cut text directory (now_all choices) some e
    ∙ ap (λ b. cond b (Err TwoSubpackages)
    (cond (is_well_cut text directory (now_all choices)) (Ok (value_of (directory ∷ now_all choices))) (Err BadCharacter))) many

has_one : (text directory : List ℕ) (choices : List (Bor (List ℕ))) (n : ℕ) (well : Bool) → eqb (length text) 0 ≡ false
    → directory ∷ now_all choices ≡ elements_of text
    → n ≡ length (filter (λ choice. is_subpackage choice.now) choices) → n ≤ 1 → well ≡ is_well_cut text directory (now_all choices)
    → path_of text ≡ cond well (Ok (value_of (directory ∷ now_all choices))) (Err BadCharacter)
has_one text directory choices n well some e count few is =
    let one : ltb 1 (length (filter is_subpackage (now_all choices))) ≡ false =
    (let same = count_now choices in grind (arith, common_steps)) in
    cut text directory (now_all choices) some e
    ∙ ap (λ b. cond b (Err TwoSubpackages)
    (cond (is_well_cut text directory (now_all choices)) (Ok (value_of (directory ∷ now_all choices))) (Err BadCharacter))) one
    ∙ ap (λ b. cond b (Ok (value_of (directory ∷ now_all choices))) (Err BadCharacter)) (sym is)

pub is_bad : (text directory : List ℕ) (choices : List (Bor (List ℕ))) (n : ℕ) (well : Bool) → eqb (length text) 0 ≡ false
    → directory ∷ now_all choices ≡ elements_of text
    → n ≡ length (filter (λ choice. is_subpackage choice.now) choices) → n ≤ 1 → well ≡ is_well_cut text directory (now_all choices)
    → well ≡ false → path_of text ≡ Err BadCharacter
is_bad text directory choices n well some e count few is bad =
    has_one text directory choices n well some e count few is
    ∙ ap (λ b. cond b (Ok (value_of (directory ∷ now_all choices))) (Err BadCharacter)) bad

pub is_read : (text directory : List ℕ) (choices : List (Bor (List ℕ))) (n : ℕ) (well : Bool) (path : PathValue)
    → eqb (length text) 0 ≡ false → directory ∷ now_all choices ≡ elements_of text
    → n ≡ length (filter (λ choice. is_subpackage choice.now) choices) → n ≤ 1 → well ≡ is_well_cut text directory
    (now_all choices) → well ≡ true
    → path.directory ≡ directory → path.flavors ≡ flavors_of (now_all choices) → path.subpackage ≡ find is_subpackage (now_all choices)
    → path_of text ≡ Ok path
is_read text directory choices n well path some e count few is good at_directory at_flavors at_subpackage =
    has_one text directory choices n well some e count few is
    ∙ ap (λ b. cond b (Ok (value_of (directory ∷ now_all choices))) (Err BadCharacter)) good
    ∙ ap Ok (λ i. record { directory = sym at_directory i; flavors = sym at_flavors i; subpackage = sym at_subpackage i })
