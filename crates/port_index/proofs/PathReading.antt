-- How the text of a path is read.
use Rattle.std.proofs.Common.{◌≡◌, subst, refl, ℕ, Bool, true, false, cond, not, ◌&&◌, ◌==◌, List, length, Some, Result, Ok, Err}
use Rattle.std.proofs.lemmas.Bool.{and_parts}
use Rattle.std.specs.List.{list_all, list_any}
use Rattle.std.specs.Result.{result_ok}
use Rattle.pkg_path.specs.Paths.{PathValue, path_of, elements_of, directory_element, choices_of, is_directory, is_well_written}
use Rattle.pkg_path.specs.Paths.{has_two_subpackages, value_of, is_bare_dash, may_occur}
use Rattle.pkg_path.specs.declared.faults.PkgPathFault.TheVariants.{Empty, TwoSubpackages, BadCharacter}

-- what a result is, by its value
pub ok_if : {T E : Type 0} (r : Result T E) (x : T) → result_ok r ≡ Some x → r ≡ Ok x
ok_if (Ok y) x e = cc
ok_if (Err fault) x e = absurd cc

-- a text is read as the value of its elements, and its directory is one
read_by : (none two written : Bool) (text : List ℕ) (path : PathValue) → is_well_written text ≡ written
    → cond none (Err Empty) (cond two (Err TwoSubpackages) (cond written (Ok (value_of (elements_of text))) (Err BadCharacter))) ≡ Ok path
    → (value_of (elements_of text) ≡ path) × (is_directory (directory_element (elements_of text)) ≡ true)
read_by true two written text path is e = absurd cc
read_by false true written text path is e = absurd cc
read_by false false false text path is e = absurd cc
read_by false false true text path is e =
    let t = and_parts (list_all may_occur text && is_directory (directory_element (elements_of text)))
    (not (list_any is_bare_dash (choices_of (elements_of text)))) is in
    (cc, (and_parts (list_all may_occur text) (is_directory (directory_element (elements_of text))) t.0).1)

pub read_as : (text : List ℕ) (path : PathValue) → path_of text ≡ Ok path → (value_of (elements_of text) ≡ path)
    × (is_directory (directory_element (elements_of text)) ≡ true)
unfolding path_of
read_as text path e = read_by (length text == 0) (has_two_subpackages (elements_of text)) (is_well_written text) text path refl e

pub has_directory : (text : List ℕ) (path : PathValue) → path_of text ≡ Ok path → is_directory path.directory ≡ true
has_directory text path e =
    let r = read_as text path e in
    subst (λ (path : PathValue). is_directory path.directory ≡ true) r.0 r.1
