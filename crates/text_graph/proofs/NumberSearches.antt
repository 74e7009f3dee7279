-- What a search by numbers keeps: what the search for their texts keeps.
use Rattle.std.proofs.Common.{◌≡◌, ◌∙◌, sym, ap, refl, subst, ℕ, ◌+◌, ◌<◌, ◌≤◌, List, [], map, length, get_or, Some, None, arith}
use Rattle.std.proofs.lemmas.List.{length-map, get_or-map}
use Rattle.std.specs.List.{All}
use Rattle.text_graph.specs.Arrows.{ArrowValue}
use Rattle.text_graph.specs.TextSearch.{all_added, next_texts, FindsAll}
use Rattle.text_graph.specs.Numbers.{place_of, text_at, AreNumbers, next_numbers, numbers_added, KnowsItsNumbers}
use Rattle.text_graph.specs.declared.numbers.NumberedArrow.{NumberedArrow}
use Rattle.text_graph.specs.declared.text_search.Found.{Found}
use Rattle.text_graph.proofs.Numbered.{all-added, next-numbers, numbers-inside, texts-named, begins, ends, texts_from, texts_to}
use Rattle.text_graph.proofs.Searches.{Searched, search-begins, search-goes_on, search-bound, search-ends}

-- arrows between numbers are the arrows between their texts
pub record AreArrows (met : List (List ℕ)) (numbered : List NumberedArrow) (arrows : List ArrowValue) : Type 0 where
  pub from : AreNumbers met (begins numbered) (texts_from arrows)
  pub to : AreNumbers met (ends numbered) (texts_to arrows)

-- the texts of the numbers that were found are what a search for texts found
pub record Finds (starts : List (List ℕ)) (arrows : List ArrowValue) (met : List (List ℕ)) (numbers : List ℕ) (place : ℕ) : Type 0 where
  pub searched : Searched starts arrows (map (text_at met) numbers) place
  pub named : AreNumbers met numbers (map (text_at met) numbers)

-- the same of the numbers that the code keeps, and its marks are right
pub record KeepsSearching (starts : List (List ℕ)) (arrows : List ArrowValue) (met : List (List ℕ)) (place : ℕ)
    (found : Found) : Type 0 where
  pub finds : Finds starts arrows met found.numbers.items place
  pub knows : KnowsItsNumbers found
  pub count : length found.known.items ≡ length met

-- numbers of texts that a search found
finds_these : (starts : List (List ℕ)) (arrows : List ArrowValue) (met : List (List ℕ)) (numbers : List ℕ) (texts : List (List ℕ))
    (place : ℕ) → AreNumbers met numbers texts
    → Searched starts arrows texts place → Finds starts arrows met numbers place
finds_these starts arrows met numbers texts place are searched =
    let same = texts-named met numbers texts are in
    record {
      searched = subst (λ texts. Searched starts arrows texts place) (sym same) searched;
      named = subst (AreNumbers met numbers) (sym same) are;
    }

pub finds-begins : (starts : List (List ℕ)) (arrows : List ArrowValue) (met : List (List ℕ)) (first : List ℕ) → AreNumbers met first starts
    → Finds starts arrows met (numbers_added [] first) 0
finds-begins starts arrows met first are =
    finds_these starts arrows met (numbers_added [] first) (all_added [] starts) 0 (all-added met first starts [] [] are refl)
    (search-begins starts arrows)

module _ (starts : List (List ℕ)) (arrows : List ArrowValue) (met : List (List ℕ)) (numbers : List ℕ) (place : ℕ)
    (so_far : Finds starts arrows met numbers place) where
  pub number_inside : All (λ number. number < length met) numbers
  number_inside = numbers-inside met numbers (map (text_at met) numbers) so_far.named

  named_at : place < length numbers → place_of met (text_at met (get_or numbers place 0)) ≡ Some (get_or numbers place 0)
  named_at inside =
      let texts = map (text_at met) numbers in
      sym (get_or-map (place_of met) texts place [] None (omega (arith, inside, length-map numbers (text_at met)))
      ∙ ap (place_of met) (get_or-map (text_at met) numbers place 0 [] inside))
      ∙ ap (λ all. get_or all place None) (sym so_far.named)
      ∙ get_or-map Some numbers place 0 None inside

  -- where the arrows from a number that was found lead
  pub nexts : (numbered : List NumberedArrow) → AreArrows met numbered arrows → place < length numbers
      → AreNumbers met (next_numbers numbered (get_or numbers place 0)) (next_texts arrows (text_at met (get_or numbers place 0)))
  nexts numbered are inside = next-numbers met (text_at met (get_or numbers place 0)) (get_or numbers place 0) (named_at inside)
      numbered arrows are.from are.to

  pub next_inside : (numbered : List NumberedArrow) → AreArrows met numbered arrows → place < length numbers
      → All (λ number. number < length met) (next_numbers numbered (get_or numbers place 0))
  next_inside numbered are inside =
      numbers-inside met (next_numbers numbered (get_or numbers place 0)) (next_texts arrows (text_at met (get_or numbers place 0)))
      (nexts numbered are inside)

  -- one more number was gone on from
  pub finds-goes_on : (numbered : List NumberedArrow) → AreArrows met numbered arrows → place < length numbers
      → Finds starts arrows met (numbers_added numbers (next_numbers numbered (get_or numbers place 0))) (place + 1)
  finds-goes_on numbered are inside =
      let texts = map (text_at met) numbers in
      let number = get_or numbers place 0 in
      let text = text_at met number in
      finds_these starts arrows met (numbers_added numbers (next_numbers numbered number))
      (all_added texts (next_texts arrows text)) (place + 1)
      (all-added met (next_numbers numbered number) (next_texts arrows text) numbers texts (nexts numbered are inside) so_far.named)
      (search-goes_on starts arrows texts place text so_far.searched (omega (arith, inside, length-map numbers (text_at met)))
      (sym (get_or-map (text_at met) numbers place 0 text inside)))

  pub finds-bound : length numbers ≤ length starts + length arrows
  finds-bound = let bound = search-bound starts arrows (map (text_at met) numbers) place so_far.searched
      in omega (arith, bound, length-map numbers (text_at met))

  pub finds-ends : length numbers ≤ place → FindsAll starts arrows (map (text_at met) numbers)
  finds-ends past = search-ends starts arrows (map (text_at met) numbers) place so_far.searched
      (omega (arith, past, length-map numbers (text_at met)))
