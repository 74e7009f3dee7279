-- Texts and their numbers.
use Rattle.std.proofs.Common.{◌≡◌, ◌∙◌, sym, ap, refl, subst, ℕ, zero, suc, ◌<◌, Bool, true, false, cond, eqb, List, [], ◌∷◌, ◌++◌, ◌||◌}
use Rattle.std.proofs.Common.{map, filter, drop, set, append-nil, length, get_or, Option, Some, None, option_map, arith, ◌⊎◌, inl, inr}
use Rattle.std.proofs.lemmas.Bool.{cases_lt, false≢true, eqb-true, eq-eqb}
use Rattle.std.proofs.lemmas.List.{map-append, map_push, get_or-map, length-map, get_or-set_same, get_or-set_other, get_or_append_left}
use Rattle.std.proofs.lemmas.List.{get_or_push, length_push}
use Rattle.std.proofs.lemmas.List.Elements.{All-cons, All-nil, filter-append}
use Rattle.std.proofs.lemmas.Option.{none-some, same_Some}
use Rattle.std.specs.List.{All}
use Rattle.std.specs.Str.{bytes_eq}
use Rattle.general_facts.specs.Texts.{bytes_eq-sym}
use Rattle.text_graph.specs.Arrows.{ArrowValue}
use Rattle.text_graph.specs.TextSearch.{is_among, added, all_added, next_texts}
use Rattle.text_graph.specs.Numbers.{place_of, text_at, EachOnce, AreNumbers, next_numbers, is_number_among, number_added, numbers_added}
use Rattle.text_graph.specs.declared.numbers.NumberedArrow.{NumberedArrow}
use Rattle.text_graph.proofs.Ways.{first_of, behind_first}
use Rattle.text_graph.proofs.Members.{equal_texts, equal_itself}

-- a place after a first element
record Behind (place : Option ℕ) (i : ℕ) : Type 0 where
  before : ℕ
  found : place ≡ Some before
  is : suc before ≡ i

behind : (place : Option ℕ) (i : ℕ) → option_map suc place ≡ Some i → Behind place i
behind None i is = absurd (none-some i is)
behind (Some before) i is = record { before = before; found = refl; is = same_Some (suc before) i is }

no_place : {P : Type 0} (place : Option ℕ) → option_map suc place ≡ None → (place ≡ None → P) → P
no_place None is then_so = then_so refl
no_place (Some before) is then_so = absurd (none-some (suc before) (sym is))

stays_by : (b : Bool) (i : ℕ) (old new : Option ℕ) → ((j : ℕ) → old ≡ Some j → new ≡ Some j) → cond b (Some 0) (option_map suc old) ≡ Some i
    → cond b (Some 0) (option_map suc new) ≡ Some i
stays_by true i old new stays is = is
stays_by false i old new stays is = let more = behind old i is in ap (option_map suc) (stays more.before more.found) ∙ ap Some more.is

-- a text that is among others has its place if one more is put after them
pub place-stays : (met : List (List ℕ)) (more text : List ℕ) (i : ℕ) → place_of met text ≡ Some i
    → place_of (met ++ more ∷ []) text ≡ Some i
place-stays [] more text i is = absurd (none-some i is)
place-stays (first ∷ met) more text i is = stays_by (bytes_eq text first) i (place_of met text) (place_of (met ++ more ∷ []) text)
    (λ j. place-stays met more text j) is

new_by : (b same : Bool) (n : ℕ) (old new : Option ℕ) → (old ≡ None → new ≡ cond same (Some n) None)
    → cond b (Some 0) (option_map suc old) ≡ None
    → cond b (Some 0) (option_map suc new) ≡ cond same (Some (suc n)) None
new_by true same n old new rest is = absurd (none-some 0 (sym is))
new_by false true n old new rest is = no_place old is (λ none. ap (option_map suc) (rest none))
new_by false false n old new rest is = no_place old is (λ none. ap (option_map suc) (rest none))

-- one that isn't among them is at their end if it is put there
pub place-new : (met : List (List ℕ)) (more text : List ℕ) → place_of met text ≡ None → place_of (met ++ more ∷ []) text ≡ cond
    (bytes_eq text more) (Some (length met)) None
place-new [] more text is = refl
place-new (first ∷ met) more text is = new_by (bytes_eq text first) (bytes_eq text more) (length met) (place_of met text)
    (place_of (met ++ more ∷ []) text) (place-new met more text) is

-- where a text is
pub record Stands (met : List (List ℕ)) (text : List ℕ) (i : ℕ) : Type 0 where
  pub inside : i < length met
  pub is : text_at met i ≡ text

stands_by : (first : List ℕ) (met : List (List ℕ)) (text : List ℕ) (i : ℕ) (b : Bool) → bytes_eq text first ≡ b
    → ((j : ℕ) → place_of met text ≡ Some j → Stands met text j)
    → cond b (Some 0) (option_map suc (place_of met text)) ≡ Some i → Stands (first ∷ met) text i
stands_by first met text i true same rest is =
    subst (Stands (first ∷ met) text) (same_Some 0 i is) (record { inside = omega arith; is = sym (equal_texts text first same) })
stands_by first met text i false same rest is =
    let more = behind (place_of met text) i is in
    let found = rest more.before more.found in
    subst (Stands (first ∷ met) text) more.is (record { inside = omega (arith, found.inside); is = found.is })

pub stands : (met : List (List ℕ)) (text : List ℕ) (i : ℕ) → place_of met text ≡ Some i → Stands met text i
stands [] text i is = absurd (none-some i is)
stands (first ∷ met) text i is = stands_by first met text i (bytes_eq text first) refl (stands met text) is

-- two lists whose first elements and whose others are the same
same_first : {X : Type 0} (x y : X) (xs ys : List X) → x ∷ xs ≡ y ∷ ys → x ≡ y
same_first x y xs ys is = ap (λ all. get_or all 0 x) is

same_others : {X : Type 0} (x y : X) (xs ys : List X) → x ∷ xs ≡ y ∷ ys → xs ≡ ys
same_others x y xs ys is = ap (drop 1) is

not_both : {X P : Type 0} (x : X) (xs : List X) → [] ≡ x ∷ xs → P
not_both x xs is = absurd (let none : 0 ≡ suc (length xs) = ap length is in omega (arith, none))

-- numbers stay those of the same texts as long as texts keep their places
pub numbers-stay : (old new : List (List ℕ)) → ((text : List ℕ) (i : ℕ) → place_of old text ≡ Some i → place_of new text ≡ Some i)
    → (numbers : List ℕ) (texts : List (List ℕ))
    → AreNumbers old numbers texts → AreNumbers new numbers texts
numbers-stay old new keeps [] [] are = refl
numbers-stay old new keeps [] (text ∷ texts) are = not_both (place_of old text) (map (place_of old) texts) are
numbers-stay old new keeps (number ∷ numbers) [] are = not_both (Some number) (map Some numbers) (sym are)
numbers-stay old new keeps (number ∷ numbers) (text ∷ texts) are =
    let first = keeps text number (sym (same_first (Some number) (place_of old text) (map Some numbers) (map (place_of old) texts) are)) in
    let others = numbers-stay old new keeps numbers texts (same_others (Some number) (place_of old text) (map Some numbers)
    (map (place_of old) texts) are) in
    λ i. sym first i ∷ others i

-- the texts that have these numbers
pub texts-named : (met : List (List ℕ)) (numbers : List ℕ) (texts : List (List ℕ)) → AreNumbers met numbers texts
    → map (text_at met) numbers ≡ texts
texts-named met [] [] are = refl
texts-named met [] (text ∷ texts) are = not_both (place_of met text) (map (place_of met) texts) are
texts-named met (number ∷ numbers) [] are = not_both (Some number) (map Some numbers) (sym are)
texts-named met (number ∷ numbers) (text ∷ texts) are =
    let first = stands met text number
    (sym (same_first (Some number) (place_of met text) (map Some numbers) (map (place_of met) texts) are)) in
    let others = texts-named met numbers texts (same_others (Some number) (place_of met text) (map Some numbers)
    (map (place_of met) texts) are) in
    λ i. first.is i ∷ others i

pub numbers-inside : (met : List (List ℕ)) (numbers : List ℕ) (texts : List (List ℕ)) → AreNumbers met numbers texts
    → All (λ number. number < length met) numbers
numbers-inside met [] texts are = All-nil (λ number. number < length met)
numbers-inside met (number ∷ numbers) [] are = not_both (Some number) (map Some numbers) (sym are)
numbers-inside met (number ∷ numbers) (text ∷ texts) are =
    let first = stands met text number
    (sym (same_first (Some number) (place_of met text) (map Some numbers) (map (place_of met) texts) are)) in
    All-cons (λ number. number < length met) number numbers first.inside
    (numbers-inside met numbers texts (same_others (Some number) (place_of met text) (map Some numbers) (map (place_of met) texts) are))

pub numbers-more : (met : List (List ℕ)) (numbers more : List ℕ) (texts others : List (List ℕ)) → AreNumbers met numbers texts
    → AreNumbers met more others
    → AreNumbers met (numbers ++ more) (texts ++ others)
numbers-more met numbers more texts others are too =
    map-append Some numbers more ∙ ap (λ all. all ++ map Some more) are ∙ ap (λ all. map (place_of met) texts ++ all) too
    ∙ sym (map-append (place_of met) texts others)

-- two texts are the same just if their numbers are
same-by : (met : List (List ℕ)) (text other : List ℕ) (number place : ℕ) (b c : Bool) → place_of met text ≡ Some number
    → place_of met other ≡ Some place
    → eqb number place ≡ b → bytes_eq text other ≡ c → b ≡ c
same-by met text other number place true true is too b c = refl
same-by met text other number place false false is too b c = refl
same-by met text other number place true false is too b c =
    let same : text ≡ other = sym (stands met text number is).is ∙ ap (text_at met) (eqb-true number place b)
    ∙ (stands met other place too).is in
    sym (sym c ∙ ap (bytes_eq text) (sym same) ∙ equal_itself text)
same-by met text other number place false true is too b c =
    let same : number ≡ place = same_Some number place (sym is ∙ ap (place_of met) (equal_texts text other c) ∙ too) in
    sym b ∙ eq-eqb number place same

pub same-numbers : (met : List (List ℕ)) (text other : List ℕ) (number place : ℕ) → place_of met text ≡ Some number
    → place_of met other ≡ Some place → eqb number place ≡ bytes_eq text other
same-numbers met text other number place is too = same-by met text other number place (eqb number place)
    (bytes_eq text other) is too refl refl

-- a text is among others just if its number is among theirs
pub among-numbers : (met : List (List ℕ)) (text : List ℕ) (number : ℕ) → place_of met text ≡ Some number
    → (numbers : List ℕ) (texts : List (List ℕ)) → AreNumbers met numbers texts
    → is_number_among number numbers ≡ is_among text texts
among-numbers met text number is [] [] are = refl
among-numbers met text number is [] (other ∷ texts) are = not_both (place_of met other) (map (place_of met) texts) are
among-numbers met text number is (place ∷ numbers) [] are = not_both (Some place) (map Some numbers) (sym are)
among-numbers met text number is (place ∷ numbers) (other ∷ texts) are =
    let first = same-numbers met text other number place is
    (sym (same_first (Some place) (place_of met other) (map Some numbers) (map (place_of met) texts) are)) in
    let others = among-numbers met text number is numbers texts (same_others (Some place) (place_of met other) (map Some numbers)
    (map (place_of met) texts) are) in
    λ i. first i || others i

added_by : (met : List (List ℕ)) (text : List ℕ) (number : ℕ) (numbers : List ℕ) (texts : List (List ℕ)) (b c : Bool) → b ≡ c
    → place_of met text ≡ Some number → AreNumbers met numbers texts
    → AreNumbers met (cond b numbers (numbers ++ number ∷ [])) (cond c texts (texts ++ text ∷ []))
added_by met text number numbers texts true true same is are = are
added_by met text number numbers texts false false same is are =
    numbers-more met numbers (number ∷ []) texts (text ∷ []) are (λ i. sym is i ∷ [])
added_by met text number numbers texts true false same is are = absurd (false≢true (sym same))
added_by met text number numbers texts false true same is are = absurd (false≢true same)

-- one more text, and its number
pub one-added : (met : List (List ℕ)) (text : List ℕ) (number : ℕ) (numbers : List ℕ) (texts : List (List ℕ))
    → place_of met text ≡ Some number → AreNumbers met numbers texts
    → AreNumbers met (number_added numbers number) (added texts text)
one-added met text number numbers texts is are =
    added_by met text number numbers texts (is_number_among number numbers) (is_among text texts)
    (among-numbers met text number is numbers texts are) is are

pub all-added : (met : List (List ℕ)) (more : List ℕ) (others : List (List ℕ)) (numbers : List ℕ) (texts : List (List ℕ))
    → AreNumbers met more others → AreNumbers met numbers texts
    → AreNumbers met (numbers_added numbers more) (all_added texts others)
all-added met [] [] numbers texts too are = are
all-added met [] (other ∷ others) numbers texts too are = not_both (place_of met other) (map (place_of met) others) too
all-added met (number ∷ more) [] numbers texts too are = not_both (Some number) (map Some more) (sym too)
all-added met (number ∷ more) (other ∷ others) numbers texts too are =
    all-added met more others (number_added numbers number) (added texts other)
    (same_others (Some number) (place_of met other) (map Some more) (map (place_of met) others) too)
    (one-added met other number numbers texts
    (sym (same_first (Some number) (place_of met other) (map Some more) (map (place_of met) others) too)) are)

abbrev pub begins : List NumberedArrow → List ℕ
begins arrows = map (λ (arrow : NumberedArrow). arrow.from) arrows

abbrev pub ends : List NumberedArrow → List ℕ
ends arrows = map (λ (arrow : NumberedArrow). arrow.to) arrows

abbrev pub texts_from : List ArrowValue → List (List ℕ)
texts_from arrows = map (λ (arrow : ArrowValue). arrow.from) arrows

abbrev pub texts_to : List ArrowValue → List (List ℕ)
texts_to arrows = map (λ (arrow : ArrowValue). arrow.to) arrows

kept_by : (met : List (List ℕ)) (numbered : NumberedArrow) (arrow : ArrowValue) (b c : Bool) → b ≡ c
    → place_of met arrow.to ≡ Some numbered.to
    → (others : List NumberedArrow) (more : List ArrowValue) → AreNumbers met (ends others) (texts_to more)
    → AreNumbers met (ends (cond b (numbered ∷ others) others)) (texts_to (cond c (arrow ∷ more) more))
kept_by met numbered arrow true true same is others more are = λ i. sym is i ∷ are i
kept_by met numbered arrow false false same is others more are = are
kept_by met numbered arrow true false same is others more are = absurd (false≢true (sym same))
kept_by met numbered arrow false true same is others more are = absurd (false≢true same)

-- the numbers of the texts where the arrows from a text lead
pub next-numbers : (met : List (List ℕ)) (text : List ℕ) (number : ℕ) → place_of met text ≡ Some number
    → (numbered : List NumberedArrow) (arrows : List ArrowValue)
    → AreNumbers met (begins numbered) (texts_from arrows) → AreNumbers met (ends numbered) (texts_to arrows)
    → AreNumbers met (next_numbers numbered number) (next_texts arrows text)
next-numbers met text number is [] [] from to = refl
next-numbers met text number is [] (arrow ∷ arrows) from to = not_both (place_of met arrow.from)
    (map (place_of met) (texts_from arrows)) from
next-numbers met text number is (first ∷ numbered) [] from to = not_both (Some first.from) (map Some (begins numbered)) (sym from)
next-numbers met text number is (first ∷ numbered) (arrow ∷ arrows) from to =
    let begins_there = same-numbers met text arrow.from number first.from is
    (sym (same_first (Some first.from) (place_of met arrow.from) (map Some (begins numbered))
    (map (place_of met) (texts_from arrows)) from)) in
    kept_by met first arrow (eqb number first.from) (bytes_eq text arrow.from) begins_there
    (sym (same_first (Some first.to) (place_of met arrow.to) (map Some (ends numbered)) (map (place_of met) (texts_to arrows)) to))
    (filter (λ (arrow : NumberedArrow). eqb number arrow.from) numbered) (filter (λ (arrow : ArrowValue). bytes_eq text arrow.from) arrows)
    (next-numbers met text number is numbered arrows
    (same_others (Some first.from) (place_of met arrow.from) (map Some (begins numbered)) (map (place_of met) (texts_from arrows)) from)
    (same_others (Some first.to) (place_of met arrow.to) (map Some (ends numbered)) (map (place_of met) (texts_to arrows)) to))

option_cases : {X : Type 0} (found : Option X) → (found ≡ None) ⊎ ((x : X) × (found ≡ Some x))
option_cases None = inl refl
option_cases (Some x) = inr (x, refl)

place_cases : (met : List (List ℕ)) (text : List ℕ) → (place_of met text ≡ None) ⊎ ((place : ℕ) × (place_of met text ≡ Some place))
place_cases met text = option_cases (place_of met text)

-- one more text that was met
module _ (met : List (List ℕ)) (more : List ℕ) (new : place_of met more ≡ None) where
  pub place-last : place_of (met ++ more ∷ []) more ≡ Some (length met)
  place-last = place-new met more more new ∙ ap (λ same. cond same (Some (length met)) None) (equal_itself more)

  pub once-more : EachOnce met → EachOnce (met ++ more ∷ [])
  once-more once place inside =
      elim (cases_lt place (length met)) [
        | inl before ↦ ap (place_of (met ++ more ∷ [])) (get_or_append_left met (more ∷ []) [] place before)
            ∙ place-stays met more (text_at met place) place (once place before)
        | inr past ↦
            let last : length met ≡ place = omega (arith, inside, past, length_push met more) in
            ap (place_of (met ++ more ∷ [])) (get_or_push met more [] place last) ∙ place-last ∙ ap Some last
      ]

  pub place-more_by : (text : List ℕ) (same : Bool) → bytes_eq more text ≡ same → cond same (Some (length met)) (place_of met text) ≡
      place_of (met ++ more ∷ []) text
  place-more_by text true is = sym (ap (place_of (met ++ more ∷ [])) (sym (equal_texts more text is)) ∙ place-last)
  place-more_by text false is = elim (place_cases met text) [
    | inl none ↦ none ∙ sym (place-new met more text none ∙ ap (λ same. cond same (Some (length met)) None) (bytes_eq-sym text more ∙ is))
    | inr some ↦ some.1 ∙ sym (place-stays met more text some.0 some.1)
  ]

-- one number more, of one text more, after maybe more texts were met
pub numbers-next : (old new : List (List ℕ)) → ((text : List ℕ) (i : ℕ) → place_of old text ≡ Some i → place_of new text ≡ Some i)
    → (numbers : List ℕ) (texts : List (List ℕ)) (number : ℕ) (text : List ℕ)
    → AreNumbers old numbers texts → place_of new text ≡ Some number → AreNumbers new (numbers ++ number ∷ []) (texts ++ text ∷ [])
numbers-next old new keeps numbers texts number text are is =
    numbers-more new numbers (number ∷ []) texts (text ∷ []) (numbers-stay old new keeps numbers texts are) (λ i. sym is i ∷ [])

stepped_by : (kept : List (List ℕ)) (before : List NumberedArrow) (arrow : NumberedArrow) (number : ℕ) (b : Bool)
    → eqb number arrow.from ≡ b → arrow.from < length kept
    → get_or kept number [] ≡ next_numbers before number
    → get_or (set kept arrow.from (get_or kept arrow.from [] ++ arrow.to ∷ [])) number [] ≡ ends
    (filter (λ (arrow : NumberedArrow). eqb number arrow.from) before ++ cond b (arrow ∷ []) [])
stepped_by kept before arrow number true is inside so_far =
    let same : number ≡ arrow.from = eqb-true number arrow.from is in
    ap (λ place. get_or (set kept arrow.from (get_or kept arrow.from [] ++ arrow.to ∷ [])) place []) same
    ∙ get_or-set_same kept arrow.from (get_or kept arrow.from [] ++ arrow.to ∷ []) [] inside
    ∙ ap (λ place. get_or kept place [] ++ arrow.to ∷ []) (sym same)
    ∙ ap (λ all. all ++ arrow.to ∷ []) so_far
    ∙ sym (map_push (λ (arrow : NumberedArrow). arrow.to) (filter (λ (arrow : NumberedArrow). eqb number arrow.from) before) arrow)
stepped_by kept before arrow number false is inside so_far =
    get_or-set_other kept arrow.from number (get_or kept arrow.from [] ++ arrow.to ∷ []) []
    (λ same. false≢true (sym is ∙ eq-eqb number arrow.from same))
    ∙ so_far
    ∙ ap ends (sym (append-nil (filter (λ (arrow : NumberedArrow). eqb number arrow.from) before)))

-- where arrows lead, with one arrow more
pub stepped : (kept : List (List ℕ)) (before : List NumberedArrow) (arrow : NumberedArrow) (number : ℕ) → arrow.from < length kept
    → get_or kept number [] ≡ next_numbers before number
    → get_or (set kept arrow.from (get_or kept arrow.from [] ++ arrow.to ∷ [])) number [] ≡ next_numbers (before ++ arrow ∷ []) number
stepped kept before arrow number inside so_far =
    stepped_by kept before arrow number (eqb number arrow.from) refl inside so_far
    ∙ ap ends (sym (filter-append (λ (arrow : NumberedArrow). eqb number arrow.from) before (arrow ∷ [])))

-- nothing is kept where each is empty
pub all-nothing : {X : Type 0} (f : X → List ℕ) (kept : List X) → All (λ x. f x ≡ []) kept → (place : ℕ) → get_or (map f kept) place [] ≡ []
all-nothing f [] all place = refl
all-nothing f (x ∷ kept) all zero = first_of (λ x. f x ≡ []) x kept all
all-nothing f (x ∷ kept) all (suc place) = all-nothing f kept (behind_first (λ x. f x ≡ []) x kept all) place

-- what holds of all images holds of the elements
pub all-mapped : {X Y : Type 0} (P : Y → Type 0) (f : X → Y) (xs : List X) → All P (map f xs) → All (λ x. P (f x)) xs
all-mapped P f xs all = λ k d inside. subst P (get_or-map f xs k d (f d) inside)
    (all k (f d) (subst (λ n. k < n) (sym (length-map xs f)) inside))
