-- Bytes that are written piece by piece.
use Rattle.std.proofs.Common.{◌≡◌, ◌+◌, ◌-◌, ◌<◌, ◌≤◌, ◌++◌, ◌∙◌, ℕ, List, length, take, drop, sym, subst, ap, arith, length-append, Option}
use Rattle.std.proofs.Common.{Result, Ok, Err, OnOk, OnErr}
use Rattle.std.proofs.lemmas.List.{take_all, length-drop, take-append-le}
use Rattle.std.proofs.Math.Seq.{take-add, take-append-add, take-length}
use Rattle.std.proofs.KnownBytes.{Appends-trans, Appends-kept}
use Rattle.std.specs.Io.KnownBytes.{Appends, Keeps}
use Rattle.portsd_text.specs.Output.{AppendsFront, AppendsUpTo}

-- what is left of bytes after so many, as a slice has it
abbrev pub left_of : List ℕ → ℕ → List ℕ
left_of bytes done = take (length bytes - done) (drop done bytes)

pub left_of-drop : (bytes : List ℕ) (done : ℕ) → left_of bytes done ≡ drop done bytes
left_of-drop bytes done =
    let short : length (drop done bytes) ≤ length bytes - done = omega (arith, length-drop done bytes) in
    take_all (length bytes - done) (drop done bytes) short

pub length-left_of : (bytes : List ℕ) (done : ℕ) → length (left_of bytes done) ≡ length bytes - done
length-left_of bytes done = rw left_of-drop (length-drop done bytes)

-- a front was written, and then a front of what was left
pub goes_on : (a b c : Option (List ℕ)) (bytes : List ℕ) (done count after : ℕ) → after ≡ done + count → Appends a b (take done bytes)
    → Appends b c (take count (left_of bytes done)) → Appends a c (take after bytes)
goes_on a b c bytes done count after e written more =
    let all = Appends-trans a b c (take done bytes) (take count (left_of bytes done)) written more in
    let left : take count (left_of bytes done) ≡ take count (drop done bytes) = ap (take count) (left_of-drop bytes done) in
    let joined : take done bytes ++ take count (left_of bytes done) ≡ take after bytes =
    ap (λ (more : List ℕ). take done bytes ++ more) left ∙ sym (take-add done count bytes) ∙ ap (λ (n : ℕ). take n bytes) (sym e) in
    subst (λ (front : List ℕ). Appends a c front) joined all

-- a front was written, and a write that failed
pub stays : (a b c : Option (List ℕ)) (bytes : List ℕ) (done after : ℕ) → after ≡ done → Appends a b (take done bytes) → Keeps b c
    → Appends a c (take after bytes)
stays a b c bytes done after e written kept =
    subst (λ (n : ℕ). Appends a c (take n bytes)) (sym e) (Appends-kept a b c (take done bytes) written kept)

-- a front of the first of two texts is one of both
pub front_of_first : (a b : Option (List ℕ)) (first second : List ℕ) → AppendsFront a b first → AppendsFront a b (first ++ second)
front_of_first a b first second front =
    let short : front.0 ≤ length first = omega (arith, front.1) in
    let longer : front.0 < length (first ++ second) = omega (arith, front.1, length-append first second) in
    (front.0, longer, subst (λ (bytes : List ℕ). Appends a b bytes) (sym (take-append-le front.0 first second short)) front.2)

-- the first of two texts is written, and a front of the second
pub front_of_second : (a b c : Option (List ℕ)) (first second : List ℕ) → Appends a b first → AppendsFront b c second
    → AppendsFront a c (first ++ second)
front_of_second a b c first second written front =
    let longer : length first + front.0 < length (first ++ second) = omega (arith, front.1, length-append first second) in (
      length first + front.0,
      longer,
      subst (λ (bytes : List ℕ). Appends a c bytes) (sym (take-append-add first second front.0))
          (Appends-trans a b c first (take front.0 second) written front.2),
    )

-- whole, or a front
pub up_to : {A E : Type 0} (a b : Option (List ℕ)) (bytes : List ℕ) (r : Result A E) → OnOk r (Appends a b bytes)
    → OnErr r (AppendsFront a b bytes) → AppendsUpTo a b bytes
up_to a b bytes (Ok x) whole front = (length bytes, subst (λ (written : List ℕ). Appends a b written) (sym (take-length bytes)) whole)
up_to a b bytes (Err e) whole front = (front.0, front.2)

-- the first of three texts failed
pub first_fails : {A E : Type 0} (a b : Option (List ℕ)) (f first rest : List ℕ) (r : Result A E) → f ≡ first → AppendsFront a b f
    → OnErr r (AppendsFront a b (first ++ rest))
first_fails a b f first rest (Ok x) e front = tt
first_fails a b f first rest (Err why) e front =
    front_of_first a b first rest (subst (λ (text : List ℕ). AppendsFront a b text) e front)

-- the second of three failed
pub second_fails : {A E : Type 0} (a b c : Option (List ℕ)) (f s first second rest : List ℕ) (r : Result A E) → f ≡ first → s ≡ second
    → Appends a b f → AppendsFront b c s → OnErr r (AppendsFront a c (first ++ (second ++ rest)))
second_fails a b c f s first second rest (Ok x) e h written front = tt
second_fails a b c f s first second rest (Err why) e h written front =
    let begun : Appends a b first = subst (λ (text : List ℕ). Appends a b text) e written in
    let ended : AppendsFront b c second = subst (λ (text : List ℕ). AppendsFront b c text) h front in
    front_of_second a b c first (second ++ rest) begun (front_of_first b c second rest ended)

-- all three were written
pub three_written : {A E : Type 0} (a b c d : Option (List ℕ)) (f s t first second third : List ℕ) (r : Result A E) → f ≡ first → s ≡ second
    → t ≡ third → Appends a b f → Appends b c s → OnOk r (Appends c d t) → OnOk r (Appends a d (first ++ (second ++ third)))
three_written a b c d f s t first second third (Err why) e h i written more last = tt
three_written a b c d f s t first second third (Ok x) e h i written more last =
    let begun : Appends a b first = subst (λ (text : List ℕ). Appends a b text) e written in
    let gone_on : Appends b c second = subst (λ (text : List ℕ). Appends b c text) h more in
    let ended : Appends c d third = subst (λ (text : List ℕ). Appends c d text) i last in
    Appends-trans a b d first (second ++ third) begun (Appends-trans b c d second third gone_on ended)

-- the third of three failed
pub third_fails : {A E : Type 0} (a b c d : Option (List ℕ)) (f s t first second third : List ℕ) (r : Result A E) → f ≡ first → s ≡ second
    → t ≡ third → Appends a b f → Appends b c s → OnErr r (AppendsFront c d t) → OnErr r (AppendsFront a d (first ++ (second ++ third)))
third_fails a b c d f s t first second third (Ok x) e h i written more last = tt
third_fails a b c d f s t first second third (Err why) e h i written more last =
    let begun : Appends a b first = subst (λ (text : List ℕ). Appends a b text) e written in
    let gone_on : Appends b c second = subst (λ (text : List ℕ). Appends b c text) h more in
    let ended : AppendsFront c d third = subst (λ (text : List ℕ). AppendsFront c d text) i last in
    front_of_second a b d first (second ++ third) begun (front_of_second b c d second third gone_on ended)

-- a front of a text that is this one
pub front_along : {A E : Type 0} (a b : Option (List ℕ)) (f text : List ℕ) (r : Result A E) → f ≡ text → OnErr r (AppendsFront a b f)
    → OnErr r (AppendsFront a b text)
front_along a b f text r e front = subst (λ (bytes : List ℕ). OnErr r (AppendsFront a b bytes)) e front
