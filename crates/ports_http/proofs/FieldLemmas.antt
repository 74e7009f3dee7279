-- The values of a field, one field after another.
use Rattle.std.proofs.Common.{◌≡◌, ℕ, ◌+◌, ◌<◌, true, false, if◌then◌else◌, List, [], ◌∷◌, ◌++◌, length, take, get_or, refl, ap, arith}
use Rattle.std.proofs.Common.{add-one, length-append, append-nil}
use Rattle.std.proofs.Math.Seq.{take-suc}
use Rattle.std.proofs.lemmas.List.{map-append}
use Rattle.httparse.specs.Spans.{span_bytes, IsWithin, header_bytes}
use Rattle.httparse.specs.declared.spans.Span.{Span}
use Rattle.httparse.specs.declared.spans.HeaderSpan.{HeaderSpan}
use Rattle.ports_http.specs.declared.fields.Occurs.{Occurs}
use Rattle.ports_http.specs.declared.fields.Occurs.TheVariants.{Never, Once, Often}
use Rattle.ports_http.specs.Fields.{NamedField, field_values, is_named}
use Rattle.ports_http.specs.Spans.{OccursAs, with_one, named}

pub field_values-append : (name : List ℕ) (xs ys : List NamedField)
    → field_values name (xs ++ ys) ≡ field_values name xs ++ field_values name ys
unfolding field_values
field_values-append name [] ys = refl
field_values-append name (x ∷ xs) ys =
    elim (is_named name x) as (λ b. (if b then x.1 ∷ field_values name (xs ++ ys) else field_values name (xs ++ ys))
    ≡ (if b then x.1 ∷ field_values name xs else field_values name xs) ++ field_values name ys) [
      | true ↦ ap (λ vs. x.1 ∷ vs) (field_values-append name xs ys)
      | false ↦ field_values-append name xs ys
    ]

-- the values of the fields up to the next one
up_to_next : (buf name : List ℕ) (fields : List HeaderSpan) (i : ℕ) (d : HeaderSpan) → i < length fields
    → field_values name (named buf (take (i + 1) fields))
    ≡ field_values name (named buf (take i fields)) ++ field_values name (header_bytes buf (get_or fields i d) ∷ [])
up_to_next buf name fields i d h =
    rw (add-one, take-suc fields i d h, map-append (header_bytes buf) (take i fields))
    (field_values-append name (named buf (take i fields)) (header_bytes buf (get_or fields i d) ∷ []))

-- one more occurrence
with_one_more : (buf : List ℕ) (occurs : Occurs) (value : Span) (values : List (List ℕ)) → IsWithin (length buf) value
    → OccursAs buf occurs values → OccursAs buf (with_one occurs value) (values ++ span_bytes buf value ∷ [])
with_one_more buf Never value values within h = (within, ap (λ vs. vs ++ span_bytes buf value ∷ []) h)
with_one_more buf (Once other) value values within h =
    let e = ap length h.1 in omega (arith, e, length-append values (span_bytes buf value ∷ []))
with_one_more buf Often value values within h =
    let n : 1 < length values = h in omega (arith, length-append values (span_bytes buf value ∷ []))

one_value : (name : List ℕ) (field : NamedField) → is_named name field ≡ true
    → field_values name (field ∷ []) ≡ field.1 ∷ []
unfolding field_values
one_value name field e = rw e refl

no_value : (name : List ℕ) (field : NamedField) → is_named name field ≡ false → field_values name (field ∷ []) ≡ []
unfolding field_values
no_value name field e = rw e refl

-- an occurrence at the next field, where it has the name
pub occurs_next : (buf name : List ℕ) (fields : List HeaderSpan) (i : ℕ) (d : HeaderSpan) (occurs : Occurs)
    → i < length fields → is_named name (header_bytes buf (get_or fields i d)) ≡ true
    → IsWithin (length buf) (get_or fields i d).value
    → OccursAs buf occurs (field_values name (named buf (take i fields)))
    → OccursAs buf (with_one occurs (get_or fields i d).value) (field_values name (named buf (take (i + 1) fields)))
occurs_next buf name fields i d occurs h e within occurs_so =
    rw (up_to_next buf name fields i d h, one_value name (header_bytes buf (get_or fields i d)) e)
    (with_one_more buf occurs (get_or fields i d).value _ within occurs_so)

-- none there, where it has another name
pub occurs_not_next : (buf name : List ℕ) (fields : List HeaderSpan) (i : ℕ) (d : HeaderSpan) (occurs : Occurs)
    → i < length fields → is_named name (header_bytes buf (get_or fields i d)) ≡ false
    → OccursAs buf occurs (field_values name (named buf (take i fields)))
    → OccursAs buf occurs (field_values name (named buf (take (i + 1) fields)))
occurs_not_next buf name fields i d occurs h e occurs_so =
    rw (up_to_next buf name fields i d h, no_value name (header_bytes buf (get_or fields i d)) e, append-nil)
    occurs_so
