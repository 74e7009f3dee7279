-- Lists, read and written one thing after another.
use Rattle.std.proofs.Common.{◌≡◌, ℕ, suc, ◌+◌, ◌-◌, ◌<◌, ◌≤◌, List, [], ◌∷◌, ◌++◌, length, map, drop, get_or, Option, Some, None, refl}
use Rattle.std.proofs.Common.{sym, ap, subst, ◌∙◌, append_assoc, arith, drop-cons, add-one}
use Rattle.std.proofs.lemmas.List.{append-nil, drop_all, get_or-map, length-map}
use Rattle.index_row.specs.declared.unread.Unread.{Unread}
use Rattle.index_row.specs.declared.unread.Unread.TheVariants as unread
use Rattle.index_row.specs.Reads.{Read, give, read_after, ◌>>=◌, number, counted_items, list}
use Rattle.index_row.specs.Answers.{FindsNothing, Adds}
use Rattle.index_row.proofs.Adding.{Adds-give, Adds-then, Adds-last}
use Rattle.std.specs.Int.{w64}

-- what was read before, with what is still read
abbrev pub with_front : {A : Type 0} → List A → Option (List A × List ℕ) → Option (List A × List ℕ)
with_front front found = read_after found (λ others. give (front ++ others))

module _ {A : Type 0} (read : Read A) where
  regroup : (front : List A) (x : A) (found : Option (List A × List ℕ))
      → with_front front (read_after found (λ others. give (x ∷ others))) ≡ with_front (front ++ x ∷ []) found
  regroup front x None = refl
  regroup front x (Some found) = ap (λ (xs : List A). Some (xs, found.1)) (sym (append_assoc front (x ∷ []) found.0))

  items-next : (count i : ℕ) (bytes after : List ℕ) (x : A) → i < count → read bytes ≡ Some (x, after)
      → counted_items read (count - i) bytes ≡ read_after (counted_items read (count - (i + 1)) after) (λ others. give (x ∷ others))
  unfolding counted_items
  items-next count i bytes after x low is =
      let more : count - i ≡ suc (count - (i + 1)) = omega arith in
      ap (λ n. counted_items read n bytes) more
      ∙ ap (λ found. read_after found (λ first. counted_items read (count - (i + 1)) >>= λ others. give (first ∷ others))) is

  items-stop : (count i : ℕ) (bytes : List ℕ) → i < count → read bytes ≡ None → counted_items read (count - i) bytes ≡ None
  unfolding counted_items
  items-stop count i bytes low is =
      let more : count - i ≡ suc (count - (i + 1)) = omega arith in
      ap (λ n. counted_items read n bytes) more
      ∙ ap (λ found. read_after found (λ first. counted_items read (count - (i + 1)) >>= λ others. give (first ∷ others))) is

  -- a walk that reads goes on after a thing
  pub reads-on : (front : List A) (count i : ℕ) (bytes after : List ℕ) (x : A) (whole : Option (List A × List ℕ)) → i < count
      → read bytes ≡ Some (x, after)
      → with_front front (counted_items read (count - i) bytes) ≡ whole
      → with_front (front ++ x ∷ []) (counted_items read (count - (i + 1)) after) ≡ whole
  reads-on front count i bytes after x whole low is so_far =
      sym (ap (with_front front) (items-next count i bytes after x low is) ∙ regroup front x (counted_items read (count - (i + 1)) after))
      ∙ so_far

  -- it fails where no such thing is
  pub reads-fail : (stop : Unread) (front : List A) (count i : ℕ) (bytes : List ℕ) (whole : Option (List A × List ℕ)) → i < count
      → FindsNothing stop (read bytes)
      → with_front front (counted_items read (count - i) bytes) ≡ whole → FindsNothing stop whole
  reads-fail unread.Damaged front count i bytes whole low is so_far = sym so_far ∙ ap (with_front front) (items-stop count i bytes low is)
  reads-fail (unread.Memory _) front count i bytes whole low is so_far = tt

  -- it ends after the last
  pub reads-end : (front : List A) (count i : ℕ) (bytes : List ℕ) (whole : Option (List A × List ℕ)) → count ≤ i
      → with_front front (counted_items read (count - i) bytes) ≡ whole → whole ≡ Some (front, bytes)
  unfolding counted_items
  reads-end front count i bytes whole high so_far =
      let none : count - i ≡ 0 = omega arith in
      sym so_far ∙ ap (λ n. with_front front (counted_items read n bytes)) none ∙ ap (λ (xs : List A). Some (xs, bytes)) (append-nil front)

  -- What is written of things up to a place. Whatever is written after it as the things from there on, the
  -- whole is read as all things.
  pub record Written (things : List A) (i : ℕ) (start out : List ℕ) : Type 0 where
    pub then_all : (new : List ℕ) → Adds (counted_items read (length things - i)) out new (drop i things)
        → Adds (counted_items read (length things)) start new things

  pub Written-more : (things : List A) (i : ℕ) (start out more : List ℕ) (x default : A) → i < length things
      → x ≡ get_or things i default → Adds read out more x
      → Written things i start out → Written things (i + 1) start more
  unfolding counted_items
  Written-more things i start out more x default low is one so_far = record {
    then_all = λ new others.
        let k : length things - i ≡ suc (length things - (i + 1)) = omega arith in
        let cut : drop i things ≡ x ∷ drop (i + 1) things =
        drop-cons things i default low ∙ ap (λ y. y ∷ drop (suc i) things) (sym is) ∙ ap (λ n. x ∷ drop n things) (sym (add-one i)) in
        let both : Adds (counted_items read (suc (length things - (i + 1)))) out new (x ∷ drop (i + 1) things) =
        Adds-then read (λ first. counted_items read (length things - (i + 1)) >>= λ others. give (first ∷ others)) out more new x
        (x ∷ drop (i + 1) things) one
        (Adds-last (counted_items read (length things - (i + 1))) (λ others. x ∷ others) more new (drop (i + 1) things) others) in
        so_far.then_all new (subst (λ n. Adds (counted_items read n) out new (drop i things)) (sym k)
        (subst (λ xs. Adds (counted_items read (suc (length things - (i + 1)))) out new xs) (sym cut) both));
  }

  pub Written-end : (things : List A) (i : ℕ) (start out : List ℕ) → length things ≤ i → Written things i start out
      → Adds (counted_items read (length things)) start out things
  unfolding counted_items
  Written-end things i start out high so_far =
      let none : length things - i ≡ 0 = omega arith in
      let nothing : Adds (counted_items read 0) out out [] = Adds-give [] out out refl in
      so_far.then_all out
      (subst (λ n. Adds (counted_items read n) out out (drop i things)) (sym none)
      (subst (Adds (counted_items read 0) out out) (sym (drop_all i things high)) nothing))

  -- the same for things that are seen by a view
  pub Written-seen : {X : Type 0} (view : X → A) (xs : List X) (i : ℕ) (start out more : List ℕ) (item : X) (x : A) → i < length xs
      → item ≡ get_or xs i item
      → x ≡ view item → Adds read out more x → Written (map view xs) i start out → Written (map view xs) (i + 1) start more
  Written-seen view xs i start out more item x low is same one so_far =
      let at : get_or (map view xs) i x ≡ view (get_or xs i item) = get_or-map view xs i item x low in
      Written-more (map view xs) i start out more x x (omega (arith, low, length-map xs view)) (same ∙ ap view is ∙ sym at) one so_far

  pub Written-all : {X : Type 0} (view : X → A) (xs : List X) (i : ℕ) (start out : List ℕ) → length xs ≤ i
      → Written (map view xs) i start out
      → Adds (counted_items read (length xs)) start out (map view xs)
  Written-all view xs i start out high so_far =
      subst (λ n. Adds (counted_items read n) start out (map view xs)) (length-map xs view)
      (Written-end (map view xs) i start out (omega (arith, high, length-map xs view)) so_far)

  -- the count, and then the things
  pub Adds-list : (things : List A) (count : ℕ) (old mid new : List ℕ) → Adds (number w64) old mid count
      → Adds (counted_items read count) mid new things → Adds (list read) old new things
  unfolding list
  Adds-list things count old mid new counted put = Adds-then (number w64) (λ n. counted_items read n) old mid new count things counted put
