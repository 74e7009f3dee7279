-- The order of versions is total, and ties only at one text. The laws of `Ord` cite these.
use Rattle.std.proofs.Common.{◌≡◌, ℕ, List, Some, true, ◌∙◌, sym}
use Rattle.std.specs.Ordering.{eq_by_cmp, ordering_then}
use Rattle.std.specs.declared.cmp.Ordering.{Ordering}
use Rattle.std.specs.declared.cmp.Ordering.TheVariants.{Less, Equal, Greater}
use Rattle.std.specs.Cmp.{Equal-is, IsPartialOrder, IsTotalOrder, both_ways, nat_cmp_total, on_total, po, then_total, tied_itself}
use Rattle.std.specs.Cmp.Lexicographic.{slice_cmp, lists_total, options_total, nat_list_cmp_total, nat_list_eq_equiv, texts_ties}
use Rattle.std.specs.Str.{bytes_eq}
use Rattle.std.specs.FinMap.{nat_cmp-IsAntisymmetric, slice_cmp-IsAntisymmetric}
use Rattle.pkg_name.specs.Order.{PartKey, VersionKey, version_key, number_cmp, text_cmp, letters_rank, letters_cmp}
use Rattle.pkg_name.specs.Order.{part_cmp, key_cmp, version_cmp}

pub number_total : IsTotalOrder number_cmp
number_total = options_total nat_cmp_total

pub letters_total : IsTotalOrder letters_cmp
letters_total = then_total (on_total letters_rank nat_cmp_total) nat_list_cmp_total

pub part_total : IsTotalOrder part_cmp
part_total =
    then_total (on_total (λ (key : PartKey). key.number) number_total)
    (then_total (on_total (λ (key : PartKey). key.letters) letters_total)
    (then_total (on_total (λ (key : PartKey). key.second) number_total)
    (on_total (λ (key : PartKey). key.rest) nat_list_cmp_total)))

pub key_total : IsTotalOrder key_cmp
key_total =
    then_total (on_total (λ (key : VersionKey). key.epoch) number_total)
    (then_total (on_total (λ (key : VersionKey). key.parts) (lists_total part_total))
    (then_total (on_total (λ (key : VersionKey). key.revision) number_total)
    (on_total (λ (key : VersionKey). key.text) nat_list_cmp_total)))

pub version_cmp_total : IsTotalOrder version_cmp
version_cmp_total = on_total version_key key_total

-- if two orders, one after the other, tie, the second ties
second_ties : (r s : Ordering) → ordering_then r s ≡ Equal → s ≡ Equal
second_ties Less s e = cc e
second_ties Equal s e = e
second_ties Greater s e = cc e

-- two texts that tie as texts are the same
pub text_cmp-same : (a b : List ℕ) → text_cmp a b ≡ Equal → a ≡ b
text_cmp-same = slice_cmp-IsAntisymmetric nat_cmp-IsAntisymmetric

-- two versions that tie are the same text, since the text is the last key
pub version_cmp-same : (a b : List ℕ) → version_cmp a b ≡ Equal → a ≡ b
version_cmp-same a b e =
    let x = version_key a in
    let y = version_key b in
    let after_revision = text_cmp a b in
    let after_parts = ordering_then (number_cmp x.revision y.revision) after_revision in
    let after_epoch = ordering_then (slice_cmp part_cmp x.parts y.parts) after_parts in
    text_cmp-same a b
    (second_ties (number_cmp x.revision y.revision) after_revision
    (second_ties (slice_cmp part_cmp x.parts y.parts) after_parts
    (second_ties (number_cmp x.epoch y.epoch) after_epoch e)))

-- a version ties with itself
pub version_cmp-itself : (a : List ℕ) → version_cmp a a ≡ Equal
version_cmp-itself a = tied_itself version_cmp_total a

-- texts that `==` holds of are the same
pub bytes_eq-same : (a b : List ℕ) → bytes_eq a b ≡ true → a ≡ b
bytes_eq-same a b e = text_cmp-same a b ((Equal-is (text_cmp a b)).0 (sym (texts_ties a b) ∙ e))

-- `==` holds exactly if the order ties
pub version_cmp_ties : (a b : List ℕ) → bytes_eq a b ≡ eq_by_cmp version_cmp a b
version_cmp_ties a b = both_ways (bytes_eq a b) (eq_by_cmp version_cmp a b)
    (λ e. rw (bytes_eq-same a b e) ((Equal-is (version_cmp b b)).1 (version_cmp-itself b)))
    (λ e. rw (version_cmp-same a b ((Equal-is (version_cmp a b)).0 e)) (nat_list_eq_equiv.refl b))

pub version_po : IsPartialOrder bytes_eq (λ a b. Some (version_cmp a b))
version_po = po version_cmp_total version_cmp_ties
