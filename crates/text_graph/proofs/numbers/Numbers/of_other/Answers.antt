-- A text that wasn't met is put after the others.
use Rattle.std.proofs.Common.{◌≡◌, ◌∙◌, sym, ap, subst, arith, ℕ, List, [], ◌∷◌, ◌++◌, length, Option, None, Some, Bor}
use Rattle.std.proofs.lemmas.List.{map-append, length-map}
use Rattle.std.proofs.lemmas.Map.Text.{btree_map_updates_str}
use Rattle.std.specs.BTreeMap as tree
use Rattle.std.specs.BTreeMap.{UpdatesBy}
use Rattle.std.specs.Cmp.Lexicographic.{slice_cmp}
use Rattle.std.specs.Ordering.{nat_cmp}
use Rattle.text_parts.specs.Cuts.{now_all}
use Rattle.text_graph.specs.Numbers.{place_of, texts_met, EachOnce}
use Rattle.text_graph.specs.Slots.{slot_of, other_of}
use Rattle.text_graph.proofs.Numbered.{place-stays, place-last, once-more}
use Rattle.text_graph.proofs.Slots.{Knows, among_others, knows-other}
use Rattle.text_graph.proofs.numbers.Numbers.of_other.Goals as goal

abbrev now : Bor (List ℕ) → List ℕ
now text = text.now

pub returns-clause-number : goal.returns-clause-number
returns-clause-number c =
    let old = c.args.self.now in
    let met = texts_met old in
    let text = c.args.text.now in
    let kept = c.requires.numbering in
    let so_far : Knows slot_of met old.first.items (other_of old) =
    record { inside = kept.inside; spare = kept.spare; knows = kept.knows } in
    let new : place_of met text ≡ None = among_others slot_of met old.first.items (other_of old) so_far text c.requires.other.first
    c.requires.other.kept c.requires.other.differs ∙ sym c.in_default.ensures.value in
    let after : now_all c.push.new.self.items ≡ met ++ text ∷ [] = ap now_all c.in_ok-push.ensures.items
    ∙ map-append now old.texts.items (c.args.text ∷ []) in
    let count : length met ≡ c.len-number.result = omega (arith, c.len-number.ensures, length-map old.texts.items now) in
    ap (λ met. place_of met text) after ∙ place-last met text new ∙ ap Some count

pub returns-clause-more : goal.returns-clause-more
returns-clause-more c =
    let old = c.args.self.now in
    let met = texts_met old in
    let text = c.args.text.now in
    let kept = c.requires.numbering in
    let so_far : Knows slot_of met old.first.items (other_of old) =
    record { inside = kept.inside; spare = kept.spare; knows = kept.knows } in
    let new : place_of met text ≡ None = among_others slot_of met old.first.items (other_of old) so_far text c.requires.other.first
    c.requires.other.kept c.requires.other.differs ∙ sym c.in_default.ensures.value in
    let after : now_all c.push.new.self.items ≡ met ++ text ∷ [] = ap now_all c.in_ok-push.ensures.items
    ∙ map-append now old.texts.items (c.args.text ∷ []) in
    let count : c.len-number.result ≡ length met = omega (arith, c.len-number.ensures, length-map old.texts.items now) in
    let others : List ℕ → Option ℕ = λ q. tree.get_by (λ key. slice_cmp nat_cmp q key.now) c.insert.new.self in
    let updates : UpdatesBy (λ x y. slice_cmp nat_cmp x.now y.now) (λ key. slice_cmp nat_cmp text key.now) old.others
    c.insert.new.self (Some (length met)) =
    subst (λ number. UpdatesBy (λ x y. slice_cmp nat_cmp x.now y.now) (λ key. slice_cmp nat_cmp text key.now) old.others c.insert.new.self
    (Some number)) count c.in_ok-insert.ensures.updates in
    let all : Knows slot_of (now_all c.push.new.self.items) old.first.items others =
    subst (λ met. Knows slot_of met old.first.items others) (sym after)
    (knows-other slot_of met old.first.items (other_of old) so_far text c.requires.other.first c.requires.other.kept
    c.requires.other.differs new others
    (λ q. btree_map_updates_str text old.others c.insert.new.self (Some (length met)) updates q)) in
    record {
      numbering = record {
        slots = kept.slots;
        inside = all.inside;
        spare = all.spare;
        knows = all.knows;
        once = subst EachOnce (sym after) (once-more met text new kept.once);
      };
      keeps = λ other number is. ap (λ met. place_of met other) after ∙ place-stays met text other number is;
    }
