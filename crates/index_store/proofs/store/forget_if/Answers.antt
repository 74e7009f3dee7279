-- The path is taken out.
use Rattle.std.proofs.Common.{◌≡◌, ◌∙◌, ap, sym, refl, Bool, true, false, ◌&&◌, cond, if◌then◌else◌}
use Rattle.std.proofs.lemmas.Map.Text.{btree_set_updates_text}
use Rattle.std.specs.BTreeSet.{contains_text}
use Rattle.std.specs.Str.{bytes_eq}
use Rattle.index_store.proofs.store.forget_if.Goals as goal

cond-if : (a b : Bool) → cond a false b ≡ (if a then false else b)
cond-if true b = refl
cond-if false b = refl

pub returns-then-is_new : goal.returns-then-is_new
returns-then-is_new c = λ other.
    let had = contains_text c.args.noted.now other in
    let path = c.args.path.now in
    btree_set_updates_text path c.args.noted.now c.remove-was_there.new.self false c.remove-was_there.ensures.updates other
    ∙ cond-if (bytes_eq path other) had
    ∙ sym (ap (λ (b : Bool). if b && bytes_eq path other then false else had) c.if-is_new.true)
