-- The next path is taken out too.
use Rattle.std.proofs.Common.{◌≡◌, ◌∙◌, ap, sym, refl, Bool, true, false, ◌||◌, cond, if◌then◌else◌, [], ◌∷◌, ◌++◌, map, take, string_bytes}
use Rattle.std.proofs.lemmas.List.{map-append, take_more}
use Rattle.std.proofs.lemmas.List.Folds.{list_any-append}
use Rattle.std.proofs.lemmas.Map.Text.{btree_set_updates_text}
use Rattle.std.specs.BTreeSet.{contains_text}
use Rattle.std.specs.Str.{bytes_eq}
use Rattle.index_store.specs.Entries.{is_one_of}
use Rattle.index_store.proofs.store.forget.Goals as goal

either : (same before had now : Bool) → now ≡ (if before then false else had)
    → cond same false now ≡ (if before || (same || false) then false else had)
either true true had now is = refl
either true false had now is = refl
either false true had now is = is
either false false had now is = is

pub loop-path-preserved : goal.loop-path-preserved
loop-path-preserved c = λ other.
    let passed = take c.loop-path.path-index c.args.paths.now in
    let had = contains_text c.args.noted.now other in
    let before = is_one_of other (map string_bytes passed) in
    let path = c.as_str.result.now in
    let more = ap (λ paths. is_one_of other (map string_bytes paths))
    (take_more c.args.paths.now c.loop-path.path-index c.path-item.result c.loop-path-test.true
    ∙ ap (λ one. passed ++ one ∷ []) (sym c.path-item.is))
    ∙ ap (is_one_of other) (map-append string_bytes passed (c.path-item.result ∷ []))
    ∙ list_any-append (λ one. bytes_eq one other) (map string_bytes passed) (string_bytes c.path-item.result ∷ [])
    ∙ ap (λ text. before || (bytes_eq text other || false)) (sym c.as_str.ensures.value) in
    btree_set_updates_text path c.loop-path.noted c.remove-was_there.new.self false c.remove-was_there.ensures.updates other
    ∙ either (bytes_eq path other) before had (contains_text c.loop-path.noted other) (c.loop-path.invariant other)
    ∙ sym (ap (λ (b : Bool). if b then false else had) more)
