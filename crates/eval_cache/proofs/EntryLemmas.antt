-- The entries of the tables stay right.
use Rattle.std.proofs.Common.{◌≡◌, ◌∙◌, ap, refl, sym, subst, cond, ◌||◌, Bool, true, false, List, [], ◌∷◌, map, Option, Some, None}
use Rattle.std.proofs.Common.{option_map, is_some, unwrap_or, inl, inr, Result, Global, arith}
use Rattle.std.specs.List.{list_any}
use Rattle.std.specs.Option.{option_map_or}
use Rattle.std.specs.Map.{lookup, lookup_entry, remove_entry, keys_of}
use Rattle.std.proofs.lemmas.Bool.{true≢false}
use Rattle.std.proofs.lemmas.Map.Made.{is_some-lookup}
use Rattle.std.specs.Str.{bytes_eq}
use Rattle.std.specs.declared.rc.Rc.{Rc}
use Rattle.std.specs.declared.vec.Vec.{Vec}
use Rattle.std.proofs.lemmas.Slice.Eq.{bytes_eq-Decides}
use Rattle.lru.specs.LruCache.{LruCache, promoted}
use Rattle.eval_cache.specs.declared.purpose.Purpose.{Purpose}
use Rattle.eval_cache.specs.CacheOrder.{PutsNew}
use Rattle.eval_cache.proofs.PlaceLemmas.{Contains-PutsNew}
use Rattle.lru.proofs.CallerLemmas.{Contains-lookup, Contains-lookup_entry, Contains-remove_entry, Contains-promoted}
use Rattle.mk_ast.specs.Parser.{parsed}
use Rattle.mk_ast.specs.declared.nodes.Makefile.{Makefile}
use Rattle.mk_ast.specs.declared.parser.ParseFault.{ParseFault}
use Rattle.mk_eval.specs.Trees.{tree_or_fault}
use Rattle.read_trace.specs.declared.evaluation.Evaluation.{Evaluation}
use Rattle.eval_cache.specs.declared.contents.ContentKey.{ContentKey}
use Rattle.eval_cache.specs.declared.key.EvalKey.{EvalKey}
use Rattle.eval_cache.specs.Keys.{Key, key_of, same_key}
use Rattle.eval_cache.specs.Held.{KeptParses, KeptEvaluations, contents_of, traces_of, traces_by_key, AreRight, AreShort, AreTrees}
use Rattle.eval_cache.specs.Held.{AreRightForKeys, evaluations_in}
use Rattle.eval_cache.proofs.KeyLemmas.{key_eq, key_eq-same_key, key_eq-≡, same_key-≡, ≡-key_eq}

seen_step : {X Y : Type 0} (value : X → Y) (x : X) (b : Bool) (seen : Option Y) (found : Option X) → seen ≡ option_map value found
    → cond b (Some (value x)) seen ≡ option_map value (cond b (Some x) found)
seen_step value x true seen found same = refl
seen_step value x false seen found same = same

-- a look-up by what is seen of keys and values
lookup-seen : {K L X Y : Type 0} (key : K → L) (value : X → Y) (test : K → Bool) (seen : L → Bool) → ((k : K) → test k ≡ seen (key k))
    → (entries : List (K × X)) → lookup seen (map (λ entry. (key entry.0, value entry.1)) entries) ≡ option_map value (lookup test entries)
lookup-seen key value test seen same [] = refl
lookup-seen key value test seen same (entry ∷ entries) =
    subst (λ b. cond b (Some (value entry.1)) (lookup seen (map (λ entry. (key entry.0, value entry.1)) entries)) ≡ option_map value
    (cond (test entry.0) (Some entry.1) (lookup test entries)))
    (same entry.0) (seen_step value entry.1 (test entry.0) _ (lookup test entries) (lookup-seen key value test seen same entries))

-- the evaluations that are kept under a key
abbrev pub kept_at : KeptEvaluations → EvalKey → Option (Vec (Rc Evaluation Global) Global)
kept_at evals key = lookup (key_eq key) evals

-- have the traces that are kept there
pub traces-kept_at : (evals : KeptEvaluations) (key : EvalKey)
    → lookup (same_key (key_of key)) (traces_by_key evals) ≡ option_map (λ kept. traces_of kept.items) (kept_at evals key)
traces-kept_at evals key = lookup-seen key_of (λ kept. traces_of kept.items) (key_eq key) (same_key (key_of key))
    (key_eq-same_key key) evals

-- and are right
pub kept_at-AreRight : (evals : KeptEvaluations) (key : EvalKey) (kept : Vec (Rc Evaluation Global) Global)
    → AreRightForKeys evals → kept_at evals key ≡ Some kept → AreRight (key_of key) kept.items × AreShort kept.items
kept_at-AreRight evals key kept right found =
    let entry = Contains-lookup (key_eq key) evals kept found in
    let here = right entry.0 kept entry.1 in
    (subst (λ k. AreRight k kept.items) (sym (key_eq-≡ key entry.0 entry.2)) here.0, here.1)

pub AreRightForKeys-promoted : (evals : KeptEvaluations) (key : EvalKey) → AreRightForKeys evals
    → AreRightForKeys (promoted (key_eq key) evals)
AreRightForKeys-promoted evals key right other kept there = right other kept (Contains-promoted (key_eq key) evals (other, kept) there)

pub AreRightForKeys-removed : (evals : KeptEvaluations) (key : EvalKey) → AreRightForKeys evals
    → AreRightForKeys (remove_entry (key_eq key) evals)
AreRightForKeys-removed evals key right other kept there = right other kept (Contains-remove_entry (key_eq key) evals (other, kept) there)

-- the evaluations that are kept under a key, if any are, are right
pub items-AreRight : (evals : KeptEvaluations) (key : EvalKey) (older : Option (Vec (Rc Evaluation Global) Global))
    → AreRightForKeys evals → older ≡ kept_at evals key → AreRight (key_of key) (evaluations_in older) × AreShort (evaluations_in older)
items-AreRight evals key None right found = (tt, (tt, omega arith))
items-AreRight evals key (Some kept) right found = kept_at-AreRight evals key kept right (sym found)

-- evaluations are put under a key that has none, if there is memory for that
pub AreRightForKeys-put : (purpose : Purpose) (old new : LruCache EvalKey (Vec (Rc Evaluation Global) Global)) (key : EvalKey)
    (kept : Vec (Rc Evaluation Global) Global)
    → AreRightForKeys old.entries → AreRight (key_of key) kept.items → AreShort kept.items → PutsNew purpose (key, kept) old new
    → AreRightForKeys new.entries
AreRightForKeys-put purpose old new key kept right here short puts other value there =
    elim (Contains-PutsNew purpose (key, kept) old new (other, value) puts there) [
      | inl was ↦ right other value was
      | inr is ↦ (
        subst (λ (e : EvalKey × Vec (Rc Evaluation Global) Global). AreRight (key_of e.0) e.1.items) is here,
        subst (λ (e : EvalKey × Vec (Rc Evaluation Global) Global). AreShort e.1.items) is short,
      )
    ]

-- the traces that a cache shows are those of the evaluations under a key
pub traces-of-kept : (evals : KeptEvaluations) (key : EvalKey) (kept : Option (Vec (Rc Evaluation Global) Global))
    → kept ≡ kept_at evals key
    → traces_of (evaluations_in kept) ≡ unwrap_or (lookup (same_key (key_of key)) (traces_by_key evals)) []
traces-of-kept evals key kept found =
    by kept ∙ ap (λ k. unwrap_or (option_map (λ (kept : Vec (Rc Evaluation Global) Global). traces_of kept.items) k) []) found
    ∙ ap (λ traces. unwrap_or traces []) (sym (traces-kept_at evals key))
  where
    by : (kept : Option (Vec (Rc Evaluation Global) Global)) → traces_of (evaluations_in kept) ≡ unwrap_or
        (option_map (λ (kept : Vec (Rc Evaluation Global) Global). traces_of kept.items) kept) []
    by None = refl
    by (Some kept) = refl

behind : {X : Type 0} (b c : Bool) (one other rest all : Option X) → (b ≡ true → c ≡ false) → cond b one rest ≡ all
    → cond b one (cond c other rest) ≡ cond c other all
behind true true one other rest all apart same = absurd (true≢false (apart refl))
behind true false one other rest all apart same = same
behind false true one other rest all apart same = refl
behind false false one other rest all apart same = same

front : {K X : Type 0} (test seen : K → Bool) → ((one other : K) → test one ≡ true → test other ≡ false
    → seen one ≡ true → seen other ≡ false)
    → (entries : List (K × X)) (entry : K × X) → lookup_entry test entries ≡ Some entry
    → cond (seen entry.0) (Some entry.1) (lookup seen (remove_entry test entries)) ≡ lookup seen entries
front test seen apart [] entry found = cc
front {K = K} {X = X} test seen apart (first ∷ entries) entry found =
    (elim (test first.0) as (λ b. test first.0 ≡ b → cond b (Some first) (lookup_entry test entries) ≡ Some entry
    → cond (seen entry.0) (Some entry.1) (lookup seen (cond b entries (first ∷ remove_entry test entries)))
    ≡ lookup seen (first ∷ entries)) [
      | true ↦ λ is found. let same : first ≡ entry = cc in
          ap (λ (e : K × X). cond (seen e.0) (Some e.1) (lookup seen entries)) (sym same)
      | false ↦ λ is found. behind (seen entry.0) (seen first.0) (Some entry.1) (Some first.1)
          (lookup seen (remove_entry test entries)) (lookup seen entries)
          (apart entry.0 first.0 (Contains-lookup_entry test entries entry found).1 is) (front test seen apart entries entry found)
    ]) refl found

promoted_by : {K X : Type 0} (seen : K → Bool) (entries rest : List (K × X)) (found : Option (K × X))
    → ((entry : K × X) → found ≡ Some entry → cond (seen entry.0) (Some entry.1) (lookup seen rest) ≡ lookup seen entries)
    → lookup seen (option_map_or (λ entry. entry ∷ rest) found entries) ≡ lookup seen entries
promoted_by seen entries rest None first = refl
promoted_by seen entries rest (Some entry) first = first entry refl

-- a look-up finds the same after the entries of a key went first
pub lookup-promoted : {K X : Type 0} (test seen : K → Bool) → ((one other : K) → test one ≡ true → test other ≡ false
    → seen one ≡ true → seen other ≡ false)
    → (entries : List (K × X)) → lookup seen (promoted test entries) ≡ lookup seen entries
lookup-promoted test seen apart entries = promoted_by seen entries (remove_entry test entries) (lookup_entry test entries)
    (front test seen apart entries)

not_both : (b : Bool) → (b ≡ true → ⊥) → b ≡ false
not_both true never = absurd (never refl)
not_both false never = refl

keys_apart : (key : EvalKey) (other : Key) (one two : EvalKey) → key_eq key one ≡ true → key_eq key two ≡ false
    → same_key other (key_of one) ≡ true → same_key other (key_of two) ≡ false
keys_apart key other one two same differs is = not_both (same_key other (key_of two)) (λ too.
    let keys : key_of key ≡ key_of two = key_eq-≡ key one same ∙ sym (same_key-≡ other (key_of one) is)
    ∙ same_key-≡ other (key_of two) too in
    true≢false (sym (≡-key_eq key two keys) ∙ differs))

-- so the traces that a cache shows stay those of each key
pub traces-promoted : (evals : KeptEvaluations) (key : EvalKey) (other : Key)
    → lookup (same_key other) (traces_by_key (promoted (key_eq key) evals)) ≡ lookup (same_key other) (traces_by_key evals)
traces-promoted evals key other =
    let seen : EvalKey → Bool = λ k. same_key other (key_of k) in
    lookup-seen key_of (λ (kept : Vec (Rc Evaluation Global) Global). traces_of kept.items) seen (same_key other) (λ k. refl)
    (promoted (key_eq key) evals)
    ∙ ap (option_map (λ (kept : Vec (Rc Evaluation Global) Global). traces_of kept.items))
    (lookup-promoted (key_eq key) seen (keys_apart key other) evals)
    ∙ sym (lookup-seen key_of (λ (kept : Vec (Rc Evaluation Global) Global). traces_of kept.items) seen (same_key other) (λ k. refl) evals)

-- how the code compares contents
abbrev pub content_eq : ContentKey → ContentKey → Bool
content_eq one other = bytes_eq one.content other.content

any_content : (key : ContentKey) (entries : KeptParses) → list_any (content_eq key) (keys_of entries) ≡ list_any
    (bytes_eq key.content) (contents_of entries)
any_content key [] = refl
any_content key (entry ∷ entries) = ap (λ rest. bytes_eq key.content entry.0.content || rest) (any_content key entries)

-- a parse is kept for a content exactly if the content is among those seen
pub is_some-parse : (parses : KeptParses) (key : ContentKey) → is_some (lookup (content_eq key) parses) ≡ list_any
    (bytes_eq key.content) (contents_of parses)
is_some-parse parses key = is_some-lookup (content_eq key) parses ∙ any_content key parses

-- it is the tree of that content
pub lookup-AreTrees : (parses : KeptParses) (key : ContentKey) (parse : Result (Rc Makefile Global) ParseFault)
    → AreTrees parses → lookup (content_eq key) parses ≡ Some parse → tree_or_fault parse ≡ parsed key.content
lookup-AreTrees parses key parse trees found =
    let entry = Contains-lookup (content_eq key) parses parse found in
    trees entry.0 parse entry.1 ∙ ap parsed (sym ((bytes_eq-Decides key.content entry.0.content).0 entry.2))

pub AreTrees-promoted : (parses : KeptParses) (key : ContentKey) → AreTrees parses → AreTrees (promoted (content_eq key) parses)
AreTrees-promoted parses key trees other parse there = trees other parse (Contains-promoted (content_eq key) parses (other, parse) there)

-- a parse is put under its content, for which none is kept, if there is memory for that
pub AreTrees-put : (purpose : Purpose) (old new : LruCache ContentKey (Result (Rc Makefile Global) ParseFault)) (key : ContentKey)
    (parse : Result (Rc Makefile Global) ParseFault) → AreTrees old.entries → tree_or_fault parse ≡ parsed key.content
    → PutsNew purpose (key, parse) old new
    → AreTrees new.entries
AreTrees-put purpose old new key parse trees here puts other value there =
    elim (Contains-PutsNew purpose (key, parse) old new (other, value) puts there) [
      | inl was ↦ trees other value was
      | inr is ↦ subst (λ (e : ContentKey × Result (Rc Makefile Global) ParseFault). tree_or_fault e.1 ≡ parsed e.0.content) is here
    ]
