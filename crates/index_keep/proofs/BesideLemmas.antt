-- Paths that rows name beside the listed ones.
use Rattle.std.proofs.Common.{◌≡◌, ◌∙◌, sym, ap, refl, ℕ, ◌+◌, ◌<◌, Bool, true, false, ◌||◌, ◌&&◌, List, [], ◌∷◌, ◌++◌, map, take, length}
use Rattle.std.proofs.Common.{get_or, Option, Some, None, is_some, String, string_bytes, Global}
use Rattle.std.proofs.lemmas.List.{take_more}
use Rattle.std.proofs.lemmas.List.Folds.{list_any-append}
use Rattle.std.proofs.lemmas.Map.Views.{any-filter_same}
use Rattle.std.proofs.lemmas.Slice.Eq.{bytes_eq-Decides}
use Rattle.std.specs.List.{filter}
use Rattle.std.specs.Str.{bytes_eq}
use Rattle.mk_paths.specs.World.{World}
use Rattle.port_index.specs.Dependencies.{targets_in}
use Rattle.port_index.specs.Efforts.{has_makefile}
use Rattle.port_index.specs.FilledRows.{is_one_of}
use Rattle.port_index.specs.PathOutcomes.{PathOutcome}
use Rattle.port_index.specs.RowLaws.{is_target_among}
use Rattle.index_keep.specs.Paths.{IsFoundOf}
use Rattle.index_keep.specs.declared.path_ask.FoundPath.{FoundPath}
use Rattle.index_keep.proofs.ListLemmas.{map-append}
use Rattle.index_keep.proofs.MadeLemmas.{there-found}
use Rattle.index_keep.proofs.SortLemmas.{or-none}

-- a path is named by the rows up to the next place
pub target-next : (outcomes : List ℕ → PathOutcome) (texts : List (String Global)) (place : ℕ) (text : String Global) (path : List ℕ)
    → place < length texts → text ≡ get_or texts place text
    → is_target_among outcomes (map string_bytes (take (place + 1) texts)) path
    ≡ (is_target_among outcomes (map string_bytes (take place texts)) path || is_one_of path (targets_in (outcomes (string_bytes text))))
target-next outcomes texts place text path inside is =
    ap (λ ts. is_target_among outcomes (map string_bytes ts) path) (take_more texts place text inside
    ∙ ap (λ t. take place texts ++ t ∷ []) (sym is))
    ∙ ap (λ ps. is_target_among outcomes ps path) (map-append string_bytes (take place texts) (text ∷ []))
    ∙ list_any-append (λ one. is_one_of path (targets_in (outcomes one))) (map string_bytes (take place texts)) (string_bytes text ∷ [])
    ∙ ap (λ b. is_target_among outcomes (map string_bytes (take place texts)) path || b)
    (or-none (is_one_of path (targets_in (outcomes (string_bytes text)))))

-- those with a comma that are there are added
pub added-there : (comma target there named more : Bool) → named ≡ (comma && more)
    → ((comma && target && there) || (named && there)) ≡ (comma && (target || more) && there)
added-there comma target there named more is = ap (λ n. (comma && target && there) || (n && there)) is ∙ by comma target there more
  where
    by : (c t h m : Bool) → ((c && t && h) || ((c && m) && h)) ≡ (c && (t || m) && h)
    by false t h m = refl
    by true true true m = refl
    by true true false true = refl
    by true true false false = refl
    by true false h m = refl

-- a path is one of those that pass a test if it passes, and is one of them
pub one-filter : (test : List ℕ → Bool) (path : List ℕ) (paths : List (List ℕ)) → is_one_of path (filter test paths) ≡
    (test path && is_one_of path paths)
one-filter test path paths = any-filter_same (λ one. bytes_eq one path) test (test path)
    (λ one same. ap test ((bytes_eq-Decides one path).0 same)) paths

-- a path's makefile is found if it is there
pub found-some : (world : World) (path : List ℕ) (found : Option FoundPath) → IsFoundOf world path found
    → is_some found ≡ has_makefile world path
found-some world path None is = sym is
found-some world path (Some found) is = sym (ap (has_makefile world) (sym is.0) ∙ there-found world found is.1)
