-- A part that is neither empty nor dots is kept.
use Rattle.std.proofs.Common.{◌≡◌, ◌∙◌, ap, sym, ℕ, false, List, [], ◌∷◌, ◌++◌, Some, codes, rules, arith}
use Rattle.std.proofs.lemmas.Grind.{common_steps}
use Rattle.std.proofs.lemmas.List.{map_push}
use Rattle.std.specs.Str.{bytes_eq}
use Rattle.text_parts.specs.Cuts.{now_all}
use Rattle.mk_paths.specs.FileName.{with_part}
use Rattle.mk_paths.proofs.file_name.take_part.Goals as goal

kept_part : (kept : List (List ℕ)) (part : List ℕ) → bytes_eq part [] ≡ false → bytes_eq part (codes ".") ≡ false
    → bytes_eq part (codes "..") ≡ false
    → with_part kept part ≡ Some (kept ++ part ∷ [])
kept_part kept part a b e = grind (arith, common_steps)

pub returns-in_ok-push-in_default : goal.returns-in_ok-push-in_default
returns-in_ok-push-in_default c =
    kept_part _ _ (search rules) (search rules) (search rules)
    ∙ ap Some (sym (ap now_all c.in_ok-push-in_default.ensures.items ∙ map_push (λ text. text.now) c.args.kept.now.items c.args.part))
