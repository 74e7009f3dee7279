-- A text that is neither empty nor dots is a part just if each byte may be in one.
use Rattle.std.proofs.Common.{◌≡◌, ◌∙◌, ℕ, false, List, [], codes, rules, arith}
use Rattle.std.proofs.lemmas.Grind.{common_steps}
use Rattle.std.specs.List.{list_all}
use Rattle.std.specs.Str.{bytes_eq}
use Rattle.mk_paths.specs.SearchPath.{is_part, may_be_in_part}
use Rattle.mk_paths.proofs.search_path.is_part_text.Goals as goal

named_part : (part : List ℕ) → bytes_eq part [] ≡ false → bytes_eq part (codes ".") ≡ false → bytes_eq part (codes "..") ≡ false
    → list_all may_be_in_part part ≡ is_part part
named_part part a b e = grind (arith, common_steps)

pub returns-in_default : goal.returns-in_default
returns-in_default c = c.has_part_bytes.ensures ∙ named_part c.args.part.now (search rules) (search rules) (search rules)
