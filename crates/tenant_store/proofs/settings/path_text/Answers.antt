-- The text is cut into the trees again.
use Rattle.std.proofs.Common.{◌≡◌, ◌∙◌, ap, subst, sym, ◌++◌, map, drop, string_bytes, take, length, ◌-◌, arith}
use Rattle.std.proofs.lemmas.Grind.{common_steps}
use Rattle.text_parts.specs.Laws.{after_marks}
use Rattle.general_facts.specs.Ascii.{colon}
use Rattle.mk_paths.specs.SearchPath.{IsSearchPath}
use Rattle.sql_facts.proofs.Ending.{if_ok_then}
use Rattle.tenant_store.proofs.Paths.{text_trees}
use Rattle.tenant_store.proofs.settings.path_text.Goals as goal

pub returns-clause-text : goal.returns-clause-text
returns-clause-text c =
    let trees = c.trees-trees.result.now in
    let first = c.as_str.ensures.value ∙ ap string_bytes c.index-trees-0.is in
    let whole : take (length trees - 1) (drop 1 trees) ≡ drop 1 trees = grind (arith, common_steps) in
    if_ok_then c.joined.result
    (λ text e. text_trees trees c.index-trees-0.result (string_bytes text)
    (subst IsSearchPath (sym c.trees-trees.ensures.trees) c.trees-trees.ensures.is_path)
    (e ∙ ap (λ these. c.as_str.result.now ++ after_marks colon (map string_bytes these)) whole
    ∙ ap (λ bytes. bytes ++ after_marks colon (map string_bytes (drop 1 trees))) first) ∙ c.trees-trees.ensures.trees)
    c.joined.ensures
