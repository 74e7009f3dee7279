-- Each part between the slashes is tested.
use Rattle.std.proofs.Common.{lit<, rules, tests}
use Rattle.std.proofs.lemmas.Iterator.Search.{all_from_yields_List}
use Rattle.std.proofs.lemmas.Iterator.Splits.{YieldsList-from_str_split}
use Rattle.pkg_path.specs.Paths.{is_directory_part}
use Rattle.pkg_path.proofs.elements.is_directory.Goals as goal

pub returns : goal.returns
returns c =
    all_from_yields_List is_directory_part _ _ _ c.all.ensures.ran (YieldsList-from_str_split 47 c.args.text.now (lit< tt)
    c.split.ensures.text c.split.ensures.has_more c.split.ensures.pattern) (λ x b q k. search (rules, tests))
