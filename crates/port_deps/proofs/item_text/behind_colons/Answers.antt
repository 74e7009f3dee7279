-- A colon that comes first goes.
use Rattle.std.proofs.Common.{◌∙◌, Some, None, lit<}
use Rattle.std.proofs.lemmas.Str.Pattern.{strip_prefix_char}
use Rattle.port_deps.proofs.Colons.{behind-colon, behind-utf8}
use Rattle.port_deps.proofs.item_text.behind_colons.Goals as goal

pub loop-behind-preserved : goal.loop-behind-preserved
loop-behind-preserved c =
    let left = c.loop-behind.left.now in
    let behind = c.in-Some.behind.now in
    let is = strip_prefix_char 58 left (Some c.in-Some.behind) c.in-Some.ensures.cases (lit< tt) in
    record {
      text = behind-utf8 left behind c.loop-behind.invariant.text is;
      parts = behind-colon left behind is ∙ c.loop-behind.invariant.parts;
    }

pub returns-clause-begins : goal.returns-clause-begins
returns-clause-begins c = strip_prefix_char 58 c.loop-behind.left.now None c.in_default.ensures.cases (lit< tt)
