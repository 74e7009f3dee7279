-- Where the part's bytes are in the text.
use Rattle.std.proofs.lemmas.Str.Pattern.{contains_text}
use Rattle.ports_query.proofs.Parts.{part_answer}
use Rattle.ports_query.proofs.candidate.has_part.Goals as goal

pub returns : goal.returns
returns c = part_answer c.contains.result c.args.text.now c.args.part.now (contains_text c.contains.result c.args.part.now c.args.text.now
    c.contains.ensures.cases)
