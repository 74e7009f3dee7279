use Rattle.text_graph.proofs.numbers.Numbers.of_arrow.Goals as goal

pub returns-clause-more : goal.returns-clause-more
returns-clause-more c = record {
  numbering = c.in_ok-to.ensures.more.numbering;
  keeps = λ text number is. c.in_ok-to.ensures.more.keeps text number (c.in_ok-from.ensures.more.keeps text number is);
}
