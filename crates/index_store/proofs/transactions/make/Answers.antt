-- The change is the one that is asked for.
use Rattle.index_store.proofs.transactions.make.Goals as goal

pub returns-in-Put-clause-made : goal.returns-in-Put-clause-made
returns-in-Put-clause-made c = rw c.in-Put.is c.put.ensures.made

pub returns-in-PutEarlier-clause-made : goal.returns-in-PutEarlier-clause-made
returns-in-PutEarlier-clause-made c = rw c.in-PutEarlier.is c.put_earlier.ensures.made

pub returns-in-Mark-clause-made : goal.returns-in-Mark-clause-made
returns-in-Mark-clause-made c = rw c.in-Mark.is c.set_marks.ensures.made

pub returns-in-MarkAll-clause-made : goal.returns-in-MarkAll-clause-made
returns-in-MarkAll-clause-made c = rw c.in-MarkAll.is c.mark_tables.ensures.made

pub returns-in-TakeOut-clause-made : goal.returns-in-TakeOut-clause-made
returns-in-TakeOut-clause-made c = rw c.in-TakeOut.is c.take_out.ensures.made
