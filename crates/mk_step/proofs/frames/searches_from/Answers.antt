use Rattle.std.proofs.Common.{◌<◌, ◌≤◌, length, arith}
use Rattle.mk_step.specs.Views.{site_of}
use Rattle.mk_step.proofs.Settling.{costs-searches, over-searches}
use Rattle.mk_step.proofs.frames.searches_from.Goals as goal

pub returns-then-search-len-clause-costs : goal.returns-then-search-len-clause-costs
returns-then-search-len-clause-costs c =
    let search = c.args.search in
    let within : search.next < length search.words.items = omega (arith, c.len.ensures, search.words.ok.0, c.if-search-len.true) in
    costs-searches (site_of c.args.site.value) search.line search.words.items search.next within

pub returns-clause-alike : goal.returns-clause-alike
returns-clause-alike c = λ others.
    let search = c.args.search in
    let past : length search.words.items ≤ search.next = omega (arith, c.len.ensures, search.words.ok.0, c.if-search-len.false) in
    over-searches (site_of c.args.site.value) search.line search.words.items search.next others past
