use Rattle.std.proofs.Common.{lit<, ◌∙◌, sym}
use Rattle.std.proofs.lemmas.Str.Pattern.{find_char}
use Rattle.plain_service.proofs.TargetLemmas.{from_slash, without_slash, after_scheme}
use Rattle.plain_service.proofs.target.without_host.Goals as goal

pub returns-in-Some-find : goal.returns-in-Some-find
returns-in-Some-find c =
    let h = c.in-Some.ensures.cases in
    let slash = rw c.in-Some-find.is at (find_char 47 c.in-Some.rest.now c.find.result c.find.ensures.cases (lit< tt)) in
    c.range_from.ensures.value
    ∙ (from_slash c.in-Some.rest.now c.in-Some-find.at slash.0 slash.1 slash.2
    ∙ sym (after_scheme c.args.target.now c.in-Some.rest.now h.0 h.1.1 h.2))

pub returns-in-None : goal.returns-in-None
returns-in-None c =
    let h = c.in-Some.ensures.cases in
    let none = rw c.in-None.is at (find_char 47 c.in-Some.rest.now c.find.result c.find.ensures.cases (lit< tt)) in
    without_slash c.in-Some.rest.now none
    ∙ sym (after_scheme c.args.target.now c.in-Some.rest.now h.0 h.1.1 h.2)
