use Rattle.std.proofs.Common.{◌≡◌, ◌==◌, ◌+◌, ◌-◌, length, drop, arith, rules, tests, length-drop}
use Rattle.std.proofs.lemmas.List.{take_all}
use Rattle.std.specs.List.{position}
use Rattle.std.proofs.lemmas.Iterator.{YieldsList-from_slice}
use Rattle.std.proofs.lemmas.Iterator.Search.{position_from_yields_List}
use Rattle.portsd_text.proofs.ScriptFacts.{first_line-none, first_line-some}
use Rattle.portsd_text.proofs.script.first_line.Goals as goal

pub returns-in_err-end-clause-lines : goal.returns-in_err-end-clause-lines
returns-in_err-end-clause-lines c =
    let text = c.args.text.now in
    let at : c.position.result ≡ position (λ byte. byte == 10) text = position_from_yields_List (λ byte. byte == 10) _ _ _
    c.position.ensures.ran (YieldsList-from_slice text cc) (λ x b q k. search (rules, tests)) in
    rw c.from_residual.ensures (first_line-none text c.position.result at c.in_err-end.was)

pub returns-clause-lines : goal.returns-clause-lines
returns-clause-lines c =
    let text = c.args.text.now in
    let end = c.in_ok-end.end in
    let at : c.position.result ≡ position (λ byte. byte == 10) text = position_from_yields_List (λ byte. byte == 10) _ _ _
    c.position.ensures.ran (YieldsList-from_slice text cc) (λ x b q k. search (rules, tests)) in
    rw (take_all (length text - (end + 1)) (drop (end + 1) text) (omega (arith, length-drop (end + 1) text)))
    (first_line-some text c.position.result end at c.in_ok-end.was).1
