use Rattle.std.proofs.Common.{◌+◌, ◌-◌, length, drop, sym, ◌∙◌, arith, length-drop}
use Rattle.std.proofs.lemmas.List.{take_all}
use Rattle.portsd_text.proofs.EscapeFacts.{unescaped-bad, unescaped-more, unescaped-end}
use Rattle.portsd_text.proofs.script_lines.unescape.Goals as goal

pub returns-in_default-read_escape : goal.returns-in_default-read_escape
returns-in_default-read_escape c =
    let rest = c.loop-at.rest.now in
    let at = c.in-Some.at in
    let behind = take_all (length rest - (at + 1)) (drop (at + 1) rest) (omega (arith, length-drop (at + 1) rest)) in
    let bad = unescaped-bad rest at (sym c.in-Some.ensures) (rw behind at c.in_default-read_escape.ensures) in
    rw bad at c.loop-at.invariant

pub loop-at-preserved : goal.loop-at-preserved
loop-at-preserved c =
    let rest = c.loop-at.rest.now in
    let at = c.in-Some.at in
    let behind = take_all (length rest - (at + 1)) (drop (at + 1) rest) (omega (arith, length-drop (at + 1) rest)) in
    let more = unescaped-more c.loop-at.bytes.items rest at _ _ (sym c.in-Some.ensures) (rw behind at c.in-Some-read_escape.ensures) in
    rw (c.in_ok-push.ensures.items, c.in_ok-extend_from_slice.ensures.items) (more ∙ c.loop-at.invariant)

pub returns : goal.returns
returns c = rw c.in_ok-extend_from_slice-2.ensures.items
    (sym (unescaped-end c.loop-at.bytes.items c.loop-at.rest.now (sym c.in_default.ensures)) ∙ c.loop-at.invariant)
