use Rattle.std.proofs.Common.{◌++◌, ◌+◌, ◌-◌, ◌∙◌, length, take, drop, arith, sym, ap, string_bytes, length-drop}
use Rattle.std.proofs.lemmas.List.{append_assoc, take_all}
use Rattle.portsd_text.specs.Escapes.{is_escaped}
use Rattle.portsd_text.proofs.EscapeFacts.{plain-IsUtf8, all_plain-IsUtf8, escaped_bytes-run, escaped_bytes-plain}
use Rattle.portsd_text.proofs.PlaceFacts.{passes-at}
use Rattle.portsd_text.proofs.transcript.push_escaped.Goals as goal

pub push_text-requires : goal.push_text-requires
push_text-requires c = plain-IsUtf8 c.loop-at.rest.now c.in-Some.at (sym c.in-Some.ensures)

pub push_escape-requires : goal.push_escape-requires
push_escape-requires c = passes-at is_escaped c.loop-at.rest.now c.in-Some.at (sym c.in-Some.ensures)

pub loop-at-preserved : goal.loop-at-preserved
loop-at-preserved c =
    let rest = c.loop-at.rest.now in
    let at = c.in-Some.at in
    let before = string_bytes c.loop-at.text in
    let run = escaped_bytes-run rest at (sym c.in-Some.ensures) in
    rw (
      take_all (length rest - (at + 1)) (drop (at + 1) rest) (omega (arith, length-drop (at + 1) rest)),
      c.in_ok-push_escape.ensures,
      c.in_ok-push_text.ensures,
    )
    (append_assoc (before ++ take at rest) _ _ ∙ append_assoc before (take at rest) _
    ∙ ap (λ x. before ++ x) (sym run) ∙ c.loop-at.invariant)

pub push_text-requires-2 : goal.push_text-requires-2
push_text-requires-2 c = all_plain-IsUtf8 c.loop-at.rest.now (sym c.in_default.ensures)

pub returns : goal.returns
returns c = rw (← c.loop-at.invariant, escaped_bytes-plain c.loop-at.rest.now (sym c.in_default.ensures)) c.push_text-2.ensures
