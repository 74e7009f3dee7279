-- The parts, one after the other, are the line.
use Rattle.std.proofs.Common.{◌≡◌, ◌++◌, ap, ◌∙◌, refl, subst, List, ℕ, Option, None, Some, []}
use Rattle.std.specs.Borrow.{Bor}
use Rattle.std.specs.Prelude.{codes, option_map, unwrap_or}
use Rattle.std.proofs.lemmas.List.{append-nil}
use Rattle.http.specs.StatusCode.{code_digits, reason_phrase}
use Rattle.ports_http.specs.Puts.{AppendsIfRoom}
use Rattle.ports_http.specs.Replies.{line, status_text}
use Rattle.ports_http.proofs.PutLemmas.{appends_both, puts_after}
use Rattle.ports_http.proofs.write.put_status.Goals as goal

behind : (o : Option (Bor (List ℕ))) (d : Bor (List ℕ)) → (unwrap_or o d).now ≡ unwrap_or (option_map (λ s. s.now) o) d.now
behind None d = refl
behind (Some s) d = refl

pub returns : goal.returns
unfolding status_text
returns c =
    let code = rw c.as_str.ensures at c.in_ok-put_text-2.ensures in
    let all = puts_after c.put_line.new.out (line (c.unwrap_or.result.now ++ [])) c.put_line.result
    (appends_both (appends_both c.in_ok-put_text.ensures code) c.in_ok-put_text-3.ensures) c.put_line.ensures in
    let phrase : c.unwrap_or.result.now ++ [] ≡ unwrap_or (reason_phrase c.args.status) [] =
    append-nil c.unwrap_or.result.now ∙ ap (λ (s : Bor (List ℕ)). s.now) c.unwrap_or.ensures ∙ behind c.canonical_reason.result _
    ∙ ap (λ o. unwrap_or o []) c.canonical_reason.ensures.value in
    subst (λ (p : List ℕ). AppendsIfRoom c.args.out.now (line (codes "HTTP/1.1 " ++ (code_digits c.args.status ++ codes " " ++ p)))
    c.put_line.result c.put_line.new.out) phrase all
