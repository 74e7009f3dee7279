use Rattle.std.proofs.Common.{[], subst}
use Rattle.ports_http.specs.Puts.{AppendsIfRoom}
use Rattle.ports_http.specs.Replies.{line, reply_head}
use Rattle.ports_http.proofs.PutLemmas.{appends_both, puts_after}
use Rattle.ports_http.proofs.write.put_head.Goals as goal

pub returns : goal.returns
returns c =
    let status = c.in_ok-put_status.ensures in
    let content = c.in_ok-put_content.ensures in
    let size = rw c.format.ensures.text at c.in_ok-put_line.ensures in
    let allow = c.in_ok-put_allow.ensures in
    let close = c.in_ok-put_close.ensures in
    subst (λ v. AppendsIfRoom c.args.out.now (reply_head v c.args.close c.args.size) c.put_line-2.result c.put_line-2.new.out)
    c.reply.view_is
    (puts_after c.put_line-2.new.out (line []) c.put_line-2.result
    (appends_both (appends_both (appends_both (appends_both status content) size) allow) close) c.put_line-2.ensures)
