use Rattle.ports_http.specs.Replies.{reply_text}
use Rattle.ports_http.proofs.PutLemmas.{appends_both}
use Rattle.ports_http.proofs.write.put_reply.Goals as goal

pub returns : goal.returns
unfolding reply_text
returns c =
    rw (← c.body-body.ensures)
    (appends_both c.in_ok-put_head.ensures record {
      items = c.in_ok-extend_from_slice.ensures.items;
      room =
          c.in_ok-extend_from_slice.ensures.capacity;
    })
