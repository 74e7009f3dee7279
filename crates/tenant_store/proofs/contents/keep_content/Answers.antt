-- The content of the file is kept, or there is no memory for it.
use Rattle.std.proofs.Common.{◌∙◌, ap, sym, Some}
use Rattle.std.specs.FinMap.{get}
use Rattle.tenant_store.proofs.ContentLemmas.{put_stay}
use Rattle.tenant_store.proofs.contents.keep_content.Goals as goal

pub returns : goal.returns
returns c = λ files are is.
    put_stay c.args.kept.now files c.in-Ok.name c.in-Ok-share.content are
    (ap (get files) c.in-Ok.ensures.ok ∙ is ∙ ap Some (sym c.in-Ok-share.ensures))
    c.put-first.result c.put-first.new.self c.put-first.ensures.entries c.put-first.ensures.err
