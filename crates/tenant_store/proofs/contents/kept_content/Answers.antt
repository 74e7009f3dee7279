-- What is found under a name is the content of its file, and all that is kept stays.
use Rattle.std.proofs.Common.{◌∙◌, ap, sym, Some}
use Rattle.tenant_store.proofs.ContentLemmas.{found_content, used_stay}
use Rattle.tenant_store.proofs.contents.kept_content.Goals as goal

pub returns-in_err-share-in-Some-clause-kept : goal.returns-in_err-share-in-Some-clause-kept
returns-in_err-share-in-Some-clause-kept c = λ files are.
    used_stay c.args.kept.now.entries files are c.args.name.now c.args.kept.now.cap c.get.follows.lender-at-none c.get.follows.holds-at-none

pub returns-in_ok-share-in-Some-clause-content : goal.returns-in_ok-share-in-Some-clause-content
returns-in_ok-share-in-Some-clause-content c = λ files are.
    found_content c.args.kept.now.entries files are c.args.name.now c.in-Some.content.now (sym c.in-Some.ensures.value)
    ∙ ap Some (sym c.in_ok-share-in-Some.ensures)

pub returns-in_ok-share-in-Some-clause-kept : goal.returns-in_ok-share-in-Some-clause-kept
returns-in_ok-share-in-Some-clause-kept c = λ files are.
    used_stay c.args.kept.now.entries files are c.args.name.now c.args.kept.now.cap c.get.follows.lender-at-none c.get.follows.holds-at-none

pub returns-in-None-clause-kept : goal.returns-in-None-clause-kept
returns-in-None-clause-kept c = λ files are.
    used_stay c.args.kept.now.entries files are c.args.name.now c.args.kept.now.cap c.get.follows.lender-at-none c.get.follows.holds-at-none
