use Rattle.std.proofs.Common.{◌≡◌, None, String, [], ◌∷◌, ◌++◌, ◌∙◌, ap, option_map, string_bytes, append_assoc, lit<, rules}
use Rattle.std.proofs.lemmas.Result.{on_ok_weaker, MatchResult-from_err}
use Rattle.std.specs.Char.{encode_utf8}
use Rattle.std.specs.declared.alloc.Global.{Global}
use Rattle.std.specs.BTreeMap as tree
use Rattle.mk_env.specs.Texts.{appended, texts_of, text_in, with_text}
use Rattle.mk_env.proofs.TextMap.{texts_of-appended, texts_of-kept, OnOk-by_cases, get-view, with-parts}
use Rattle.mk_env.proofs.variables.Env.append.Goals as goal

pub returns-in_ok-push-in-Some-clause-ok : goal.returns-in_ok-push-in-Some-clause-ok
returns-in_ok-push-in-Some-clause-ok c =
    let before = string_bytes c.in-Some.before.now in
    let spaced : string_bytes c.push.new.self ≡ before ++ 32 ∷ [] =
    c.in_ok-push-in-Some.ensures.bytes ∙ ap (λ l. l ++ encode_utf8 32) c.in_ok-reserve-in-Some.ensures.bytes
    ∙ ap (λ l. before ++ l) (c.in_ok-push-in-Some.ensures.ascii (lit< tt)) in
    OnOk-by_cases c.push_str.result _ _ _ c.push_str.ensures.bytes (λ longer.
    with-parts _ _ _ _ (ap (λ view. view.0) c.self.view_is)
    (texts_of-appended c.self.inside.variables (c.get_mut.follows.lender c.push_str.new.self) c.args.self.now.1 c.args.name.now
    c.in-Some.before.now c.push_str.new.self (ap (λ view. view.1) c.self.view_is)
    c.in-Some.ensures.value
    ((c.get_mut.follows.holds c.push_str.new.self).3 (search rules)) c.args.text.now
    (longer ∙ ap (λ l. l ++ c.args.text.now) spaced ∙ append_assoc before (32 ∷ []) c.args.text.now)))

pub returns-in_err-reserve-in-Some-clause-err : goal.returns-in_err-reserve-in-Some-clause-err
returns-in_err-reserve-in-Some-clause-err c =
    let kept = with-parts _ _ _ _ (ap (λ view. view.0) c.self.view_is)
    (texts_of-kept c.self.inside.variables (c.get_mut.follows.lender c.reserve.new.self) c.args.self.now.1 c.args.name.now
    c.in-Some.before.now c.reserve.new.self (ap (λ view. view.1) c.self.view_is)
    c.in-Some.ensures.value ((c.get_mut.follows.holds c.reserve.new.self).3 (search rules)) c.in_err-reserve-in-Some.ensures.bytes) in
    MatchResult-from_err c.from_residual.result _ _ c.from_residual.ensures.0 (λ _. kept)

pub returns-in-None-clause-ok : goal.returns-in-None-clause-ok
returns-in-None-clause-ok c =
    let absent : None ≡ text_in c.args.self.now c.args.name.now =
    ap (option_map string_bytes) c.in-None.ensures.value ∙ get-view c.self.inside.variables c.args.self.now.1 c.args.name.now
    (ap (λ view. view.1) c.self.view_is) in
    let stays : (c.self.inside.profile, texts_of c.get_mut.follows.lender-at-none.entries) ≡ c.args.self.now =
    ap (λ (m : tree.BTreeMap (String Global) (String Global)). (c.self.inside.profile, texts_of m.entries)) c.get_mut.follows.holds-at-none
    ∙ c.self.view_is in
    on_ok_weaker c.set.result
    (λ is. is ∙ ap (λ view. with_text view c.args.name.now c.args.text.now) stays
    ∙ ap (λ had. with_text c.args.self.now c.args.name.now (appended had c.args.text.now)) absent)
    c.set.ensures.ok
