use Rattle.std.proofs.Common.{◌≡◌, ◌∙◌, ap₂, ◌++◌, [], ◌∷◌, rules}
use Rattle.json.specs.Print.{print}
use Rattle.json.specs.Token.{end_array, end_object}
use Rattle.plain_service.proofs.WritingLemmas.{list_text}
use Rattle.plain_service.proofs.json_text.end_list.Goals as goal

pub returns : goal.returns
returns c = λ name items has.
    let before : c.end_object.new.self.before ≡ [] = search (rules, has.start) in
    let closed : c.end_object.new.self.tokens ≡ (c.args.out.tokens ++ end_array ∷ []) ++ end_object ∷ [] = search rules in
    c.into_inner.ensures.items ∙ ap₂ (λ first tokens. first ++ print tokens) before closed
    ∙ list_text name items c.args.out.tokens has.so_far
