-- Each clone has the bytes of its text.
use Rattle.std.proofs.Common.{◌≡◌, List, [], ◌∷◌, map, String, string_bytes, refl}
use Rattle.std.specs.declared.alloc.Global.{Global}
use Rattle.std.specs.List.{AllZip}
use Rattle.std.proofs.lemmas.Result.{IfOk-weaker}
use Rattle.text_parts.proofs.parts.clones_of.Goals as goal

same_bytes : (texts clones : List (String Global)) → AllZip (λ text clone. string_bytes clone ≡ string_bytes text) texts clones
    → map string_bytes clones ≡ map string_bytes texts
same_bytes [] [] same = refl
same_bytes [] (clone ∷ clones) same = absurd same
same_bytes (text ∷ texts) [] same = absurd same
same_bytes (text ∷ texts) (clone ∷ clones) same = λ i. same.0 i ∷ same_bytes texts clones same.1 i

pub returns : goal.returns
returns c =
    IfOk-weaker c.from_clones.result _ (λ clones. map string_bytes clones.items ≡ map string_bytes c.args.texts.now)
    (λ clones same. same_bytes c.args.texts.now clones.items same) c.from_clones.ensures.items
