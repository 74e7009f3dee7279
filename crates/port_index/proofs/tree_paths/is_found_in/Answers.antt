-- A path at the place that was found is the one that is searched, and between two places it is none of them.
use Rattle.std.proofs.Common.{arith, ◌≡◌, ◌∙◌, ap, sym, length, take, String, Global, string_bytes}
use Rattle.std.proofs.lemmas.Fn.{always_returns_same}
use Rattle.std.proofs.lemmas.List.{take_all}
use Rattle.std.specs.Str.{bytes_eq}
use Rattle.text_parts.specs.Ordered.{by_bytes}
use Rattle.port_index.proofs.SearchLemmas.{one_of-found, one_of-missed, one_of-place}
use Rattle.port_index.proofs.tree_paths.is_found_in.Goals as goal

pub returns-in-Ok-clause-found : goal.returns-in-Ok-clause-found
returns-in-Ok-clause-found c = λ same.
    one_of-place c.args.paths.now c.in-Ok.place c.index-paths-place.result c.args.path.now c.in-Ok.ensures.bound c.index-paths-place.is
    (ap (λ text. bytes_eq text c.args.path.now) (sym c.as_str.ensures.value) ∙ sym c.eq.ensures ∙ same)

pub returns-in-Ok-clause-all : goal.returns-in-Ok-clause-all
returns-in-Ok-clause-all c = λ ordered.
    let path = c.args.path.now in
    let whole : take (length path) path ≡ path = take_all (length path) path (omega arith) in
    let found = c.in-Ok.ensures.position (λ (one : String Global). by_bytes (string_bytes one) path)
    (always_returns_same _ _ _ (λ a r f' k. (k.met.1 ∙ ap (by_bytes (string_bytes a.0.now)) whole, λ j. record { 0 = k.met.0 j }))) in
    c.eq.ensures ∙ ap (λ text. bytes_eq text path) c.as_str.ensures.value
    ∙ one_of-found c.args.paths.now path c.in-Ok.place c.index-paths-place.result c.in-Ok.ensures.bound c.index-paths-place.is
    (found c.index-paths-place.result)

pub returns-in-Err-clause-all : goal.returns-in-Err-clause-all
returns-in-Err-clause-all c = λ ordered.
    let path = c.args.path.now in
    let whole : take (length path) path ≡ path = take_all (length path) path (omega arith) in
    let found = c.in-Err.ensures.position (λ (one : String Global). by_bytes (string_bytes one) path)
    (always_returns_same _ _ _ (λ a r f' k. (k.met.1 ∙ ap (by_bytes (string_bytes a.0.now)) whole, λ j. record { 0 = k.met.0 j }))) in
    one_of-missed c.args.paths.now path c.in-Err._place ordered found
