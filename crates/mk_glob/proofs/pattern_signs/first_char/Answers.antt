use Rattle.std.proofs.Common.{ℕ, List, ap, sym, ◌∙◌}
use Rattle.mk_glob.proofs.SignLemmas.{begins_with_char}
use Rattle.mk_glob.proofs.pattern_signs.first_char.Goals as goal

pub returns-in-Some : goal.returns-in-Some
returns-in-Some c =
    begins_with_char c.args.text.now c.in-Some.first c.next.new.self.rest.now c.as_str.result.now c.utf8.text c.as_str.utf8
    (ap (λ (t : List ℕ). t) (sym c.chars-rest.ensures.rest) ∙ c.in-Some.ensures.steps.0) c.as_str.ensures
