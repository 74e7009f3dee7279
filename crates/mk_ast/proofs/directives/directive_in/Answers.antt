use Rattle.std.proofs.Common.{◌≡◌, ◌≢◌, ℕ, List, [], ◌∷◌, None, refl, sym, ap, lit<, ne_eqb}
use Rattle.std.proofs.lemmas.Bool.{cond-false}
use Rattle.std.proofs.lemmas.Str.Pattern.{strip_prefix_char}
use Rattle.mk_text.specs.Blanks.{skip_blanks}
use Rattle.mk_ast.specs.Kinds.{directive_in, directive_after_dot}
use Rattle.mk_ast.proofs.directives.directive_in.Goals as goal

undotted : (text : List ℕ) → ((rest : List ℕ) → text ≢ 46 ∷ rest) → None ≡ directive_in text
undotted [] other = refl
undotted (b ∷ rest) other =
    sym (cond-false _ (directive_after_dot (skip_blanks rest)) None (ne_eqb b 46 (λ e. other rest (ap (λ n. n ∷ rest) e))))

pub returns-in-None : goal.returns-in-None
returns-in-None c = undotted c.args.text.now (strip_prefix_char 46 c.args.text.now None c.in-None.ensures.cases (lit< tt))
