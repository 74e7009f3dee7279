-- A blank is ASCII, so the text may be cut after it.
use Rattle.std.proofs.Common.{◌≡◌, ◌<◌, ℕ, true, arith}
use Rattle.std.proofs.lemmas.Str.{IsCharBoundary-after_ascii}
use Rattle.std.proofs.lemmas.Bool.Decides.{nat_tests}
use Rattle.mk_text.specs.Blanks.{is_blank}
use Rattle.mk_cond.proofs.forms.cut_at.Goals as goal

blank-ascii : (b : ℕ) → is_blank b ≡ true → b < 128
blank-ascii b is = grind (arith, nat_tests)

pub range_from-requires : goal.range_from-requires
range_from-requires c = λ some. IsCharBoundary-after_ascii c.args.text.now c.args.at c.utf8.text c.requires.within
    (blank-ascii _ c.requires.blank)
