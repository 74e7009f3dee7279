use Rattle.std.proofs.Common.{◌<◌, subst, sym, lit<}
use Rattle.std.proofs.lemmas.Str.{IsCharBoundary-after_ascii}
use Rattle.mk_env.proofs.insides.parted_at.Goals as goal

pub range_from-requires : goal.range_from-requires
range_from-requires c = λ some. IsCharBoundary-after_ascii c.args.inside.now c.args.at c.utf8.inside c.requires.within
    (subst (λ b. b < 128) (sym c.requires.colon) (lit< tt))
