use Rattle.std.proofs.Common.{refl, inl}
use Rattle.mk_glob.proofs.BracketLemmas.{MakesNoRange-empty, MakesNoRange-last}
use Rattle.mk_glob.proofs.brackets.range_end.Goals as goal

pub returns-in_default : goal.returns-in_default
returns-in_default c = inl (MakesNoRange-empty c.args.rest.now c.in_default.ensures, refl, refl)

pub returns-in_default-first_sign : goal.returns-in_default-first_sign
returns-in_default-first_sign c =
    inl (
      MakesNoRange-last c.args.rest.now c.in-Some.dash c.in-Some.behind.now c.in-Some.ensures
          c.in_default-first_sign.ensures,
      refl,
      refl,
    )
