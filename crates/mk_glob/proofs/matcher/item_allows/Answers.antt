use Rattle.std.proofs.Common.{◌≡◌, None, true, sym, inl}
use Rattle.std.proofs.lemmas.Bool.{both_ways}
use Rattle.mk_glob.specs.Signs.{is_bare, signs_of}
use Rattle.mk_glob.specs.Items.{bracket}
use Rattle.mk_glob.proofs.StepLemmas.{TellsOne-exactly, bracket-known, Finds-none}
use Rattle.mk_glob.proofs.matcher.item_allows.Goals as goal
use Rattle.mk_glob.proofs.matcher.item_allows.Goals.{then-is_bare-2+then-unclosed-behind+in_default, else-is_bare-2}
use Rattle.mk_glob.proofs.matcher.item_allows.Goals.{else-is_bare-2-via-then-is_bare-2+else-unclosed-behind}
use Rattle.mk_glob.proofs.matcher.item_allows.Goals.{else-is_bare-2-via-else-is_bare-2}

pub returns-clause-tells : goal.returns-clause-tells
returns-clause-tells c =
    let opens : is_bare 91 c.args.sign ≡ true → bracket (signs_of c.args.behind.now) ≡ None = elim c.if-is_bare-2.branch [
      | then-is_bare-2+then-unclosed-behind+in_default w ↦ λ e. w.in_default.ensures
      | else-is_bare-2 w ↦ elim w.else-is_bare-2.branch [
        | else-is_bare-2-via-then-is_bare-2+else-unclosed-behind w' ↦ λ e.
            bracket-known c.args.behind.now c.args.unclosed.now c.utf8.behind c.requires.known w'.if-unclosed-behind.false
        | else-is_bare-2-via-else-is_bare-2 w' ↦ λ e. absurd (both_ways (is_bare 91 c.args.sign) (sym w'.if-is_bare-2.ensures) e)
      ]
    ] in
    TellsOne-exactly c.args.sign (signs_of c.args.behind.now) c.args.c c.character.result c.requires.item (sym c.if-is_bare.ensures)
    opens c.character.ensures

pub returns-clause-learns : goal.returns-clause-learns
returns-clause-learns c = elim c.if-is_bare-2.branch [
  | then-is_bare-2+then-unclosed-behind+in_default w ↦
      Finds-none c.args.behind.now c.args.unclosed.now c.if-is_bare-2.unclosed c.utf8.behind w.in_default.ensures w.unclosed-is
  | else-is_bare-2 w ↦ inl w.unclosed-is
]
