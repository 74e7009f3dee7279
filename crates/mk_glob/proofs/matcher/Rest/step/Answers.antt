use Rattle.std.proofs.Common.{sym}
use Rattle.std.specs.Str.{chars}
use Rattle.mk_glob.specs.Signs.{signs_of}
use Rattle.mk_glob.proofs.SignLemmas.{signs_of-empty, chars-empty}
use Rattle.mk_glob.proofs.StepLemmas.{fits-pattern_over, fits-word_over, fits-refused, known-after, Learns-after}
use Rattle.mk_glob.proofs.matcher.Rest.step.Goals as goal

pub returns-in-None-clause-step : goal.returns-in-None-clause-step
returns-in-None-clause-step c = (
  signs_of-empty c.args.self.pattern.now c.in_default.ensures,
  chars-empty
      c.args.self.word.now c.in-None.ensures,
)

pub returns-in-Some-first_char-clause-step : goal.returns-in-Some-first_char-clause-step
returns-in-Some-first_char-clause-step c =
    fits-pattern_over c.args.self.pattern.now c.args.self.word.now _ _ c.in_default.ensures c.in-Some-first_char.ensures.reads

pub returns-in_default-first_char-clause-step : goal.returns-in_default-first_char-clause-step
returns-in_default-first_char-clause-step c =
    fits-word_over c.args.self.pattern.now c.args.self.word.now c.in-Some.sign (signs_of c.in-Some.pattern.now) c.in-Some.ensures.reads
    (sym c.if-is_bare.ensures) (chars-empty c.args.self.word.now c.in_default-first_char.ensures)

pub item_allows-allowed-requires-clause-known : goal.item_allows-allowed-requires-clause-known
item_allows-allowed-requires-clause-known c =
    known-after (signs_of c.args.self.pattern.now) c.in-Some.sign (signs_of c.in-Some.pattern.now) c.args.unclosed.now
    c.in-Some.ensures.reads c.requires.known

pub returns-then-allowed-clause-learns : goal.returns-then-allowed-clause-learns
returns-then-allowed-clause-learns c =
    Learns-after (signs_of c.args.self.pattern.now) c.in-Some.sign (signs_of c.in-Some.pattern.now) c.args.unclosed.now
    c.item_allows-allowed.new.unclosed c.in-Some.ensures.reads c.item_allows-allowed.ensures.learns

pub returns-else-allowed-clause-step : goal.returns-else-allowed-clause-step
returns-else-allowed-clause-step c =
    fits-refused c.args.self.pattern.now c.args.self.word.now c.in-Some.sign (signs_of c.in-Some.pattern.now) c.in-Some-first_char-2.c
    (chars c.in-Some-first_char-2.word.now) _ _ c.in-Some.ensures.reads c.in-Some-first_char-2.ensures.reads c.if-allowed.false
    c.item_allows-allowed.ensures.tells

pub returns-else-allowed-clause-learns : goal.returns-else-allowed-clause-learns
returns-else-allowed-clause-learns c =
    Learns-after (signs_of c.args.self.pattern.now) c.in-Some.sign (signs_of c.in-Some.pattern.now) c.args.unclosed.now
    c.item_allows-allowed.new.unclosed c.in-Some.ensures.reads c.item_allows-allowed.ensures.learns
