use Rattle.std.proofs.Common.{sym, ◌≡◌, arith, rules, tests, true}
use Rattle.std.specs.List.{list_all}
use Rattle.std.specs.Char.{is_ascii_digit}
use Rattle.std.proofs.lemmas.Iterator.{YieldsList-from_slice}
use Rattle.std.proofs.lemmas.Iterator.Search.{all_from_yields_List}
use Rattle.std.proofs.lemmas.Str.Parse.{parse_digits}
use Rattle.general_facts.specs.Texts.{decimal_numerals}
use Rattle.portsd_text.proofs.NumeralFacts.{number_of-long, number_of-other, number_of-parsed}
use Rattle.portsd_text.proofs.numerals.read_number.Goals.{then-text-gt20-via-then-text-gt20, then-text-gt20-via-else-text-gt20+then-not-all}
use Rattle.portsd_text.proofs.numerals.read_number.Goals as goal

pub returns-then-text-gt20 : goal.returns-then-text-gt20
returns-then-text-gt20 c =
    elim c.then-text-gt20.branch [
      | then-text-gt20-via-then-text-gt20 w ↦ sym (number_of-long c.args.text.now (omega arith))
      | then-text-gt20-via-else-text-gt20+then-not-all w ↦
          let all : w.all.result ≡ list_all is_ascii_digit c.args.text.now = all_from_yields_List is_ascii_digit _ _ _ w.all.ensures.ran
          (YieldsList-from_slice c.args.text.now cc) (λ x b q k. search (rules, tests)) in
          sym (number_of-other c.args.text.now cc)
    ]

pub returns : goal.returns
returns c =
    let all : c.all.result ≡ list_all is_ascii_digit c.args.text.now = all_from_yields_List is_ascii_digit _ _ _ c.all.ensures.ran
    (YieldsList-from_slice c.args.text.now cc) (λ x b q k. search (rules, tests)) in
    let digits : list_all is_ascii_digit c.args.text.now ≡ true = cc in
    rw c.ok.ensures.value (number_of-parsed c.args.text.now _ digits (omega arith)
    (parse_digits decimal_numerals 64 c.args.text.now _ c.parse.ensures.value.0 digits))
