use Rattle.std.proofs.Common.{◌≡◌, ℕ, ◌+◌, take, count_by, ◌==◌, Result, Err, sym, ap, subst, ◌∙◌}
use Rattle.mk_base.specs.declared.faults.FaultKind.TheVariants as kinds
use Rattle.mk_text.specs.Lines.{logical_lines}
use Rattle.mk_ast.specs.declared.nodes.TheConstants.{BLOCKS}
use Rattle.mk_ast.specs.declared.parser.ParseFault.{ParseFault}
use Rattle.mk_ast.specs.declared.parser.ParseError.TheVariants as errors
use Rattle.mk_ast.specs.Trees.{Block}
use Rattle.mk_ast.specs.Blocks.{blocks_of}
use Rattle.mk_ast.specs.Parser.{bad_line, with_kind, parsed, HoldsOfAnswer}
use Rattle.mk_ast.proofs.ParseLaws.{parsed-good, parsed-bad, answers-parses}
use Rattle.mk_ast.proofs.parser.parse.Goals as goal

pub returns-in-Ok : goal.returns-in-Ok
returns-in-Ok c =
    let bytes = c.args.bytes.now in
    let same : with_kind (blocks_of BLOCKS (logical_lines c.in-Ok.text.now)) ≡ parsed bytes =
    ap (λ text. with_kind (blocks_of BLOCKS (logical_lines text))) c.in-Ok.ensures.cases.0
    ∙ sym (parsed-good bytes c.in-Ok.ensures.cases.1) in
    let is = subst (λ reading. HoldsOfAnswer c.parse_text.result (λ answer. answer ≡ reading)) same c.parse_text.ensures in
    record { reads = answers-parses bytes c.parse_text.result is; function = is }

abbrev fault_at : ℕ → Result Block ParseFault
fault_at line = Err (record { kind = kinds.Utf8; line = line })

pub returns-in-Err : goal.returns-in-Err
returns-in-Err c =
    let bytes = c.args.bytes.now in
    let line : c.bad_line.result ≡ bad_line bytes =
    c.bad_line.ensures ∙ ap (λ n. 1 + count_by (λ byte. byte == 10) (take n bytes)) (c.valid_up_to.ensures ∙ c.in-Err.ensures.valid_len) in
    let is : fault_at c.bad_line.result ≡ parsed bytes = ap fault_at line ∙ sym (parsed-bad bytes c.in-Err.ensures.cases.0) in
    record { reads = answers-parses bytes (Err (errors.Fault (record { kind = kinds.Utf8; line = c.bad_line.result }))) is; function = is }
