-- What bytes are parsed as, and nothing else.
use Rattle.std.proofs.Common.{◌≡◌, inl, inr, ℕ, Bool, true, false, cond, List, Result, Ok, Err, refl, sym, ap, subst, ◌∙◌}
use Rattle.std.specs.Str.{is_utf8, IsUtf8}
use Rattle.std.proofs.lemmas.Str.{is_utf8-from_IsUtf8}
use Rattle.general_facts.specs.Texts.{is_utf8-not}
use Rattle.mk_text.specs.Lines.{logical_lines}
use Rattle.mk_ast.specs.declared.nodes.TheConstants.{BLOCKS}
use Rattle.mk_ast.specs.declared.parser.ParseFault.{ParseFault}
use Rattle.mk_ast.specs.declared.parser.ParseError.{ParseError}
use Rattle.mk_ast.specs.declared.parser.ParseError.TheVariants as errors
use Rattle.mk_ast.specs.declared.nodes.Makefile.{Makefile}
use Rattle.mk_ast.specs.Trees.{Block}
use Rattle.mk_ast.specs.Reader.{Reads}
use Rattle.mk_ast.specs.Blocks.{blocks_of}
use Rattle.mk_ast.specs.Parser.{utf8_fault, IsParse, with_kind, parsed, HoldsOfAnswer}
use Rattle.mk_ast.proofs.ReadLaws.{blocks-read}
use Rattle.mk_ast.proofs.ReadOnce.{read-once}

by_test : (bytes : List ℕ) (b : Bool) → is_utf8 bytes ≡ b → parsed bytes ≡ cond b (with_kind (blocks_of BLOCKS (logical_lines bytes)))
    (Err (utf8_fault bytes))
unfolding parsed
by_test bytes b is = ap (λ test. cond test (with_kind (blocks_of BLOCKS (logical_lines bytes))) (Err (utf8_fault bytes))) is

pub parsed-good : (bytes : List ℕ) → IsUtf8 bytes → parsed bytes ≡ with_kind (blocks_of BLOCKS (logical_lines bytes))
parsed-good bytes good = by_test bytes true (is_utf8-from_IsUtf8 bytes good)

pub parsed-bad : (bytes : List ℕ) → ¬ (IsUtf8 bytes) → parsed bytes ≡ Err (utf8_fault bytes)
parsed-bad bytes bad = by_test bytes false (is_utf8-not bytes bad)

parses-with_kind : (bytes : List ℕ) (reading : Result Block ℕ) → is_utf8 bytes ≡ true → Reads BLOCKS (logical_lines bytes) reading
    → IsParse bytes (with_kind reading)
parses-with_kind bytes (Ok block) good reads = (good, reads)
parses-with_kind bytes (Err number) good reads = inr (good, refl, reads)

parses-by : (bytes : List ℕ) (b : Bool) → is_utf8 bytes ≡ b → IsParse bytes (parsed bytes)
parses-by bytes true is = subst (IsParse bytes) (sym (by_test bytes true is))
    (parses-with_kind bytes (blocks_of BLOCKS (logical_lines bytes)) is (blocks-read BLOCKS (logical_lines bytes)))
parses-by bytes false is = subst (IsParse bytes) (sym (by_test bytes false is)) (inl (is, refl))

pub parses-parsed : (bytes : List ℕ) → IsParse bytes (parsed bytes)
parses-parsed bytes = parses-by bytes (is_utf8 bytes) refl

pub answers-parses : (bytes : List ℕ) (result : Result Makefile ParseError) → HoldsOfAnswer result (λ answer. answer ≡ parsed bytes)
    → HoldsOfAnswer result (IsParse bytes)
answers-parses bytes (Ok makefile) is = subst (IsParse bytes) (sym is) (parses-parsed bytes)
answers-parses bytes (Err (errors.Fault fault)) is = subst (IsParse bytes) (sym is) (parses-parsed bytes)
answers-parses bytes (Err (errors.Memory _)) is = tt

pub parse-once : (bytes : List ℕ) (result : Result Block ParseFault) → IsParse bytes result → result ≡ parsed bytes
parse-once bytes (Ok block) is = ap with_kind (read-once BLOCKS (logical_lines bytes) (Ok block) is.1) ∙ sym (by_test bytes true is.0)
parse-once bytes (Err fault) is =
    elim is [
      | inl bad ↦ ap Err bad.1 ∙ sym (by_test bytes false bad.0)
      | inr wrong ↦ ap Err wrong.1 ∙ ap with_kind (read-once BLOCKS (logical_lines bytes) (Err fault.line) wrong.2)
          ∙ sym (by_test bytes true wrong.0)
    ]
