-- What the bytes of a makefile are read as. That they have to be UTF-8 is this project's choice.
use Rattle.std.specs.Prelude.{◌≡◌, ◌⊎◌, ℕ, ◌+◌, ◌==◌, true, false, List, take, count_by, Result, Ok, Err, if◌then◌else◌}
use Rattle.std.specs.Str.{is_utf8}
use Rattle.std.specs.Str.Lossy.{utf8_valid_len}
use Rattle.general_facts.specs.Ascii.{line_feed}
use Rattle.mk_base.specs.declared.faults.FaultKind.TheVariants as kinds
use Rattle.mk_text.specs.Lines.{logical_lines}
use Rattle.mk_ast.specs.declared.nodes.Makefile.{Makefile}
use Rattle.mk_ast.specs.declared.nodes.TheConstants.{BLOCKS}
use Rattle.mk_ast.specs.declared.parser.ParseFault.{ParseFault}
use Rattle.mk_ast.specs.declared.parser.ParseError.{ParseError}
use Rattle.mk_ast.specs.declared.parser.ParseError.TheVariants as errors
use Rattle.mk_ast.specs.Trees.{Block}
use Rattle.mk_ast.specs.Reader.{Reads}
use Rattle.mk_ast.specs.Blocks.{blocks_of}
use Rattle.mk_ast.specs.Views.{makefile_tree}

-- the line of the first byte that isn't UTF-8
abbrev pub bad_line : List ℕ → ℕ
bad_line bytes = 1 + count_by (λ byte. byte == line_feed) (take (utf8_valid_len bytes) bytes)

-- the fault of bytes that aren't UTF-8
abbrev pub utf8_fault : List ℕ → ParseFault
utf8_fault bytes = record { kind = kinds.Utf8; line = bad_line bytes }

-- the fault if blocks go wrong at a line
abbrev pub block_fault : ℕ → ParseFault
block_fault number = record { kind = kinds.Block; line = number }

-- What bytes are read as: the tree of their lines, or a fault. The fault of their first bad byte comes
-- before any fault of their blocks.
abbrev pub IsParse : List ℕ → Result Block ParseFault → Type 0
IsParse bytes (Ok block) = (is_utf8 bytes ≡ true) × Reads BLOCKS (logical_lines bytes) (Ok block)
IsParse bytes (Err fault) =
    ((is_utf8 bytes ≡ false) × (fault ≡ utf8_fault bytes))
    ⊎ ((is_utf8 bytes ≡ true) × (fault ≡ block_fault fault.line) × Reads BLOCKS (logical_lines bytes) (Err fault.line))

-- a reading, with the kind added to its fault
abbrev pub with_kind : Result Block ℕ → Result Block ParseFault
with_kind (Ok block) = Ok block
with_kind (Err number) = Err (block_fault number)

-- the same as a function
unfoldable pub parsed : List ℕ → Result Block ParseFault
parsed bytes = if is_utf8 bytes then with_kind (blocks_of BLOCKS (logical_lines bytes)) else Err (utf8_fault bytes)

-- what is said holds of the answer; if memory ran out, nothing is said
abbrev pub HoldsOfAnswer : Result Makefile ParseError → (Result Block ParseFault → Type 0) → Type 0
HoldsOfAnswer (Ok makefile) says = says (Ok (makefile_tree makefile))
HoldsOfAnswer (Err (errors.Fault fault)) says = says (Err fault)
HoldsOfAnswer (Err (errors.Memory _)) says = Unit {0}

-- a function answers with this
abbrev pub AnswersWith : Result Makefile ParseError → Result Block ParseFault → Type 0
AnswersWith result meant = HoldsOfAnswer result (λ answer. answer ≡ meant)
