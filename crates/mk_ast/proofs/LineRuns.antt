-- Reading lines one after another.
use Rattle.std.proofs.Common.{◌≡◌, ℕ, List, [], ◌∷◌, Option, Some, None, Result, Ok, Err, refl, sym, ap, ◌∙◌}
use Rattle.mk_text.specs.Lines.{LogicalLine}
use Rattle.mk_ast.specs.declared.parser.ParseError.{ParseError}
use Rattle.mk_ast.specs.declared.parser.ParseError.TheVariants as errors
use Rattle.mk_ast.specs.Parts.{part_of}
use Rattle.mk_ast.specs.Blocks.{ReadingState, step, go_on_from, read_on, whole_reading}
use Rattle.mk_ast.specs.Parser.{HoldsOfAnswer, with_kind}
use Rattle.mk_ast.specs.ReaderViews.{Steps}

pub read-end : (limit : ℕ) (held : ReadingState) → read_on limit held [] ≡ Ok held
unfolding read_on
read-end limit held = refl

read-line : (limit : ℕ) (held : ReadingState) (line : LogicalLine) (lines : List LogicalLine) (next : Option ReadingState)
    → step limit held (part_of line) ≡ next
    → read_on limit held (line ∷ lines) ≡ go_on_from (λ held'. read_on limit held' lines) line.line next
unfolding read_on
read-line limit held line lines next is = ap (go_on_from (λ held'. read_on limit held' lines) line.line) is

-- a line that can be there
pub read-next : (limit : ℕ) (held next : ReadingState) (line : LogicalLine) (lines : List LogicalLine)
    → step limit held (part_of line) ≡ Some next
    → read_on limit held (line ∷ lines) ≡ read_on limit next lines
read-next limit held next line lines is = read-line limit held line lines (Some next) is

-- a line that is in a wrong place
pub read-wrong : (limit : ℕ) (held : ReadingState) (line : LogicalLine) (lines : List LogicalLine) (error : ParseError)
    (reading : Result ReadingState ℕ)
    → reading ≡ read_on limit held (line ∷ lines) → Steps (Err error) line.line (step limit held (part_of line))
    → HoldsOfAnswer (Err error) (λ answer. answer ≡ with_kind (whole_reading reading))
read-wrong limit held line lines (errors.Fault fault) reading is stops =
    ap Err stops.1 ∙ ap (λ r. with_kind (whole_reading r)) (let stop : Err line.line ≡ reading =
    sym (is ∙ read-line limit held line lines None stops.0) in stop)
read-wrong limit held line lines (errors.Memory _) reading is stops = tt
