-- What holds of every reading of lines into blocks.
use Rattle.std.specs.Prelude.{◌≡◌, ℕ, List, Result}
use Rattle.mk_text.specs.Lines.{LogicalLine}
use Rattle.mk_ast.specs.declared.nodes.TheConstants.{BLOCKS}
use Rattle.mk_ast.specs.Trees.{Block, block_parts}
use Rattle.mk_ast.specs.Reader.{Reads}
use Rattle.mk_ast.specs.Blocks.{blocks_of}
use Rattle.mk_ast.specs.declared.parser.ParseFault.{ParseFault}
use Rattle.mk_ast.specs.Parser.{IsParse, parsed}

-- the reading in one pass is a reading
abbrev pub BlocksAreRead : Type 0
BlocksAreRead = (limit : ℕ) (lines : List LogicalLine) → Reads limit lines (blocks_of limit lines)

-- there is no other reading, neither another block nor a fault at another line
abbrev pub NothingElseIsRead : Type 0
NothingElseIsRead =
    (limit : ℕ) (lines : List LogicalLine) (result : Result Block ℕ) → Reads limit lines result
    → result ≡ blocks_of limit lines

-- if two blocks have the same parts in the same order, they are the same block
abbrev pub PartsHaveOneBlock : Type 0
PartsHaveOneBlock = (one other : Block) → block_parts one ≡ block_parts other → one ≡ other

-- bytes are parsed as what `parsed` says and as nothing else
abbrev pub NothingElseIsParsed : Type 0
NothingElseIsParsed = (bytes : List ℕ) (result : Result Block ParseFault) → IsParse bytes result → result ≡ parsed bytes

-- a makefile's blocks may be 64 deep
abbrev pub BlocksNest64Deep : Type 0
BlocksNest64Deep = BLOCKS ≡ 64
