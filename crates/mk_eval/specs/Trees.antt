use Rattle.std.specs.Prelude.{Result, Ok, Err}
use Rattle.std.specs.declared.rc.Rc.{Rc}
use Rattle.std.specs.declared.alloc.Global.{Global}
use Rattle.mk_ast.specs.declared.nodes.Makefile.{Makefile}
use Rattle.mk_ast.specs.declared.parser.ParseFault.{ParseFault}
use Rattle.mk_ast.specs.Trees.{Block}
use Rattle.mk_ast.specs.Views.{makefile_tree}

-- the tree of a file that was read, or its fault
abbrev pub tree_or_fault : Result (Rc Makefile Global) ParseFault → Result Block ParseFault
tree_or_fault (Ok makefile) = Ok (makefile_tree makefile.value)
tree_or_fault (Err fault) = Err fault
