-- Other forms of the same: work that ends alike, a branch, a file.
use Rattle.std.proofs.Common.{◌≡◌, ℕ, suc, zero, List, Result, refl, sym, subst}
use Rattle.mk_base.specs.declared.stops.Stop.{Stop}
use Rattle.mk_base.specs.Stops.{Gives}
use Rattle.mk_text.specs.Lines.{LogicalLine}
use Rattle.mk_ast.specs.declared.nodes.Branch.{Branch, out-Branch, fold_out-Branch}
use Rattle.mk_ast.specs.Trees.{Tree, Block}
use Rattle.mk_ast.specs.Parser.{parsed}
use Rattle.mk_ast.specs.Views.{block_of, branch_of, node_step, branch_step}
use Rattle.mk_paths.specs.World.{FileMap}
use Rattle.mk_files.specs.Questions.{Account}
use Rattle.mk_eval.specs.Meaning.{file_meaning, execute_read}
use Rattle.mk_eval.specs.Steps.{entering_at}
use Rattle.mk_eval.specs.declared.state.EvalState.{EvalState}

-- work that ends as other work
pub Gives-same : {R A F M : Type 0} (view : R → A) (result : Result R (Stop F)) (state : M) (whole part : Result (A × M) (F × M))
    → whole ≡ part → Gives view result state part → Gives view result state whole
Gives-same view result state whole part same gives = subst (λ outcome. Gives view result state outcome) (sym same) gives

-- a branch by its line and its block
pub tree-branch : (branch : Branch) → branch_of branch ≡ ((out-Branch branch).head, block_of (out-Branch branch).body.value.items)
tree-branch branch = fold_out-Branch Tree (LogicalLine × Block) node_step branch_step branch

-- a file, whatever may be included in it
pub file_meaning-is : (files : FileMap) (makefile : List ℕ) (levels : ℕ) (name bytes : List ℕ) (state : EvalState) (a : Account)
    → file_meaning files makefile levels name bytes state a
    ≡ execute_read (entering_at files makefile levels) (record { files = files; makefile = makefile; file = name; levels = levels })
    (parsed bytes) state a
unfolding file_meaning
file_meaning-is files makefile zero name bytes state a = refl
file_meaning-is files makefile (suc levels) name bytes state a = refl
