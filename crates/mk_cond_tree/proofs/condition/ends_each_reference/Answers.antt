use Rattle.std.proofs.Common.{◌≡◌, ◌≢◌, false, [], Result, IfOk, Bool, sym, subst}
use Rattle.std.specs.declared.alloc.AllocError.{AllocError}
use Rattle.mk_ref.specs.Atoms.{left_of}
use Rattle.mk_ref.specs.Places.{IsFaultOf}
use Rattle.mk_cond_tree.proofs.Found.{unclosed-left}
use Rattle.mk_cond_tree.proofs.condition.ends_each_reference.Goals as goal
use Rattle.mk_cond_tree.proofs.condition.ends_each_reference.Goals.{in-Ok, in-Err-Unclosed, in-Err-Memory}

pub returns-clause-unclosed : goal.returns-clause-unclosed
returns-clause-unclosed c =
    let text = c.args.text.now in
    let P : Result Bool AllocError → Type 0 = λ r. IfOk r (λ ends. ends ≡ false → left_of text ≢ []) in
    elim c.match-pieces.branch [
      | in-Ok w ↦ subst P (sym w.result-is) (λ is. cc)
      | in-Err-Unclosed w ↦ subst P (sym w.result-is)
          (λ is. unclosed-left text _ (subst (IsFaultOf text) w.in-Err-Unclosed.field-0-is w.in-Err-Unclosed.ensures.fault))
      | in-Err-Memory w ↦ subst P (sym w.result-is) tt
    ]
