-- A blank line has nothing to do.
use Rattle.std.proofs.Common.{◌≡◌, ◌<◌, ◌≤◌, ◌+◌, ◌∙◌, ◌&&◌, not, Bool, true, false, refl, ℕ, List, ◌∷◌, drop, length, get_or, sym, ap}
use Rattle.std.proofs.Common.{arith}
use Rattle.std.proofs.lemmas.List.{drop_more, drop_all}
use Rattle.mk_base.specs.Outcome.{after, tell, ◌>>=◌}
use Rattle.mk_ast.specs.declared.nodes.Node.{Node}
use Rattle.mk_ast.specs.Kinds.{TextLineKind}
use Rattle.mk_ast.specs.Trees.{Tree, LineTree, ChoiceTree, LoopTree, Block, MoreBlock}
use Rattle.mk_ast.specs.Views.{tree_of, block_of}
use Rattle.mk_files.specs.Questions.{beside}
use Rattle.mk_eval.specs.Lines.{perform_kind}
use Rattle.mk_env.specs.Texts.{language_of}
use Rattle.mk_eval.specs.declared.state.EvalState.{EvalState}
use Rattle.mk_eval.specs.Includes.{open_request}
use Rattle.mk_eval.specs.Modules.{has_modules, asks_modules}
use Rattle.mk_eval.specs.Execution.{execute}
use Rattle.mk_eval.specs.Meaning.{at, enter, modules_after}
use Rattle.mk_step.specs.Machine.{Site, Frame, Lines, place_at, works_in, entering_in, rest}
use Rattle.mk_step.specs.Costs.{IsBlank, TreeCosts, Costs}
use Rattle.mk_step.specs.Points.{DoTheSame}

-- a block from a place on is the line there and what follows
pub block-more : (items : List Node) (i : ℕ) (item : Node) → i < length items → item ≡ get_or items i item
    → block_of (drop i items) ≡ MoreBlock (tree_of item) (block_of (drop (i + 1) items))
block-more items i item within is = ap block_of (drop_more items i item within ∙ ap (λ x. x ∷ drop (i + 1) items) (sym is))

-- no line asks for modules that leaves the state as it was
never-asks-by : (included has : Bool) → (not included && has && included) ≡ false
never-asks-by true has = refl
never-asks-by false true = refl
never-asks-by false false = refl

never-asks : (s : EvalState) → asks_modules s s ≡ false
never-asks s = never-asks-by s.shared_asked (has_modules (language_of s.variables))

pub skips : (tree : Tree) (block : Block) (site : Site) (others : List Frame) → IsBlank tree
    → DoTheSame (Lines site (MoreBlock tree block) ∷ others) (Lines site block ∷ others)
skips (LineTree line) block site others blank files makefile s a =
    let place = place_at files makefile site in
    let entering = entering_in files makefile site in
    ap (λ (kind : TextLineKind).
    let r = after (beside a.log (perform_kind s.variables site.loops line.text kind a.meter))
    (λ done. open_request place (record s { variables = done.0 }) done.1) in
    after (after (after (tell (at site.file line.line) r) (λ opened. enter entering opened >>= modules_after entering place line.line
    (asks_modules s opened.0))) (execute (works_in files makefile site) block site.loops)) (rest files makefile others)) blank
    ∙ ap (λ asked. after (after (modules_after entering place line.line asked s a)
    (execute (works_in files makefile site) block site.loops)) (rest files makefile others)) (never-asks s)
skips (ChoiceTree line first later) block site others blank files makefile s a = absurd blank
skips (LoopTree line body) block site others blank files makefile s a = absurd blank

-- the lines from a place on are those after it, if the line there is blank
pub skips-one : (items : List Node) (from i : ℕ) (item : Node) (site : Site) (others : List Frame) → i < length items
    → item ≡ get_or items i item → IsBlank (tree_of item)
    → DoTheSame (Lines site (block_of (drop from items)) ∷ others) (Lines site (block_of (drop i items)) ∷ others)
    → DoTheSame (Lines site (block_of (drop from items)) ∷ others) (Lines site (block_of (drop (i + 1) items)) ∷ others)
skips-one items from i item site others within is blank before files makefile s a =
    before files makefile s a
    ∙ ap (λ block. rest files makefile (Lines site block ∷ others) s a) (block-more items i item within is)
    ∙ skips (tree_of item) (block_of (drop (i + 1) items)) site others blank files makefile s a

pub costs-one : (items : List Node) (i : ℕ) (item : Node) (site : Site) → i < length items → item ≡ get_or items i item
    → TreeCosts (tree_of item) → Costs (Lines site (block_of (drop i items)))
costs-one items i item site within is costs = rw (block-more items i item within is) costs

pub skips-all : (items : List Node) (from i : ℕ) (site : Site) (others : List Frame) → length items ≤ i
    → DoTheSame (Lines site (block_of (drop from items)) ∷ others) (Lines site (block_of (drop i items)) ∷ others)
    → DoTheSame (Lines site (block_of (drop from items)) ∷ others) (Lines site (block_of (drop (length items) items)) ∷ others)
skips-all items from i site others past before files makefile s a =
    before files makefile s a ∙ ap (λ left. rest files makefile (Lines site (block_of left) ∷ others) s a) (drop_all i items past
    ∙ sym (drop_all (length items) items (omega arith)))
