-- What is left of a frame without what costs nothing.
use Rattle.std.proofs.Common.{◌≡◌, ◌<◌, ◌≤◌, ◌∙◌, ℕ, List, [], ◌∷◌, drop, length, map, String, string_bytes, Global, ap, subst, arith}
use Rattle.std.proofs.lemmas.List.{drop_all, length-drop}
use Rattle.mk_base.specs.Outcome.{after}
use Rattle.mk_ast.specs.declared.nodes.Node.{Node}
use Rattle.mk_ast.specs.declared.nodes.Branch.{Branch}
use Rattle.mk_ast.specs.Trees.{Block, Branches}
use Rattle.mk_ast.specs.Blocks.{branches_from}
use Rattle.mk_ast.specs.Views.{block_of, branch_of}
use Rattle.mk_loop.specs.LoopWords.{LoopWords}
use Rattle.mk_eval.specs.Execution.{execute, iteration_of}
use Rattle.mk_eval.specs.Meaning.{include_module}
use Rattle.mk_step.specs.Machine.{Site, Frame, Lines, Later, Iterations, Searches, place_at, works_in, entering_in, numbered_line, rest}
use Rattle.mk_step.specs.Costs.{Costs}
use Rattle.mk_step.specs.Points.{DoTheSame}
use Rattle.mk_step.proofs.Advancing.{each-nil}

pub costs-lines : (site : Site) (items items' : List Node) (next : ℕ) → items ≡ items'
    → ((site : Site) → next < length items → Costs (Lines site (block_of (drop next items)))) → next < length items'
    → Costs (Lines site (block_of (drop next items')))
costs-lines site items items' next same costs within = subst (λ (items : List Node). next < length items
    → Costs (Lines site (block_of (drop next items)))) same (costs site) within

pub alike-lines : (site : Site) (others : List Frame) (items items' : List Node) (from next : ℕ) → items ≡ items'
    → DoTheSame (Lines site (block_of (drop from items)) ∷ others) (Lines site (block_of (drop next items)) ∷ others)
    → DoTheSame (Lines site (block_of (drop from items')) ∷ others) (Lines site (block_of (drop next items')) ∷ others)
alike-lines site others items items' from next same alike =
    subst (λ (items : List Node). DoTheSame (Lines site (block_of (drop from items)) ∷ others)
    (Lines site (block_of (drop next items)) ∷ others)) same alike

pub over-lines : (site : Site) (others : List Frame) (items items' : List Node) (from next : ℕ) → items ≡ items' → length items' ≤ next
    → DoTheSame (Lines site (block_of (drop from items)) ∷ others) (Lines site (block_of (drop next items)) ∷ others)
    → DoTheSame (Lines site (block_of (drop from items')) ∷ others) others
over-lines site others items items' from next same past alike files makefile s a =
    alike-lines site others items items' from next same alike files makefile s a
    ∙ ap (λ left. rest files makefile (Lines site (block_of left) ∷ others) s a) (drop_all next items' past)

costs-branches : (site : Site) (left : List Branch) (last : Branches) → 0 < length left
    → Costs (Later site (branches_from (map branch_of left) last))
costs-branches site [] last some = absurd (omega (arith, some))
costs-branches site (branch ∷ left) last some = tt

pub costs-later : (site : Site) (items : List Branch) (last : Branches) (next : ℕ) → next < length items
    → Costs (Later site (branches_from (map branch_of (drop next items)) last))
costs-later site items last next within = costs-branches site (drop next items) last (omega (arith, length-drop next items, within))

costs-left : (site : Site) (line : ℕ) (body : Block) (left : List LoopWords) → 0 < length left → Costs (Iterations site line body left)
costs-left site line body [] some = absurd (omega (arith, some))
costs-left site line body (iteration ∷ left) some = tt

pub costs-iterations : (site : Site) (line : ℕ) (body : Block) (iterations : List LoopWords) (next : ℕ) → next < length iterations
    → Costs (Iterations site line body (drop next iterations))
costs-iterations site line body iterations next within = costs-left site line body (drop next iterations)
    (omega (arith, length-drop next iterations, within))

pub over-iterations : (site : Site) (line : ℕ) (body : Block) (iterations : List LoopWords) (next : ℕ) (others : List Frame)
    → length iterations ≤ next → DoTheSame (Iterations site line body (drop next iterations) ∷ others) others
over-iterations site line body iterations next others past files makefile s a =
    ap (λ left. rest files makefile (Iterations site line body left ∷ others) s a) (drop_all next iterations past)
    ∙ ap (λ r. after r (rest files makefile others))
    (each-nil (iteration_of ((works_in files makefile site).begins (numbered_line line))
    (execute (works_in files makefile site) body) site.loops) s a)

-- words that are left to be searched, and none
costs-words : (site : Site) (line : ℕ) (left : List (String Global)) → 0 < length left → Costs (Searches site line (map string_bytes left))
costs-words site line [] some = absurd (omega (arith, some))
costs-words site line (word ∷ left) some = tt

pub costs-searches : (site : Site) (line : ℕ) (words : List (String Global)) (next : ℕ) → next < length words
    → Costs (Searches site line (map string_bytes (drop next words)))
costs-searches site line words next within = costs-words site line (drop next words) (omega (arith, length-drop next words, within))

pub over-searches : (site : Site) (line : ℕ) (words : List (String Global)) (next : ℕ) (others : List Frame) → length words ≤ next
    → DoTheSame (Searches site line (map string_bytes (drop next words)) ∷ others) others
over-searches site line words next others past files makefile s a =
    ap (λ left. rest files makefile (Searches site line (map string_bytes left) ∷ others) s a) (drop_all next words past)
    ∙ ap (λ r. after r (rest files makefile others))
    (each-nil (include_module (entering_in files makefile site) (place_at files makefile site) line) s a)
