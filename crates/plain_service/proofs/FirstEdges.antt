-- The dependencies of one port, chosen among its own.
use Rattle.std.proofs.Common.{◌≡◌, ◌∙◌, ap, refl, ℕ, Bool, true, false, ◌&&◌, if◌then◌else◌, List, [], ◌∷◌, filter}
use Rattle.std.proofs.lemmas.Bool.{and_parts}
use Rattle.std.specs.Str.{bytes_eq}
use Rattle.pkg_path.specs.Paths.{PathValue, port_path}
use Rattle.port_deps.specs.Roots.{RootEdgeValue}
use Rattle.ports_query.specs.Edges.{first_edges_of, is_of, keeps}
use Rattle.ports_query.specs.Kinds.{has_kind}
use Rattle.ports_query.specs.declared.kinds.Kinds.{Kinds}

module _ {X : Type 0} (p q : X → Bool) (within : (x : X) → p x ≡ true → q x ≡ true) where
  filter_by : (x : X) (xs : List X) (passes there : Bool) → p x ≡ passes → q x ≡ there → filter p (filter q xs) ≡ filter p xs
      → filter p (if there then x ∷ filter q xs else filter q xs) ≡ (if passes then x ∷ filter p xs else filter p xs)
  filter_by x xs true true is e rest = ap (λ (b : Bool). if b then x ∷ filter p (filter q xs) else filter p (filter q xs)) is
      ∙ ap (λ all. x ∷ all) rest
  filter_by x xs true false is e rest = let there : q x ≡ true = within x is in absurd cc
  filter_by x xs false true is e rest = ap (λ (b : Bool). if b then x ∷ filter p (filter q xs) else filter p (filter q xs)) is ∙ rest
  filter_by x xs false false is e rest = rest

  -- a filter of what passes a weaker test
  filter-within : (xs : List X) → filter p (filter q xs) ≡ filter p xs
  filter-within [] = refl
  filter-within (x ∷ xs) = filter_by x xs (p x) (q x) refl refl (filter-within xs)

pub first-own : (kinds : Kinds) (path : PathValue) (at : List ℕ) (edges : List RootEdgeValue) → at ≡ port_path path
    → first_edges_of kinds path (filter (λ (edge : RootEdgeValue). bytes_eq edge.root at) edges) ≡ first_edges_of kinds path edges
first-own kinds path at edges is =
    ap (λ root. first_edges_of kinds path (filter (λ (edge : RootEdgeValue). bytes_eq edge.root root) edges)) is
    ∙ filter-within (λ (edge : RootEdgeValue). has_kind kinds edge.edge.kind && is_of path edge)
    (λ (edge : RootEdgeValue). bytes_eq edge.root (port_path path))
    (λ edge passes. (and_parts (bytes_eq edge.root (port_path path)) (keeps path.subpackage edge.edge)
    (and_parts (has_kind kinds edge.edge.kind) (is_of path edge) passes).1).0) edges
