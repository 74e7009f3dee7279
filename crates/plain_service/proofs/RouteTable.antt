-- What the router of the routes finds is what their table has.
use Rattle.std.proofs.Common.{◌≡◌, ℕ, Bool, true, false, List, [], ◌∷◌, map, Option, Some, None, option_map, refl, sym, ap, ◌∙◌}
use Rattle.std.proofs.Common.{if◌then◌else◌}
use Rattle.std.specs.Str.{bytes_eq}
use Rattle.matchit.specs.Rows.{RowsOf}
use Rattle.matchit.specs.Router.{RouteOf}
use Rattle.matchit.specs.Seek.{first}
use Rattle.plain_service.specs.declared.routes.Route.{Route}
use Rattle.plain_service.specs.Routes.{under, table, route_of}
use Rattle.plain_service.specs.RouteRows.{route_row, rows}
use Rattle.plain_service.proofs.LiteralRoutes.{row_of, seek_literal}

picks : (here : Bool) (entry : List ℕ × Route) (others : Option (RouteOf Route)) (later : Option Route)
    → option_map (λ (found : RouteOf Route). found.value) others ≡ later
    → option_map (λ (found : RouteOf Route). found.value) (if here then Some (route_row entry).1 else others) ≡
    (if here then Some entry.1 else later)
picks true entry others later same = refl
picks false entry others later same = same

-- a table as rows has what the table has
row_of-rows : (entries : List (List ℕ × Route)) (path : List ℕ)
    → option_map (λ (found : RouteOf Route). found.value) (row_of (map route_row entries) path) ≡ under entries path
row_of-rows [] path = refl
row_of-rows (entry ∷ entries) path =
    picks (bytes_eq entry.0 path) entry (row_of (map route_row entries) path) (under entries path) (row_of-rows entries path)

-- the route that the router finds
found_route : (router : RowsOf (RouteOf Route)) → router ≡ rows → (path : List ℕ)
    → option_map (λ (found : RouteOf Route). found.value) (first router path) ≡ route_of path
found_route router fixed path =
    rw (fixed, seek_literal path rows refl) (row_of-rows table path)

pub found : (router : RowsOf (RouteOf Route)) → router ≡ rows → (path : List ℕ) (route : RouteOf Route)
    → first router path ≡ Some route → Some route.value ≡ route_of path
found router fixed path route seen = ap (option_map (λ (found : RouteOf Route). found.value)) (sym seen) ∙ found_route router fixed path

pub missing : (router : RowsOf (RouteOf Route)) → router ≡ rows → (path : List ℕ)
    → first router path ≡ None → None ≡ route_of path
missing router fixed path seen = ap (option_map (λ (found : RouteOf Route). found.value)) (sym seen) ∙ found_route router fixed path
