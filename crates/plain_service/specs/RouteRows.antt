-- The table of the routes as a router keeps it.
use Rattle.std.specs.Prelude.{◌≡◌, ℕ, List, [], map, Ok, None}
use Rattle.matchit.specs.Rows.{RowsOf}
use Rattle.matchit.specs.Router.{RouteOf, nearest}
use Rattle.matchit.specs.Route.{Scan, parse_route}
use Rattle.plain_service.specs.declared.routes.Route.{Route}
use Rattle.plain_service.specs.Routes.{table}

-- each path is a pattern without parameters
abbrev pub route_row : List ℕ × Route → List ℕ × RouteOf Route
route_row entry = (entry.0, record { pattern = entry.0; text = entry.0; names = []; value = entry.1 })

abbrev pub rows : RowsOf (RouteOf Route)
rows = map route_row table

-- a path that reads as a pattern, with which no row conflicts
abbrev pub IsFree : List ℕ → RowsOf (RouteOf Route) → Type 0
IsFree path old = (s : Scan) × (parse_route path ≡ Ok s) × (nearest s.pattern old ≡ None)
