-- The routes of the service, with their methods.
use Rattle.std.specs.Prelude.{ℕ, if◌then◌else◌, List, [], ◌∷◌, Option, Some, None, codes}
use Rattle.std.specs.Str.{bytes_eq}
use Rattle.ports_http.specs.declared.method.Method.{Method}
use Rattle.ports_http.specs.declared.method.Method.TheVariants.{Get, Put, Delete}
use Rattle.plain_service.specs.declared.routes.Route.{Route}
use Rattle.plain_service.specs.declared.routes.Route.TheVariants.{Deps, Faults, File, List as AllPackages, Match}
use Rattle.plain_service.specs.declared.routes.Route.TheVariants.{Path, Port, Profile as Language, Rdeps, Var}

-- what a table has under a path
abbrev pub under : {A : Type 0} → List (List ℕ × A) → List ℕ → Option A
under [] path = None
under ((written, here) ∷ others) path = if bytes_eq written path then Some here else under others path

-- the paths of the routes, in the order of their bytes
abbrev pub table : List (List ℕ × Route)
table =
    (codes "/v1/deps", Deps) ∷ (codes "/v1/faults", Faults) ∷ (codes "/v1/file", File)
    ∷ (codes "/v1/list", AllPackages) ∷ (codes "/v1/match", Match)
    ∷ (codes "/v1/path", Path) ∷ (codes "/v1/port", Port) ∷ (codes "/v1/profile", Language)
    ∷ (codes "/v1/rdeps", Rdeps) ∷ (codes "/v1/var", Var) ∷ []

-- the route of a path, which is compared as it is written
abbrev pub route_of : List ℕ → Option Route
route_of path = under table path

-- the methods of a route
abbrev pub methods_of : Route → List Method
methods_of Deps = Get ∷ []
methods_of Faults = Get ∷ []
methods_of File = Get ∷ Put ∷ Delete ∷ []
methods_of AllPackages = Get ∷ []
methods_of Match = Get ∷ []
methods_of Path = Put ∷ []
methods_of Port = Get ∷ []
methods_of Language = Put ∷ []
methods_of Rdeps = Get ∷ []
methods_of Var = Get ∷ []
