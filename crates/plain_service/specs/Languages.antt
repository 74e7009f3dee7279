-- Which requests may change the profile of a world.
use Rattle.std.specs.Prelude.{◌≡◌, Bool, true, false, Option, Some}
use Rattle.mk_paths.specs.World.{World, profile_of}
use Rattle.plain_service.specs.declared.routes.Route.{Route}
use Rattle.plain_service.specs.declared.routes.Route.TheVariants.{Profile as Language}
use Rattle.plain_service.specs.Requests.{PlainRequest}
use Rattle.plain_service.specs.Plain.{plain}
use Rattle.plain_service.specs.Routes.{route_of}
use Rattle.plain_service.specs.Target.{path_of_target as target_path}

-- the route is that of the profile
abbrev pub is_of_profile : Option Route → Bool
is_of_profile (Some Language) = true
is_of_profile route = false

-- a request goes to the route of the profile
abbrev pub asks_profile : PlainRequest → Bool
asks_profile request = is_of_profile (route_of (target_path request.target))

-- a request to any other route leaves the profile of the world
abbrev pub OthersKeepTheProfile : Type 0
OthersKeepTheProfile =
    (world : World) (request : PlainRequest) → asks_profile request ≡ false
    → profile_of (plain world request).1 ≡ profile_of world
