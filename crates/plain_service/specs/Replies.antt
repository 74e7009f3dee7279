-- The replies of the service (RFC 9110, sections 8 and 15).
use Rattle.std.specs.Prelude.{List, [], Option, Some, codes, ℕ}
use Rattle.mk_base.specs.Faults.{fault_number}
use Rattle.mk_base.specs.FaultAt.{FaultAt}
use Rattle.mk_text.specs.declared.profile.Profile.{Profile}
use Rattle.mk_text.specs.Profiles.{profile_number}
use Rattle.ports_http.specs.declared.reply.Content.TheVariants.{Json, Octets}
use Rattle.ports_http.specs.Messages.{ReplyMessage}
use Rattle.serde_json.specs.Data.{Data}
use Rattle.serde_json.specs.Written.{compact_text}
use Rattle.plain_service.specs.declared.routes.Route.{Route}
use Rattle.plain_service.specs.Routes.{methods_of}
use Rattle.pkg_path.specs.Paths.{PathValue}
use Rattle.port_rules.specs.Ports.{PortValue}
use Rattle.plain_service.specs.PortBody.{port_body}
use Rattle.plain_service.specs.Bodies.{stored_body, removed_body, path_body, profile_body, error_body, fault_body, variable_body}

-- a reply with a JSON value, written without blanks
abbrev pub json_reply : ℕ → Data → ReplyMessage
json_reply status value = record { status = status; body = compact_text value; content = Some Json; allow = [] }

-- a refusal, by its word
abbrev pub refusal : ℕ → List ℕ → ReplyMessage
refusal status word = json_reply status (error_body word)

-- no such route
abbrev pub no_route : ReplyMessage
no_route = refusal 404 (codes "Route")

-- the refusal of a method that the route doesn't have
abbrev pub not_allowed : Route → ReplyMessage
not_allowed route = record (refusal 405 (codes "Method")) { allow = methods_of route }

-- a parameter that is missing, empty or there twice
abbrev pub bad_parameter : ReplyMessage
bad_parameter = refusal 400 (codes "Parameter")

-- a text that names no file
abbrev pub bad_name : ReplyMessage
bad_name = refusal 400 (codes "Name")

-- a text that is no package path, or no search path
abbrev pub bad_path : ReplyMessage
bad_path = refusal 400 (codes "Path")

-- a text that is the number of no profile
abbrev pub bad_profile : ReplyMessage
bad_profile = refusal 400 (codes "Profile")

-- a file that isn't there
abbrev pub no_file : ReplyMessage
no_file = refusal 404 (codes "NoFile")

-- a directory whose makefile isn't there
abbrev pub no_port : ReplyMessage
no_port = refusal 404 (codes "NoPort")

-- a package that the port doesn't have
abbrev pub no_subpackage : ReplyMessage
no_subpackage = refusal 404 (codes "NoSubpackage")

-- a file that isn't stored, since the tenant would have more than it may
abbrev pub storage_full : ReplyMessage
storage_full = refusal 409 (codes "Full")

-- a makefile at fault
abbrev pub faulty : FaultAt → ReplyMessage
faulty fault = json_reply 422 (fault_body (fault_number fault.kind) fault.line fault.name)

-- the content of a file
abbrev pub file_shown : List ℕ → ReplyMessage
file_shown content = record { status = 200; body = content; content = Some Octets; allow = [] }

-- a file was stored
abbrev pub stored : ReplyMessage
stored = json_reply 200 stored_body

-- a file was removed
abbrev pub removed : ReplyMessage
removed = json_reply 200 removed_body

-- the search path was set
abbrev pub path_set : List ℕ → ReplyMessage
path_set path = json_reply 200 (path_body path)

-- the profile was set
abbrev pub profile_set : Profile → ReplyMessage
profile_set profile = json_reply 200 (profile_body (profile_number profile))

-- the value of a variable, or that it isn't defined
abbrev pub variable_shown : Option (List ℕ) → ReplyMessage
variable_shown value = json_reply 200 (variable_body value)

-- what the port is that a path names
abbrev pub port_shown : PathValue → PortValue → ReplyMessage
port_shown path port = json_reply 200 (port_body path port)
