-- The answers to PUT /v1/path and PUT /v1/profile, which are the same over every world.
use Rattle.std.specs.Prelude.{ℕ, if◌then◌else◌, List, Option, Some, None, codes}
use Rattle.std.specs.Str.{is_utf8, bytes_eq}
use Rattle.mk_text.specs.declared.profile.Profile.{Profile}
use Rattle.mk_text.specs.declared.profile.Profile.TheVariants.{One, Two}
use Rattle.mk_paths.specs.SearchPath.{search_path}
use Rattle.plain_service.specs.declared.change.Change.TheVariants.{SetPath, SetProfile}
use Rattle.plain_service.specs.Spaces.{trimmed}
use Rattle.plain_service.specs.Replies.{bad_path, bad_profile, path_set, profile_set}
use Rattle.plain_service.specs.Requests.{Answer, reply_alone}

-- the search path that a text names is set, if it names one
abbrev pub set_trees : List ℕ → Option (List (List ℕ)) → Answer
set_trees text (Some trees) = (path_set text, Some (SetPath trees))
set_trees text None = reply_alone bad_path

-- the same of bytes; if they aren't UTF-8, they name no search path
abbrev pub set_text : List ℕ → Answer
set_text bytes = if is_utf8 bytes then set_trees bytes (search_path bytes) else reply_alone bad_path

-- PUT /v1/path, whose body has a search path
abbrev pub set_path : List ℕ → Answer
set_path body = set_text (trimmed body)

-- the profile that a text is the number of
abbrev pub profile_named : List ℕ → Option Profile
profile_named text = if bytes_eq text (codes "1") then Some One else if bytes_eq text (codes "2") then Some Two else None

-- the profile that a text names is set, if it names one
abbrev pub set_language : Option Profile → Answer
set_language (Some profile) = (profile_set profile, Some (SetProfile profile))
set_language None = reply_alone bad_profile

-- PUT /v1/profile, whose body has the number of a profile
abbrev pub set_profile : List ℕ → Answer
set_profile body = set_language (profile_named (trimmed body))
