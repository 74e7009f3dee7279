-- The parameter `path` of a query: the package path that it names, or the refusal.
use Rattle.std.specs.Prelude.{ℕ, List, Option, Some, None, Result, Ok, Err, codes}
use Rattle.pkg_path.specs.Paths.{PathValue, path_of}
use Rattle.pkg_path.specs.declared.faults.PkgPathFault.{PkgPathFault}
use Rattle.ports_http.specs.Messages.{ReplyMessage}
use Rattle.plain_service.specs.Parameters.{parameter}
use Rattle.plain_service.specs.Replies.{bad_parameter, bad_path}

-- what a text names as a package path, or the refusal
abbrev pub path_or_refusal : Result PathValue PkgPathFault → Result PathValue ReplyMessage
path_or_refusal (Ok path) = Ok path
path_or_refusal (Err fault) = Err bad_path

-- the same of a parameter that must be there
abbrev pub path_of_parameter : Option (List ℕ) → Result PathValue ReplyMessage
path_of_parameter (Some text) = path_or_refusal (path_of text)
path_of_parameter None = Err bad_parameter

-- the package path that a query names
abbrev pub path_in : List ℕ → Result PathValue ReplyMessage
path_in query = path_of_parameter (parameter (codes "path") query)
