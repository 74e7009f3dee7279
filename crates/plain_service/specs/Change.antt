-- What a request may change of a world, and what becomes of it.
use Rattle.std.specs.Prelude.{Bool, false, if◌then◌else◌, Option, Some, None}
use Rattle.mk_paths.specs.World.{World, files_in, with_file, without_file, with_search_path, with_profile}
use Rattle.mk_files.specs.Limits.{is_over}
use Rattle.ports_http.specs.Messages.{ReplyMessage}
use Rattle.plain_service.specs.declared.change.Change.{Change}
use Rattle.plain_service.specs.declared.change.Change.TheVariants.{PutFile, RemoveFile, SetPath, SetProfile}
use Rattle.plain_service.specs.Replies.{storage_full}

-- the world after a change
abbrev pub changed : World → Change → World
changed world (PutFile name content) = with_file world name content
changed world (RemoveFile name) = without_file world name
changed world (SetPath trees) = with_search_path world trees
changed world (SetProfile profile) = with_profile world profile

-- the change would leave more files or more bytes than a tenant may have; a change that stores no file
-- leaves no more than there were
abbrev pub overfills : World → Change → Bool
overfills world (PutFile name content) = is_over (files_in (with_file world name content))
overfills world (RemoveFile name) = false
overfills world (SetPath trees) = false
overfills world (SetProfile profile) = false

-- The reply to a request and the world after it, given the reply that is prepared and what is to be
-- changed, if anything is. If the change would pass the limits, nothing changes, and the reply is `storage_full`.
abbrev pub settle_change : World → ReplyMessage → Option Change → ReplyMessage × World
settle_change world reply None = (reply, world)
settle_change world reply (Some change) = if overfills world change then (storage_full, world) else (reply, changed world change)
