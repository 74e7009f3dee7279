-- What is true of a service, whatever happens to it.
use Rattle.std.specs.Prelude.{◌≡◌, ℕ, ◌≤◌, false, List, is_some, length, Option}
use Rattle.mk_paths.specs.World.{World}
use Rattle.ports_core.specs.declared.connection.Connection.{Connection}
use Rattle.ports_core.specs.Opened.{connection_in}
use Rattle.ports_core.specs.Places.{AreSeated}
use Rattle.ports_core.specs.Slices.{Queue}
use Rattle.ports_core.specs.Jobs.{TenantJob, AreForFirst}

-- Each tenant has a world and a queue, and may have a job. At most 16 connections are open, each with a number
-- below the next one. What waits are requests of open connections, at most one of each. So the
-- places that are kept suffice. A tenant's job is for the question of the first request of its queue.
pub record IsConsistent (tenants : ℕ) (kept : List World) (waiting : List Queue) (connections : List (ℕ × Connection))
    (next : ℕ) (under_way : List (Option TenantJob)) : Type 0 where
  pub worlds : length kept ≡ tenants
  pub queues : length waiting ≡ tenants
  pub few : length connections ≤ 16
  pub fresh : (c : ℕ) → next ≤ c → is_some (connection_in c connections) ≡ false
  pub seated : AreSeated waiting connections
  pub jobs : length under_way ≡ tenants
  pub first : AreForFirst waiting under_way
