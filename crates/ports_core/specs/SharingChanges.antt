-- What an event does to what the tenants share.
use Rattle.std.specs.Prelude.{◌≡◌}
use Rattle.ports_core.specs.declared.event.Event.{Event}
use Rattle.ports_core.specs.declared.event.Event.TheVariants.{Open, Piece, End, Fault, Wrote, Turn}
use Rattle.ports_core.specs.Sharing.{IsUsed}
use Rattle.ports_core.specs.State.{State, sharing_of}

-- nothing that is kept was used
abbrev pub KeepsSharing : State → State → Type 0
KeepsSharing old new = sharing_of new ≡ sharing_of old

-- what is kept may have been used
abbrev pub UsesSharing : State → State → Type 0
UsesSharing old new = IsUsed (sharing_of old) (sharing_of new)

-- Only in a turn is something used that is kept. No event changes how much may be kept.
abbrev pub ChangesSharing : Event → State → State → Type 0
ChangesSharing (Turn t) old new = UsesSharing old new
ChangesSharing (Open c) old new = KeepsSharing old new
ChangesSharing (Piece c bytes) old new = KeepsSharing old new
ChangesSharing (End c) old new = KeepsSharing old new
ChangesSharing (Fault c) old new = KeepsSharing old new
ChangesSharing (Wrote c count) old new = KeepsSharing old new
