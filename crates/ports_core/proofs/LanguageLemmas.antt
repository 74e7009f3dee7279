-- The profile of a tenant whose requests ask for no other.
use Rattle.std.proofs.Common.{◌≡◌, ◌∙◌, List, [], ◌∷◌, refl}
use Rattle.std.specs.Prelude.{All}
use Rattle.std.proofs.lemmas.List.Elements.{All-head, All-tail}
use Rattle.mk_text.specs.declared.profile.Profile.{Profile}
use Rattle.mk_paths.specs.World.{World, profile_of}
use Rattle.plain_service.specs.Languages.{OthersKeepTheProfile}
use Rattle.ports_core.specs.declared.queue.QueuedRequest.{QueuedRequest}
use Rattle.ports_core.specs.Answers.{plain_request_of, plain_answer}
use Rattle.ports_core.specs.Slices.{world_of}
use Rattle.ports_core.specs.Languages.{AsksNoProfile, StaysIn, EachStaysInItsProfile}

stays-in : OthersKeepTheProfile → (profile : Profile) (world : World) (requests : List QueuedRequest) → profile_of world ≡ profile
    → All AsksNoProfile requests → StaysIn profile world requests
stays-in kept profile world [] is none = is
stays-in kept profile world (queued ∷ requests) is none =
    let first = All-head AsksNoProfile queued requests none in
    let stays = kept world (plain_request_of queued.request) first ∙ is in
    (is, stays-in kept profile (plain_answer world queued.request).1 requests stays (All-tail AsksNoProfile queued requests none))

pub each-stays : OthersKeepTheProfile → EachStaysInItsProfile
each-stays kept t slice events steps old new served none = stays-in kept (profile_of (world_of slice)) (world_of slice)
    served.answered refl none
