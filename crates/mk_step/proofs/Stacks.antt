-- Frames on top of others.
use Rattle.std.proofs.Common.{◌≡◌, ◌∙◌, ◌≤◌, ℕ, List, [], ◌∷◌, ◌++◌, map, reverse, Option, option_map, sym, ap, arith}
use Rattle.std.proofs.lemmas.List.{reverse-append, map-append}
use Rattle.mk_step.specs.Machine as machine
use Rattle.mk_step.specs.Machine.{rest, before}
use Rattle.mk_step.specs.Costs.{weight}
use Rattle.mk_step.specs.Points.{DoTheSame}
use Rattle.mk_step.specs.Views.{frame_of, frames_of}
use Rattle.mk_step.specs.declared.frames.Frame.{Frame}

-- one more frame is the innermost
pub pushed : (frames : List Frame) (frame : Frame) → frames_of (frames ++ frame ∷ []) ≡ frame_of frame ∷ frames_of frames
pushed frames frame = ap reverse (map-append frame_of frames (frame ∷ [])) ∙ reverse-append (map frame_of frames) (frame_of frame ∷ [])

-- the innermost frame without what costs nothing
pub pops : (first : List machine.Frame) (old new : List Frame) (frame : Frame) (left : Option Frame) → old ≡ new ++ frame ∷ []
    → DoTheSame first (frames_of old)
    → DoTheSame (frame_of frame ∷ frames_of new) (before (option_map frame_of left) (frames_of new))
    → DoTheSame first (before (option_map frame_of left) (frames_of new))
pops first old new frame left is alike settled files makefile s a =
    alike files makefile s a ∙ ap (λ frames. rest files makefile frames s a) (ap frames_of is ∙ pushed new frame)
    ∙ settled files makefile s a

-- the frames after one more is pushed
pub onto : (old new : List Frame) (frame : Frame) (seen : machine.Frame) → new ≡ old ++ frame ∷ [] → seen ≡ frame_of frame
    → seen ∷ frames_of old ≡ frames_of new
onto old new frame seen is same = ap (λ f. f ∷ frames_of old) same ∙ sym (ap frames_of is ∙ pushed old frame)

-- it weighs no more
pub weighs : (most : ℕ) (old new : List Frame) (frame : Frame) (left : Option Frame) → old ≡ new ++ frame ∷ []
    → weight (frames_of old) ≤ most
    → weight (before (option_map frame_of left) (frames_of new)) ≤ weight (frame_of frame ∷ frames_of new)
    → weight (before (option_map frame_of left) (frames_of new)) ≤ most
weighs most old new frame left is before_it settled =
    let same : weight (frames_of old) ≡ weight (frame_of frame ∷ frames_of new) = ap weight (ap frames_of is ∙ pushed new frame) in
    omega (arith, same, before_it, settled)
