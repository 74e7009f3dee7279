-- A file is stored, or nothing has changed.
use Rattle.std.proofs.Common.{◌∙◌, ap₂, length, Some, subst, sym}
use Rattle.std.specs.FinMap.{insert}
use Rattle.mk_paths.specs.World.{World, files_in}
use Rattle.mk_files.specs.Limits.{is_over, exceeds_limits}
use Rattle.sqlite.specs.Held.{state}
use Rattle.sqlite.specs.Steps.{over_memory}
use Rattle.tenant_store.specs.Contents.{AreContents}
use Rattle.tenant_store.specs.Lengths.{AreNoted}
use Rattle.tenant_store.specs.Tables.{world_in_state}
use Rattle.tenant_store.proofs.Lengths.{had_within, noted_back, noted_with, would_be}
use Rattle.tenant_store.proofs.ContentLemmas.{nothing_kept}
use Rattle.tenant_store.proofs.store.TenantStore.put_file.Goals as goal

pub with-requires : goal.with-requires
with-requires c = had_within c.self.inside.lengths c.self.inside.usage
    (files_in (world_in_state (state over_memory c.self.inside.conn))) c.self.invariant.1 c.as_str-text.result.now c.copied-had.result
    (c.copied-had.ensures ∙ c.get.ensures.value)

pub returns-in_default-clause-full : goal.returns-in_default-clause-full
returns-in_default-clause-full c _ =
    let asked =
    ap₂ (λ (world : World) name. is_over (insert (files_in world) name c.args.content.now)) c.self.view_is c.as_str-text.ensures.text in
    let over = (rw c.in_default.is at c.with.ensures.over) in
    sym asked ∙ sym (would_be c.self.inside.lengths c.self.inside.usage
    (files_in (world_in_state (state over_memory c.self.inside.conn))) c.self.invariant.1 c.as_str-text.result.now c.copied-had.result
    (c.copied-had.ensures ∙ c.get.ensures.value) c.args.content.now) ∙ over

pub invariant_of-self-in-Ok : goal.invariant_of-self-in-Ok
invariant_of-self-in-Ok c = (
  c.write_file.ensures.kept,
  subst (λ (world : World). AreNoted c.note.new.lengths c.in-Some.usage (files_in world)) (sym c.in-Ok.ensures.stored)
      (noted_with c.self.inside.lengths c.self.inside.usage (files_in (world_in_state (state over_memory c.self.inside.conn)))
      c.self.invariant.1
      c.as_str-text.result.now c.copied-had.result (c.copied-had.ensures ∙ c.get.ensures.value)
      c.args.content.now c.note.new.lengths c.in-Some.usage c.in_ok-note.ensures.noted c.in-Some.ensures.files c.in-Some.ensures.bytes),
  nothing_kept c.clear.new.self c.clear.ensures,
)

pub invariant_of-self-in-Err : goal.invariant_of-self-in-Err
invariant_of-self-in-Err c = (
  c.write_file.ensures.kept,
  subst (λ (world : World). AreNoted c.put_back.new.lengths c.self.inside.usage (files_in world)) (sym c.in-Err.ensures.err)
      (noted_back c.self.inside.lengths c.self.inside.usage (files_in (world_in_state (state over_memory c.self.inside.conn)))
      c.self.invariant.1
      c.as_str-text.result.now c.copied-had.result (c.copied-had.ensures ∙ c.get.ensures.value)
      c.note.new.lengths c.put_back.new.lengths (Some (length c.args.content.now)) c.in_ok-note.ensures.noted c.put_back.ensures),
  subst (λ (world : World). AreContents c.self.inside.contents.entries (files_in world)) (sym c.in-Err.ensures.err) c.self.invariant.2,
)

pub returns-in-Ok-clause-fits : goal.returns-in-Ok-clause-fits
returns-in-Ok-clause-fits c =
    let asked =
    ap₂ (λ (world : World) name. is_over (insert (files_in world) name c.args.content.now)) c.self.view_is c.as_str-text.ensures.text in
    sym asked ∙ sym (would_be c.self.inside.lengths c.self.inside.usage
    (files_in (world_in_state (state over_memory c.self.inside.conn))) c.self.invariant.1 c.as_str-text.result.now c.copied-had.result
    (c.copied-had.ensures ∙ c.get.ensures.value) c.args.content.now)
    ∙ ap₂ exceeds_limits (sym c.in-Some.ensures.files) (sym c.in-Some.ensures.bytes) ∙ c.in-Some.ensures.fits
