-- A file is taken out, or nothing has changed.
use Rattle.std.proofs.Common.{◌≡◌, ◌∙◌, ◌≤◌, ap, ap₂, is_some, subst, sym, false}
use Rattle.std.specs.Prelude.{unwrap_or}
use Rattle.std.specs.FinMap.{contains_key}
use Rattle.mk_paths.specs.World.{World, files_in}
use Rattle.sqlite.specs.Held.{state}
use Rattle.sqlite.specs.Steps.{over_memory}
use Rattle.tenant_store.specs.Lengths.{AreNoted}
use Rattle.tenant_store.specs.Tables.{world_in_state}
use Rattle.tenant_store.proofs.Lengths.{has_one, had_within, noted_there, noted_without}
use Rattle.tenant_store.proofs.Worlds.{remove_absent}
use Rattle.tenant_store.proofs.ContentLemmas.{nothing_kept}
use Rattle.tenant_store.proofs.store.TenantStore.remove_file.Goals as goal

pub returns-in_default-clause-removed : goal.returns-in_default-clause-removed
returns-in_default-clause-removed c =
    let there = noted_there c.self.inside.lengths c.self.inside.usage (files_in (world_in_state (state over_memory c.self.inside.conn)))
    c.self.invariant.1 c.as_str-text.result.now in
    let asked = ap₂ (λ (world : World) name. contains_key (files_in world) name) c.self.view_is c.as_str-text.ensures.text in
    let none = ap is_some (sym c.get.ensures.value ∙ sym c.copied.ensures ∙ c.in_default.is) in
    let absent : contains_key (files_in c.args.self.now) c.args.name.now ≡ false = sym asked ∙ sym there ∙ none in
    λ i. (sym (remove_absent (files_in c.args.self.now) c.args.name.now absent) i, c.args.self.now.1)

pub without-self-inside-requires-clause-files : goal.without-self-inside-requires-clause-files
without-self-inside-requires-clause-files c =
    has_one c.self.inside.lengths c.self.inside.usage (files_in (world_in_state (state over_memory c.self.inside.conn))) c.self.invariant.1
    c.as_str-text.result.now c.copied.result (c.copied.ensures ∙ c.get.ensures.value) c.in-Some.length (sym c.in-Some.is)

pub without-self-inside-requires-clause-bytes : goal.without-self-inside-requires-clause-bytes
without-self-inside-requires-clause-bytes c =
    subst (λ had. unwrap_or had 0 ≤ c.self.inside.usage.bytes) c.in-Some.is
    (had_within c.self.inside.lengths c.self.inside.usage (files_in (world_in_state (state over_memory c.self.inside.conn)))
    c.self.invariant.1
    c.as_str-text.result.now c.copied.result (c.copied.ensures ∙ c.get.ensures.value))

pub invariant_of-self : goal.invariant_of-self
invariant_of-self c =
    let usage = c.without-self-inside in (
      c.delete_file.ensures.kept,
      subst (λ (world : World). AreNoted c.forget.new.lengths usage.result (files_in world)) (sym c.in-Ok.ensures.removed)
          (noted_without c.self.inside.lengths c.self.inside.usage (files_in (world_in_state (state over_memory c.self.inside.conn)))
          c.self.invariant.1
          c.as_str-text.result.now c.copied.result (c.copied.ensures ∙ c.get.ensures.value)
          c.in-Some.length (sym c.in-Some.is) c.forget.new.lengths usage.result c.forget.ensures usage.ensures.files usage.ensures.bytes),
      nothing_kept c.clear.new.self c.clear.ensures,
    )

pub returns-in-Ok-clause-was_there : goal.returns-in-Ok-clause-was_there
returns-in-Ok-clause-was_there c =
    let there = noted_there c.self.inside.lengths c.self.inside.usage (files_in (world_in_state (state over_memory c.self.inside.conn)))
    c.self.invariant.1 c.as_str-text.result.now in
    let asked = ap₂ (λ (world : World) name. contains_key (files_in world) name) c.self.view_is c.as_str-text.ensures.text in
    sym (ap is_some (sym c.get.ensures.value ∙ sym c.copied.ensures ∙ c.in-Some.is)) ∙ there ∙ asked
