-- The keeper was told what changes, and the settings are those of the world.
use Rattle.std.proofs.Common.{◌∙◌, ap, sym}
use Rattle.mk_paths.specs.World.{World}
use Rattle.mk_paths.specs.declared.search_path.Settings.{Settings}
use Rattle.stored_tenants.proofs.KeptLemmas.{idle_right, kept_by_put, removed_differs, settings_of_put}
use Rattle.stored_tenants.proofs.tenant.Tenant.carry_out.Goals as goal

pub returns-in_ok-note_change-in-PutFile-clause-right : goal.returns-in_ok-note_change-in-PutFile-clause-right
returns-in_ok-note_change-in-PutFile-clause-right c =
    let old = c.args.self.now.store in
    let new = c.put_file.new.self in
    idle_right new c.args.self.now.settings c.note_change.new.self c.args.self.now.job c.requires.idle.none
    (c.requires.right.settings ∙ settings_of_put c.put_file.result old new _ _ c.put_file.ensures.stored c.put_file.ensures.err)
    (kept_by_put c.put_file.result old new _ _ c.note_change.new.self c.put_file.ensures.stored c.put_file.ensures.err
    (λ other differs. c.in_ok-note_change-in-PutFile.ensures.other old other differs (λ there. sym c.has_file-is_there.ensures ∙ there)
    c.requires.right.keeper)
    (c.note_change.ensures.kept old (λ there. sym c.has_file-is_there.ensures ∙ there) c.requires.right.keeper))

pub returns-in_ok-_was_there-in-RemoveFile-clause-right : goal.returns-in_ok-_was_there-in-RemoveFile-clause-right
returns-in_ok-_was_there-in-RemoveFile-clause-right c =
    let old = c.args.self.now.store in
    let new = c.remove_file.new.self in
    idle_right new c.args.self.now.settings _ c.args.self.now.job c.requires.idle.none
    (c.requires.right.settings ∙ sym (ap (λ (w : World). w.1) c.in_ok-_was_there-in-RemoveFile.ensures.removed))
    (c.in_ok-note_change-in-RemoveFile.ensures.other old new (removed_differs old new _ c.in_ok-_was_there-in-RemoveFile.ensures.removed)
    (λ there. sym c.has_file-is_there-in-RemoveFile.ensures ∙ there) c.requires.right.keeper)

pub returns-in_ok-set_path-in-SetPath-clause-right : goal.returns-in_ok-set_path-in-SetPath-clause-right
returns-in_ok-set_path-in-SetPath-clause-right c =
    idle_right c.set_path.new.self _ _ c.args.self.now.job c.requires.idle.none
    (ap (λ (s : Settings). record s { path = c.in-SetPath.path }) c.requires.right.settings
    ∙ sym (ap (λ (w : World). w.1) c.in_ok-set_path-in-SetPath.ensures.path))
    (c.in_ok-note_path-in-SetPath.ensures.other c.set_path.new.self)

pub returns-in_ok-set_profile-in-SetProfile-clause-right : goal.returns-in_ok-set_profile-in-SetProfile-clause-right
returns-in_ok-set_profile-in-SetProfile-clause-right c =
    idle_right c.set_profile.new.self _ _ c.args.self.now.job c.requires.idle.none
    (ap (λ (s : Settings). record s { profile = c.in-SetProfile.profile }) c.requires.right.settings
    ∙ sym (ap (λ (w : World). w.1) c.in_ok-set_profile-in-SetProfile.ensures.profile))
    (c.in_ok-note_path-in-SetProfile.ensures.other c.set_profile.new.self)
