-- Rows with the same items or words name the same paths, and so do rows that name none.
use Rattle.std.proofs.Common.{◌≡◌, ◌∙◌, ap, subst, sym, refl, ℕ, List}
use Rattle.port_index.specs.Alike.{NameAlike, NamesNone, dependency_items}
use Rattle.port_index.specs.Seen.{row_seen}
use Rattle.port_index.specs.declared.path_outcomes.Row.{Row}
use Rattle.port_index.specs.declared.path_outcomes.Row.TheVariants.{Absent, Faulty, Port, BadPort, Lists, BadList, FlavoredList, Other}
use Rattle.port_index.proofs.AlikeLemmas.{targets-by_items}
use Rattle.port_index.proofs.alike_rows.name_alike.Goals as goal

pub returns-in-Port-new : goal.returns-in-Port-new
returns-in-Port-new c = λ same path.
    let items = sym (ap dependency_items c.depends-in-Port-new.ensures) ∙ c.have_same_items.ensures same
    ∙ ap dependency_items c.depends.ensures in
    subst (λ (old : Row). NameAlike path (row_seen old) (row_seen c.args.new.now)) (sym c.in-Port.is)
    (subst (λ (new : Row). NameAlike path (row_seen (Port c.in-Port.port)) (row_seen new)) (sym c.in-Port-new.is)
    (record { words = refl; items = targets-by_items c.in-Port-new.other.depends c.in-Port.port.depends items }))

none_named : (path : List ℕ) (old : Row) → ((port : _) → old ≡ Port port → ⊥) → ((words : _) → old ≡ Lists words → ⊥)
    → NamesNone path (row_seen old)
none_named path Absent port lists = record { words = refl; items = refl }
none_named path (Faulty fault) port lists = record { words = refl; items = refl }
none_named path (Port found) port lists = absurd (port found refl)
none_named path (BadPort fault) port lists = record { words = refl; items = refl }
none_named path (Lists words) port lists = absurd (lists words refl)
none_named path (BadList fault) port lists = record { words = refl; items = refl }
none_named path FlavoredList port lists = record { words = refl; items = refl }
none_named path Other port lists = record { words = refl; items = refl }

pub returns-in_default : goal.returns-in_default
returns-in_default c = λ none path.
    let old = none_named path c.args.old.now c.in_default.not-Port c.in_default.not-Lists in
    let new = c.names_none.ensures none path in
    record { words = new.words ∙ sym old.words; items = new.items ∙ sym old.items }
