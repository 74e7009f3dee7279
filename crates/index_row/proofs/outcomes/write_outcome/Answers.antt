use Rattle.std.proofs.Common.{refl, sym, ap, subst, List, map, String, Global, string_bytes}
use Rattle.std.proofs.lemmas.Result.{on_ok_weaker}
use Rattle.port_index.specs.Seen.{row_seen}
use Rattle.port_index.specs.PathOutcomes.{Absent, Faulty, Port, BadPort, Lists, BadList, FlavoredList, Other}
use Rattle.index_row.specs.Reads.{texts}
use Rattle.index_row.specs.Faults.{fault}
use Rattle.index_row.specs.Ports.{port}
use Rattle.index_row.specs.Rows.{outcome}
use Rattle.index_row.specs.Answers.{Adds}
use Rattle.index_row.proofs.Adding.{Adds-give, Adds-last}
use Rattle.index_row.proofs.RowBytes.{Adds-outcome}
use Rattle.index_row.proofs.outcomes.write_outcome.Goals as goal

pub returns-in-Absent : goal.returns-in-Absent
returns-in-Absent c =
    on_ok_weaker c.write_byte.result
    (λ one. subst (Adds outcome _ _) (sym (ap row_seen c.in-Absent.is)) (Adds-outcome _ _ _ 0 Absent one (Adds-give Absent _ _ refl)))
    c.write_byte.ensures

pub returns-in_ok-write_byte-in-Faulty : goal.returns-in_ok-write_byte-in-Faulty
returns-in_ok-write_byte-in-Faulty c =
    on_ok_weaker c.write_fault.result
    (λ last. subst (Adds outcome _ _) (sym (ap row_seen c.in-Faulty.is))
    (Adds-outcome _ _ _ 1 _ c.in_ok-write_byte-in-Faulty.ensures (Adds-last fault Faulty _ _ _ last)))
    c.write_fault.ensures

pub returns-in_ok-write_byte-in-Port : goal.returns-in_ok-write_byte-in-Port
returns-in_ok-write_byte-in-Port c =
    on_ok_weaker c.write_port.result
    (λ last. subst (Adds outcome _ _) (sym (ap row_seen c.in-Port.is))
    (Adds-outcome _ _ _ 2 _ c.in_ok-write_byte-in-Port.ensures (Adds-last port Port _ _ _ last)))
    c.write_port.ensures

pub returns-in_ok-write_byte-in-BadPort : goal.returns-in_ok-write_byte-in-BadPort
returns-in_ok-write_byte-in-BadPort c =
    on_ok_weaker c.write_fault-in-BadPort.result
    (λ last. subst (Adds outcome _ _) (sym (ap row_seen c.in-BadPort.is))
    (Adds-outcome _ _ _ 3 _ c.in_ok-write_byte-in-BadPort.ensures (Adds-last fault BadPort _ _ _ last)))
    c.write_fault-in-BadPort.ensures

pub returns-in_ok-write_byte-in-Lists : goal.returns-in_ok-write_byte-in-Lists
returns-in_ok-write_byte-in-Lists c =
    on_ok_weaker c.write_texts.result
    (λ last. subst (Adds outcome _ _) (sym (ap row_seen c.in-Lists.is))
    (Adds-outcome _ _ _ 4 _ c.in_ok-write_byte-in-Lists.ensures
    (Adds-last texts Lists _ _ _
    (subst (λ (words : List (String Global)). Adds texts c.write_byte-in-Lists.new.out.items c.write_texts.new.out.items
    (map string_bytes words)) c.deref.ensures.value last))))
    c.write_texts.ensures

pub returns-in_ok-write_byte-in-BadList : goal.returns-in_ok-write_byte-in-BadList
returns-in_ok-write_byte-in-BadList c =
    on_ok_weaker c.write_fault-in-BadList.result
    (λ last. subst (Adds outcome _ _) (sym (ap row_seen c.in-BadList.is))
    (Adds-outcome _ _ _ 5 _ c.in_ok-write_byte-in-BadList.ensures (Adds-last fault BadList _ _ _ last)))
    c.write_fault-in-BadList.ensures

pub returns-in-FlavoredList : goal.returns-in-FlavoredList
returns-in-FlavoredList c =
    on_ok_weaker c.write_byte-in-FlavoredList.result
    (λ one. subst (Adds outcome _ _) (sym (ap row_seen c.in-FlavoredList.is))
    (Adds-outcome _ _ _ 6 FlavoredList one (Adds-give FlavoredList _ _ refl)))
    c.write_byte-in-FlavoredList.ensures

pub returns-in-Other : goal.returns-in-Other
returns-in-Other c =
    on_ok_weaker c.write_byte-in-Other.result
    (λ one. subst (Adds outcome _ _) (sym (ap row_seen c.in-Other.is)) (Adds-outcome _ _ _ 7 Other one (Adds-give Other _ _ refl)))
    c.write_byte-in-Other.ensures
