-- What a path of a ports tree leads to (pkgpath(7), ports(7), SUBDIR of bsd.port.subdir.mk(5)).
use Rattle.std.specs.Prelude.{ℕ, ◌+◌, if◌then◌else◌, List, [], Option, Some, None, Result, Ok, Err, codes}
use Rattle.std.specs.Str.{bytes_eq}
use Rattle.turn_amounts.specs.Spent.{counted}
use Rattle.mk_base.specs.FaultAt.{FaultAt}
use Rattle.mk_text.specs.Words.{words_of}
use Rattle.mk_paths.specs.World.{World}
use Rattle.mk_paths.specs.Place.{place}
use Rattle.mk_eval.specs.Meaning.{means, value_of_variable}
use Rattle.mk_eval.specs.Expanded.{Expanded, value_cost}
use Rattle.mk_eval.specs.declared.outcome.Evaluated.{Evaluated}
use Rattle.mk_eval.specs.declared.outcome.Failed.{Failed}
use Rattle.mk_eval.specs.declared.outcome.Kind.{Kind}
use Rattle.mk_eval.specs.declared.outcome.Kind.TheVariants as kinds
use Rattle.pkg_path.specs.Paths.{PathValue, path_if_one}
use Rattle.port_rules.specs.Ports.{PortValue}
use Rattle.port_rules.specs.Records.{record_of}
use Rattle.port_rules.specs.declared.records.Recorded.{Recorded}

-- What a path leads to, by the makefile that it names. `Absent`: there is no such makefile. `Faulty`: its
-- evaluation has this fault. `Port`: it describes this port. `BadPort`: it describes a port, whose record
-- has this fault. `Lists`: it describes a list of directories, with the words of its SUBDIR. `BadList`: it
-- describes such a list, whose SUBDIR has this fault. `FlavoredList`: it describes such a list, but was
-- evaluated with flavors, and lists nothing. `Other`: it describes something else.
pub data PathOutcome : Type 0 where
  Absent : PathOutcome
  Faulty : FaultAt → PathOutcome
  Port : PortValue → PathOutcome
  BadPort : FaultAt → PathOutcome
  Lists : List (List ℕ) → PathOutcome
  BadList : FaultAt → PathOutcome
  FlavoredList : PathOutcome
  Other : PathOutcome

-- What a path leads to, and how many units of work it costs to learn it. They are those of the evaluation, and
-- then those of the record, or of SUBDIR, each up to its fault if it has one.
pub record Finding : Type 0 where
  pub outcome : PathOutcome
  pub cost : ℕ

-- a cost and more, as such a count
abbrev pub with_cost : ℕ → ℕ → ℕ
with_cost spent more = counted (spent + more)

-- a port by its record, after an evaluation of this cost
abbrev pub port_finding : ℕ → Result Recorded Failed → Finding
port_finding spent (Ok recorded) = record { outcome = Port recorded.port; cost = with_cost spent recorded.cost }
port_finding spent (Err failed) = record { outcome = BadPort failed.fault; cost = with_cost spent failed.cost }

-- the words of a value; one that isn't there has none
abbrev pub words_if_there : Option Expanded → List (List ℕ)
words_if_there (Some value) = words_of value.text
words_if_there None = []

-- a list of directories by its SUBDIR, after an evaluation of this cost
abbrev pub list_finding : ℕ → Result (Option Expanded) Failed → Finding
list_finding spent (Ok value) = record { outcome = Lists (words_if_there value); cost = with_cost spent (value_cost value) }
list_finding spent (Err failed) = record { outcome = BadList failed.fault; cost = with_cost spent failed.cost }

-- a list of directories is asked for its SUBDIR if it was evaluated without flavors
abbrev pub list_after : List ℕ → Option (List (List ℕ)) → Evaluated → Finding
list_after makefile (Some flavors) evaluated = record { outcome = FlavoredList; cost = evaluated.cost }
list_after makefile None evaluated = list_finding evaluated.cost (value_of_variable evaluated.env makefile (codes "SUBDIR"))

-- what a makefile of this kind describes
abbrev pub finding_by : List ℕ → Option (List (List ℕ)) → Evaluated → Kind → Finding
finding_by makefile flavors evaluated kinds.Port = port_finding evaluated.cost (record_of evaluated.env makefile)
finding_by makefile flavors evaluated kinds.List = list_after makefile flavors evaluated
finding_by makefile flavors evaluated kinds.Other = record { outcome = Other; cost = evaluated.cost }

-- what the makefile of this name describes after its evaluation with these flavors or with none given
abbrev pub finding_after : List ℕ → Option (List (List ℕ)) → Evaluated → Finding
finding_after makefile flavors evaluated = finding_by makefile flavors evaluated evaluated.kind

-- the same, given how the evaluation ended
abbrev pub finding_of_evaluation : List ℕ → Option (List (List ℕ)) → Result Evaluated Failed → Finding
finding_of_evaluation makefile flavors (Ok evaluated) = finding_after makefile flavors evaluated
finding_of_evaluation makefile flavors (Err failed) = record { outcome = Faulty failed.fault; cost = failed.cost }

-- nothing is there, and that costs nothing
abbrev pub nothing_found : Finding
nothing_found = record { outcome = Absent; cost = 0 }

-- what the makefile of this name describes, evaluated with these flavors or with none given;
-- nothing if there is no makefile
abbrev pub finding_of : World → Option (List (List ℕ)) → Option (List ℕ) → Finding
finding_of world flavors (Some makefile) = finding_of_evaluation makefile flavors (means world makefile flavors)
finding_of world flavors None = nothing_found

-- what a directory leads to along the search path, evaluated with these flavors or with none given
abbrev pub finding_in : World → List ℕ → Option (List (List ℕ)) → Finding
finding_in world directory flavors = finding_of world flavors (place world directory)

-- what a package path leads to; nothing if there is no path
abbrev pub finding_named : World → Option PathValue → Finding
finding_named world (Some path) = finding_in world path.directory path.flavors
finding_named world None = nothing_found

-- the trees' own directory, as paths show it
abbrev pub own_directory : List ℕ
own_directory = codes "."

-- what a canonical path without a subpackage leads to, and what that costs
unfoldable pub finding_at : World → List ℕ → Finding
finding_at world path = if bytes_eq path own_directory then finding_in world path None else finding_named world (path_if_one path)

-- what such a path leads to
abbrev pub outcome_at : World → List ℕ → PathOutcome
outcome_at world path = (finding_at world path).outcome

-- how many units of work it costs to learn that
abbrev pub cost_at : World → List ℕ → ℕ
cost_at world path = (finding_at world path).cost
