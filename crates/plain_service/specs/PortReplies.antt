-- The replies with a variable of a port, and with a port.
use Rattle.std.specs.Prelude.{ℕ, if◌then◌else◌, List, Option, Some, None, Result, Ok, Err, option_map}
use Rattle.mk_paths.specs.Place.{place}
use Rattle.mk_paths.specs.World.{World}
use Rattle.mk_eval.specs.Meaning.{means, value_of_variable}
use Rattle.mk_eval.specs.Expanded.{Expanded}
use Rattle.mk_eval.specs.declared.outcome.Evaluated.{Evaluated}
use Rattle.mk_eval.specs.declared.outcome.Failed.{Failed}
use Rattle.mk_eval.specs.declared.outcome.Kind.{Kind}
use Rattle.mk_eval.specs.declared.outcome.Kind.TheVariants as kinds
use Rattle.pkg_path.specs.Paths.{PathValue}
use Rattle.port_rules.specs.Ports.{PortValue}
use Rattle.port_rules.specs.Records.{record_of}
use Rattle.port_rules.specs.declared.records.Recorded.{Recorded}
use Rattle.ports_http.specs.Messages.{ReplyMessage}
use Rattle.plain_service.specs.Subpackages.{has_named}
use Rattle.plain_service.specs.Replies.{no_port, no_subpackage, faulty, variable_shown, port_shown}

-- the value of a variable after a makefile's evaluation, or the fault that the evaluation or
-- the value's expansion met
abbrev pub value_after : List ℕ → List ℕ → Result Evaluated Failed → Result (Option Expanded) Failed
value_after makefile name (Ok evaluated) = value_of_variable evaluated.env makefile name
value_after makefile name (Err failed) = Err failed

-- the reply to a value, or to a fault met on the way to it
abbrev pub value_reply : Result (Option Expanded) Failed → ReplyMessage
value_reply (Ok value) = variable_shown (option_map (λ (known : Expanded). known.text) value)
value_reply (Err failed) = faulty failed.fault

-- the variable of a makefile, evaluated with these flavors or with none given
abbrev pub variable_at : World → List ℕ → Option (List (List ℕ)) → Option (List ℕ) → ReplyMessage
variable_at world name flavors (Some makefile) = value_reply (value_after makefile name (means world makefile flavors))
variable_at world name flavors None = no_port

-- the variable of the port that a package path names; the path's subpackage doesn't count
abbrev pub variable_of : World → List ℕ → PathValue → ReplyMessage
variable_of world name path = variable_at world name path.flavors (place world path.directory)

-- the record of a makefile of this kind, if it describes a port
abbrev pub record_by : Kind → Result Recorded Failed → Result (Option Recorded) Failed
record_by kinds.Port (Ok recorded) = Ok (Some recorded)
record_by kinds.Port (Err failed) = Err failed
record_by kinds.List recorded = Ok None
record_by kinds.Other recorded = Ok None

-- the record of the port that a makefile describes, if it describes one, after its evaluation; or the fault
-- that the evaluation or the record met
abbrev pub record_after : List ℕ → Result Evaluated Failed → Result (Option Recorded) Failed
record_after makefile (Ok evaluated) = record_by evaluated.kind (record_of evaluated.env makefile)
record_after makefile (Err failed) = Err failed

-- the reply with a port, which must have the subpackage that its path names, if it names one
abbrev pub port_told : PathValue → PortValue → ReplyMessage
port_told path port = if has_named path.subpackage port then port_shown path port else no_subpackage

-- the reply to a record, or to a fault met on the way to it
abbrev pub port_reply : PathValue → Result (Option Recorded) Failed → ReplyMessage
port_reply path (Ok (Some recorded)) = port_told path recorded.port
port_reply path (Ok None) = no_port
port_reply path (Err failed) = faulty failed.fault

-- the reply with the record of an evaluated makefile that describes a port
abbrev pub described : Evaluated → List ℕ → PathValue → ReplyMessage
described evaluated makefile path = port_reply path (record_by kinds.Port (record_of evaluated.env makefile))

-- the port of a makefile
abbrev pub port_at : World → PathValue → Option (List ℕ) → ReplyMessage
port_at world path (Some makefile) = port_reply path (record_after makefile (means world makefile path.flavors))
port_at world path None = no_port

-- the port that a package path names
abbrev pub port_at_path : World → PathValue → ReplyMessage
port_at_path world path = port_at world path (place world path.directory)
