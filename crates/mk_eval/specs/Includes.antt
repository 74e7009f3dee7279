-- Included files (make(1), "INCLUDE STATEMENTS", and bsd.port.mk(5)). This project chose that the files in
-- `<..>` have no contents of their own, how deep files may include one another, and in which order faults
-- are looked for.
use Rattle.std.specs.Prelude.{ℕ, suc, zero, ◌-◌, ◌==◌, ◌&&◌, nat_le, Bool, true, if◌then◌else◌, List, length, take}
use Rattle.std.specs.Prelude.{drop, slice_index, slice_range, Option, Some, None, Result, Ok, Err, codes}
use Rattle.std.specs.Str.{bytes_eq}
use Rattle.general_facts.specs.Ascii.{double_quote, less_sign, greater_sign}
use Rattle.mk_base.specs.declared.faults.FaultKind.{FaultKind}
use Rattle.mk_base.specs.declared.faults.FaultKind.TheVariants as kinds
use Rattle.mk_base.specs.Outcome.{Work, give, fail, ◌>>=◌}
use Rattle.mk_text.specs.Blanks.{trim_blanks}
use Rattle.mk_paths.specs.declared.file_name.NameFault.{NameFault}
use Rattle.mk_paths.specs.FileName.{resolved, name_under, directory_of}
use Rattle.mk_paths.specs.World.{FileMap}
use Rattle.mk_files.specs.Questions.{Account, ask_read}
use Rattle.mk_eval.specs.declared.outcome.Kind.{Kind}
use Rattle.mk_eval.specs.declared.outcome.Kind.TheVariants as roles
use Rattle.mk_eval.specs.declared.state.EvalState.{EvalState}
use Rattle.mk_eval.specs.Lines.{Request}

-- what the text of an include names, once expanded: a file, `"f"`; one of the two system files that say what
-- the makefile is; another system file; or nothing
pub data Form : Type 0 where
  OwnFile : List ℕ → Form
  PortFile : Form
  SubdirFile : Form
  SystemFile : Form
  NoForm : Form

-- what is between these two bytes, with which a text begins and ends; None if it doesn't
abbrev pub enclosed : ℕ → ℕ → List ℕ → Option (List ℕ)
enclosed first last text =
    if nat_le 2 (length text) && slice_index text 0 == first && slice_index text (length text - 1) == last
    then Some (slice_range text 1 (length text - 1)) else None

-- a name `bsd.*.mk`
abbrev pub is_system_name : List ℕ → Bool
is_system_name name =
    nat_le 7 (length name) && bytes_eq (take 4 name) (codes "bsd.")
    && bytes_eq (drop (length name - 3) name) (codes ".mk")

-- the system file of a name
abbrev pub system_form : List ℕ → Form
system_form name =
    if bytes_eq name (codes "bsd.port.mk") then PortFile
    else if bytes_eq name (codes "bsd.port.subdir.mk") then SubdirFile
    else if is_system_name name then SystemFile
    else NoForm

abbrev pub form_by : Option (List ℕ) → Option (List ℕ) → Form
form_by (Some file) system = OwnFile file
form_by None (Some name) = system_form name
form_by None None = NoForm

-- the form of a text, without the blanks around it: in quotes, or between `<` and `>`
abbrev pub form_of : List ℕ → Form
form_of text = form_by (enclosed double_quote double_quote (trim_blanks text)) (enclosed less_sign greater_sign (trim_blanks text))

-- where an include is: among which files, in the evaluation of which makefile, in which file, and how many
-- levels deep files may still include one another
pub record Place : Type 0 where
  pub files : FileMap
  pub makefile : List ℕ
  pub file : List ℕ
  pub levels : ℕ

-- a file's name and its bytes
abbrev pub File : Type 0
File = List ℕ × List ℕ

-- what an include leaves: the state, and the file that is to be executed, if any
abbrev pub Opened : Type 0
Opened = EvalState × Option File

-- files may include one another 16 deep; one more is a fault
abbrev pub deep_enough : ℕ → Work Account FaultKind (Unit {0})
deep_enough zero = fail kinds.IncludeDepth
deep_enough (suc levels) = give tt

-- the name of a file; a text that is no file name is a fault
abbrev pub name_or_fault : Result (List ℕ) NameFault → Work Account FaultKind (List ℕ)
name_or_fault (Ok name) = give name
name_or_fault (Err fault) = fail kinds.Include

-- a file that was asked for: if it is missing, that is a fault, unless it may be missing
abbrev pub found : EvalState → Bool → List ℕ → Option (List ℕ) → Work Account FaultKind Opened
found state optional name (Some bytes) = give (state, Some (name, bytes))
found state optional name None = if optional then give (state, None) else fail kinds.Include

-- the file of a name, which may be missing or may not
abbrev pub open_named : FileMap → EvalState → Bool → List ℕ → Work Account FaultKind Opened
open_named files state optional name = ask_read files name >>= found state optional name

-- the same if files may still include one another
abbrev pub open_inside : Place → EvalState → Bool → List ℕ → Work Account FaultKind Opened
open_inside place state optional name = deep_enough place.levels >>= λ _. open_named place.files state optional name

-- a file under the directory of the including file, or with an absolute name
abbrev pub open_own : Place → EvalState → Bool → List ℕ → Work Account FaultKind Opened
open_own place state optional file =
    deep_enough place.levels >>= λ _. name_or_fault (resolved (name_under (directory_of place.file) file))
    >>= open_named place.files state optional

-- what a makefile is stays what it was first said to be
abbrev pub first_said : Kind → Kind → Kind
first_said roles.Other kind = kind
first_said before kind = before

-- the state with this said of the makefile
abbrev pub with_makefile_kind : EvalState → Kind → EvalState
with_makefile_kind state kind = record state { kind = first_said state.kind kind }

-- a file of the ports tree that may be missing; if the text is no file name, it is missing
abbrev pub open_if_there : Place → EvalState → Result (List ℕ) NameFault → Work Account FaultKind Opened
open_if_there place state (Err fault) = give (state, None)
open_if_there place state (Ok name) = open_inside place state true name

-- the state after the first `<bsd.port.mk>`
abbrev pub first_port : EvalState → EvalState
first_port state = record (with_makefile_kind state roles.Port) { shared_asked = true }

-- `<bsd.port.mk>`: the makefile is a port's; the first one includes `../Makefile.inc` of the
-- makefile's directory
abbrev pub open_port : Place → EvalState → Work Account FaultKind Opened
open_port place state =
    if state.shared_asked then give (with_makefile_kind state roles.Port, None)
    else open_if_there place (first_port state) (resolved (name_under (directory_of place.makefile) (codes "../Makefile.inc")))

-- what is opened by an include of a form
abbrev pub open_form : Place → EvalState → Bool → Form → Work Account FaultKind Opened
open_form place state optional (OwnFile file) = open_own place state optional file
open_form place state optional PortFile = open_port place state
open_form place state optional SubdirFile = give (with_makefile_kind state roles.List, None)
open_form place state optional SystemFile = give (state, None)
open_form place state optional NoForm = fail kinds.Include

-- what a line opens, if it asks for a file
abbrev pub open_request : Place → EvalState → Option Request → Work Account FaultKind Opened
open_request place state None = give (state, None)
open_request place state (Some request) = open_form place state request.optional (form_of request.text)
