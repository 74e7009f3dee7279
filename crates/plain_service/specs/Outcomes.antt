-- What functions answer where memory doesn't run out.
use Rattle.std.specs.Prelude.{◌≡◌, ℕ, List, Result, IfOk, String, Vec, string_bytes}
use Rattle.mk_paths.specs.World.{World}
use Rattle.pkg_path.specs.Paths.{port_path}
use Rattle.json.specs.Written.{Written}
use Rattle.ports_http.specs.Messages.{ReplyMessage}
use Rattle.port_index.specs.Index.{edges}
use Rattle.port_index.specs.Known.{IsIndexOf}
use Rattle.port_index.specs.declared.known_index.KnownIndex.{KnownIndex}
use Rattle.serde_json.specs.Data.{Data}
use Rattle.serde_json.specs.Written.{compact_text}
use Rattle.plain_service.specs.declared.change.Prepared.{Prepared}
use Rattle.plain_service.specs.declared.dependency_routes.DependencyQuestion.{DependencyQuestion}
use Rattle.plain_service.specs.IndexRoutes.{dependencies_body_of}
use Rattle.plain_service.specs.ListBodies.{list_body}
use Rattle.plain_service.specs.Requests.{Answer}
use Rattle.plain_service.specs.JsonText.{HasItems, HasMembers, Member, object_of}

-- where something is made, it is this
abbrev pub IfMade : {A E : Type 0} → Result A E → A → Type 0
IfMade result value = IfOk result (λ made. made ≡ value)

-- where a text is made, it is this one
abbrev pub IfTextMade : {Z E : Type 0} → Result (String Z) E → List ℕ → Type 0
IfTextMade result text = IfOk result (λ made. string_bytes made ≡ text)

-- where a function succeeds, it prepares this answer
abbrev pub Prepares : {E : Type 0} → Result Prepared E → Answer → Type 0
Prepares result answer = IfOk result (λ prepared. (prepared.reply, prepared.change) ≡ answer)

-- where a function succeeds, it writes this value without blanks
abbrev pub WritesJson : {Z E : Type 0} → Result (Vec ℕ Z) E → Data → Type 0
WritesJson result value = IfOk result (λ text. text.items ≡ compact_text value)

-- by the index of a world a function makes the reply over that world
abbrev pub RepliesOver : {E : Type 0} → KnownIndex → Result ReplyMessage E → (World → ReplyMessage) → Type 0
RepliesOver index result reply = (world : World) → IsIndexOf world index → IfOk result (λ made. made ≡ reply world)

-- by the index of a world a function writes the value over that world
abbrev pub WritesOver : {Z E : Type 0} → KnownIndex → Result (Vec ℕ Z) E → (World → Data) → Type 0
WritesOver index result value =
    (world : World) → IsIndexOf world index → IfOk result (λ text. text.items ≡ compact_text (value world))

-- by the index of a world a function writes what the port at this path depends on there, if that is the question's port
abbrev pub WritesDependencies : {Z E : Type 0} → KnownIndex → List ℕ → DependencyQuestion → Result (Vec ℕ Z) E → Type 0
WritesDependencies index path question result =
    (world : World) → IsIndexOf world index → path ≡ port_path question.path
    → IfOk result (λ text. text.items ≡ compact_text (dependencies_body_of (edges world) question))

-- a text that is an object with one member, a list, is ended and written
abbrev pub EndsList : {Z E : Type 0} → Written → Result (Vec ℕ Z) E → Type 0
EndsList out result =
    (name : List ℕ) (items : List Data) → HasItems out name items → IfOk result (λ text. text.items ≡ compact_text (list_body name items))

-- a text that is an object of any members is ended and written
abbrev pub EndsMembers : {Z E : Type 0} → Written → Result (Vec ℕ Z) E → Type 0
EndsMembers out result =
    (members : List Member) → HasMembers out members → IfOk result (λ text. text.items ≡ compact_text (object_of members))

-- a reply and its units: where a function succeeds, it tells this reply
abbrev pub TellsReply : {E : Type 0} → Result (ReplyMessage × ℕ) E → ReplyMessage → Type 0
TellsReply result reply = IfOk result (λ told. told.0 ≡ reply)

-- and these units
abbrev pub TellsCost : {E : Type 0} → Result (ReplyMessage × ℕ) E → ℕ → Type 0
TellsCost result cost = IfOk result (λ told. told.1 ≡ cost)
