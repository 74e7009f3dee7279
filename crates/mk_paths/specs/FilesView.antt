-- Files that can be asked, and what it is to ask them.
use Rattle.std.specs.Prelude.{◌≡◌, ℕ, ◌+◌, ◌-◌, ◌^◌, min, Bool, List, [], ◌∷◌, ◌++◌, Option, Some, None, option_map}
use Rattle.std.specs.Prelude.{Result, IfOk}
use Rattle.std.proofs.Common.{refl, sym, ap, append-nil, append_assoc}
use Rattle.std.specs.FinMap.{get, contains_key}
use Rattle.mk_paths.specs.World.{FileMap, World}
use Rattle.mk_paths.specs.declared.search_path.Settings.{Settings}

-- the answer to a question: whether the file is there, or its content, if it is there
pub data Reply : Type 0 where
  Presence : Bool → Reply
  Contents : Option (List ℕ) → Reply

-- a name that was asked about, with its answer
abbrev pub Question : Type 0
Question = List ℕ × Reply

-- a view of files: the map, the log of the questions asked if one is kept, and how many questions failed
pub record FilesView : Type 0 where
  pub files : FileMap
  pub log : Option (List Question)
  pub failures : ℕ

-- the world of these files with these settings
abbrev pub view_world : FilesView → Settings → World
view_world view settings = (view.files, settings)

-- the reply is the one that the files give
abbrev pub IsReply : FileMap → List ℕ → Reply → Type 0
IsReply files name (Presence there) = there ≡ contains_key files name
IsReply files name (Contents content) = content ≡ get files name

-- the view with more questions in its log, if it keeps one
abbrev pub noted : FilesView → List Question → FilesView
noted world questions = record world { log = option_map (λ log. log ++ questions) world.log }

-- the view with one more failure counted, up to the greatest number of 64 bits
abbrev pub failed : FilesView → FilesView
failed world = record world { failures = min (world.failures + 1) (2 ^ 64 - 1) }

-- a question was answered as the files say, and is in the log
abbrev pub Answers : FilesView → FilesView → List ℕ → Reply → Type 0
Answers old new name reply = IsReply old.files name reply × (new ≡ noted old ((name, reply) ∷ []))

-- a question failed: nothing changed but the count of failures
abbrev pub Fails : FilesView → FilesView → Type 0
Fails old new = new ≡ failed old

log_with : (first second : List Question) (log : Option (List Question))
    → option_map (λ l. l ++ second) (option_map (λ l. l ++ first) log) ≡ option_map (λ l. l ++ (first ++ second)) log
log_with first second None = refl
log_with first second (Some l) = ap Some (append_assoc l first second)

-- some questions, and then more
pub noted-twice : (world : FilesView) (first second : List Question) → noted (noted world first) second ≡ noted world (first ++ second)
noted-twice world first second = ap (λ log. record world { log = log }) (log_with first second world.log)

log_as_is : (log : Option (List Question)) → log ≡ option_map (λ l. l ++ []) log
log_as_is None = refl
log_as_is (Some l) = ap Some (sym (append-nil l))

-- no question
pub noted-nothing : (world : FilesView) → world ≡ noted world []
noted-nothing world = ap (λ log. record world { log = log }) (log_as_is world.log)

-- where a question succeeds, the files answered whether this one is there
abbrev pub AnswersPresence : {F : Type 0} → Result Bool F → FilesView → FilesView → List ℕ → Type 0
AnswersPresence result old new name = IfOk result (λ there. Answers old new name (Presence there))

-- where a question succeeds, the files answered with the content of this one, or that it isn't there
abbrev pub AnswersContents : {F : Type 0} → Result (Option (List ℕ)) F → FilesView → FilesView → List ℕ → Type 0
AnswersContents result old new name = IfOk result (λ content. Answers old new name (Contents content))
