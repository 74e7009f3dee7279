-- When files agree with what was asked of others.
use Rattle.std.proofs.Common.{◌≡◌, ◌∙◌, ap, subst, sym, refl, Result, Ok, Err, OnOk, OnErr, ℕ, ◌+◌, Bool, true, false, List, [], ◌∷◌, ◌++◌}
use Rattle.std.proofs.Common.{Option, Some, None}
use Rattle.std.specs.Prelude.{if◌then◌else◌}
use Rattle.std.specs.FinMap.{get, contains_key}
use Rattle.std.proofs.lemmas.Bool.{false≢true}
use Rattle.std.specs.Bool.{beq}
use Rattle.std.proofs.lemmas.Slice.Eq.{bytes_eq-Decides}
use Rattle.mk_paths.specs.World.{FileMap}
use Rattle.mk_paths.specs.FilesView.{Reply, Presence, Contents, Question, IsReply}
use Rattle.mk_eval.specs.Agreement.{Agrees}
use Rattle.read_trace.specs.Agreement.{same_content, has_reply, one_more_checked, agreement, IsAnswered}

content_is : (one other : Option (List ℕ)) → same_content one other ≡ true → other ≡ one
content_is None None same = refl
content_is None (Some bytes) same = absurd (false≢true same)
content_is (Some bytes) None same = absurd (false≢true same)
content_is (Some one) (Some other) same = ap Some (sym ((bytes_eq-Decides one other).0 same))

presence_is : (one other : Bool) → beq one other ≡ true → other ≡ one
presence_is true true same = refl
presence_is true false same = absurd (false≢true same)
presence_is false true same = absurd (false≢true same)
presence_is false false same = refl

reply_is : (files : FileMap) (question : Question) → has_reply files question ≡ true → IsReply files question.0 question.1
reply_is files (name, Presence there) same = presence_is (contains_key files name) there same
reply_is files (name, Contents content) same = content_is (get files name) content same

-- files that agree with each question give each its answer
pub Agrees-agreement : (files : FileMap) (questions : List Question) → (agreement files questions).0 ≡ true → Agrees files questions
Agrees-agreement files [] agrees = tt
Agrees-agreement files (question ∷ questions) agrees = by (has_reply files question) refl (Agrees-agreement files questions) agrees
  where
    by : (same : Bool) → has_reply files question ≡ same → ((agreement files questions).0 ≡ true → Agrees files questions)
        → (if same then one_more_checked (agreement files questions) else (false, 1)).0 ≡ true → IsReply files question.0 question.1
        × Agrees files questions
    by true same rest agrees = (reply_is files question same, rest agrees)
    by false same rest agrees = absurd (false≢true agrees)

-- so many replies are checked before
abbrev pub after_checks : ℕ → Bool × ℕ → Bool × ℕ
after_checks before checked = (checked.0, before + checked.1)

content_has : (one other : Option (List ℕ)) → other ≡ one → same_content one other ≡ true
content_has None None is = refl
content_has None (Some bytes) is = absurd cc
content_has (Some bytes) None is = absurd cc
content_has (Some one) (Some other) is = (bytes_eq-Decides one other).1 cc

presence_has : (one other : Bool) → other ≡ one → beq one other ≡ true
presence_has true true is = refl
presence_has true false is = absurd cc
presence_has false true is = absurd cc
presence_has false false is = refl

-- what the files answer is what they have
pub has_reply-answered : (files : FileMap) (name : List ℕ) (reply : Reply) → IsReply files name reply → has_reply files (name, reply) ≡ true
has_reply-answered files name (Presence there) is = presence_has (contains_key files name) there is
has_reply-answered files name (Contents content) is = content_has (get files name) content is

-- one more question that was answered
pub IsAnswered-more : (files : FileMap) (questions : List Question) (question : Question) → IsAnswered files questions
    → has_reply files question ≡ true → IsAnswered files (questions ++ question ∷ [])
IsAnswered-more files [] question answered has = ap (λ (b : Bool). (if b then one_more_checked (true, 0) else (false, 1)).0) has
IsAnswered-more files (first ∷ questions) question answered has = by (has_reply files first)
    (λ answered. IsAnswered-more files questions question answered has) answered
  where
    by : (same : Bool) → ((agreement files questions).0 ≡ true → (agreement files (questions ++ question ∷ [])).0 ≡ true)
        → (if same then one_more_checked (agreement files questions) else (false, 1)).0 ≡ true
        → (if same then one_more_checked (agreement files (questions ++ question ∷ [])) else (false, 1)).0 ≡ true
    by true rest answered = rest answered
    by false rest answered = absurd (false≢true answered)

-- a question that was written down, or not
pub IsAnswered-added : {A E : Type 0} (result : Result A E) (files : FileMap) (old new : List Question) (question : Question)
    → IsAnswered files old → has_reply files question ≡ true → OnOk result (new ≡ old ++ question ∷ [])
    → OnErr result (new ≡ old) → IsAnswered files new
IsAnswered-added (Ok value) files old new question answered has ok err = subst (IsAnswered files) (sym ok)
    (IsAnswered-more files old question answered has)
IsAnswered-added (Err fault) files old new question answered has ok err = subst (IsAnswered files) (sym err) answered

-- answers that are those of the files are found to be so
pub agreement-Agrees : (files : FileMap) (questions : List Question) → Agrees files questions → IsAnswered files questions
agreement-Agrees files [] agrees = refl
agreement-Agrees files (question ∷ questions) agrees =
    ap (λ (same : Bool). (if same then one_more_checked (agreement files questions) else (false, 1)).0)
    (has_reply-answered files question.0 question.1 agrees.0)
    ∙ agreement-Agrees files questions agrees.1
