-- What the body of a request sets as the search path, as it is UTF-8 or not.
use Rattle.std.proofs.Common.{◌≡◌, ℕ, Bool, true, false, List, sym, ap, ◌∙◌, if◌then◌else◌}
use Rattle.std.specs.Str.{is_utf8, IsUtf8}
use Rattle.std.proofs.lemmas.Str.{is_utf8-from_IsUtf8}
use Rattle.general_facts.specs.Texts.{is_utf8-not}
use Rattle.mk_paths.specs.SearchPath.{search_path}
use Rattle.plain_service.specs.Spaces.{trimmed}
use Rattle.plain_service.specs.SettingAnswers.{set_path, set_text, set_trees}
use Rattle.plain_service.specs.Requests.{reply_alone}
use Rattle.plain_service.specs.Replies.{bad_path}

by_test : (body text : List ℕ) (b : Bool) → text ≡ trimmed body → is_utf8 text ≡ b
    → set_path body ≡ (if b then set_trees text (search_path text) else reply_alone bad_path)
by_test body text b is test = ap set_text (sym is)
    ∙ ap (λ good. if good then set_trees text (search_path text) else reply_alone bad_path) test

pub good_body : (body text : List ℕ) → text ≡ trimmed body → IsUtf8 text → set_path body ≡ set_trees text (search_path text)
good_body body text is good = by_test body text true is (is_utf8-from_IsUtf8 text good)

pub bad_body : (body text : List ℕ) → text ≡ trimmed body → ¬ (IsUtf8 text) → set_path body ≡ reply_alone bad_path
bad_body body text is bad = by_test body text false is (is_utf8-not text bad)
