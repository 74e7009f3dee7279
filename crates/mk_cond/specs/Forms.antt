-- The directives that have conditions (make(1), "CONDITIONALS"), and what each makes of its condition.
use Rattle.std.specs.Prelude.{ℕ, ◌+◌, ◌||◌, true, false, if◌then◌else◌, List, take, drop, codes, Option, Some, None, option_map}
use Rattle.std.specs.List.{position}
use Rattle.std.specs.Str.{bytes_eq}
use Rattle.std.specs.Borrow.{Bor}
use Rattle.mk_text.specs.Blanks.{is_blank}
use Rattle.mk_cond_tree.specs.declared.tokens.Call.TheVariants.{Defined, Make}
use Rattle.mk_cond.specs.declared.forms.Form.{Form}

-- The form of the directive with a word: what a lone word of its condition asks, and whether the truth of
-- the whole is negated.
abbrev pub form_named : List ℕ → Option Form
form_named word =
    if bytes_eq word (codes "if") || bytes_eq word (codes "ifdef") || bytes_eq word (codes "elif")
    || bytes_eq word (codes "elifdef") then Some (record { word = Defined; negated = false })
    else if bytes_eq word (codes "ifndef") || bytes_eq word (codes "elifndef") then Some (record { word = Defined; negated = true })
    else if bytes_eq word (codes "ifmake") || bytes_eq word (codes "elifmake") then Some (record { word = Make; negated = false })
    else if bytes_eq word (codes "ifnmake") || bytes_eq word (codes "elifnmake") then Some (record { word = Make; negated = true })
    else None

-- the form of a directive and its condition, if the blank at this place ends the directive's word
abbrev pub parted_at : List ℕ → Option ℕ → Option (Form × List ℕ)
parted_at text None = None
parted_at text (Some at) = option_map (λ form. (form, drop (at + 1) text)) (form_named (take at text))

-- a text that is a directive's word, a blank and a condition
abbrev pub parted : List ℕ → Option (Form × List ℕ)
parted text = parted_at text (position is_blank text)

-- the parts that the code has
abbrev pub shown_parts : Form × Bor (List ℕ) → Form × List ℕ
shown_parts parts = (parts.0, parts.1.now)
