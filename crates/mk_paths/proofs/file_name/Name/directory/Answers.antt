-- The last slash is where the name is cut.
use Rattle.std.proofs.Common.{◌≡◌, ◌≢◌, ◌<◌, ◌≤◌, ◌+◌, ◌-◌, ◌∙◌, ℕ, List, [], length, take, get_or, not, nat_eq, None, Some, sym, ap, arith}
use Rattle.std.proofs.Common.{lit<, eq-eqb, ne_eqb}
use Rattle.std.specs.List.{suffix_len}
use Rattle.std.proofs.lemmas.List.Sums.{suffix_len_is}
use Rattle.std.proofs.lemmas.Str.Pattern.{rfind_char}
use Rattle.mk_paths.specs.FileName.{directory_of}
use Rattle.mk_paths.proofs.file_name.Name.directory.Goals as goal

cut_at : (name : List ℕ) (end : ℕ) → suffix_len (λ b. not (nat_eq b 47)) name ≡ length name - end → end ≤ length name
    → directory_of name ≡ take (end - 1) name
cut_at name end is within = let same : length name - (length name - end) - 1 ≡ end - 1 =
    omega arith in ap (λ n. take (length name - n - 1) name) is ∙ ap (λ n. take n name) same

last-slash : (name : List ℕ) (k : ℕ) → k < length name → get_or name k 0 ≡ 47 → ((i : ℕ) → k < i → i < length name → get_or name i 0 ≢ 47)
    → directory_of name ≡ take k name
last-slash name k within slash later =
    let back : k + 1 - 1 ≡ k = omega arith in
    cut_at name (k + 1)
    (suffix_len_is (λ b. not (nat_eq b 47)) name (k + 1) 0 (omega arith)
    (λ i low high. ap not (ne_eqb (get_or name i 0) 47 (later i (omega arith) high)))
    (λ some. ap (λ n. not (nat_eq (get_or name n 0) 47)) back ∙ ap not (eq-eqb (get_or name k 0) 47 slash)))
    (omega arith)
    ∙ ap (λ n. take n name) back

no-slash : (name : List ℕ) → ((i : ℕ) → i < length name → get_or name i 0 ≢ 47) → directory_of name ≡ []
no-slash name none =
    cut_at name 0 (suffix_len_is (λ b. not (nat_eq b 47)) name 0 0 (omega arith)
    (λ i low high. ap not (ne_eqb (get_or name i 0) 47 (none i high))) (λ some. absurd (omega arith))) (omega arith)

pub returns-in-Some : goal.returns-in-Some
returns-in-Some c =
    let text = c.as_str-text.result.now in
    let found = rfind_char 47 text (Some c.in-Some.end) c.in-Some.ensures.cases (lit< tt) in
    let end : c.in-Some.end - 0 ≡ c.in-Some.end = omega arith in
    c.range.ensures.value ∙ ap (λ n. take n text) end ∙ sym (last-slash text c.in-Some.end found.0 found.1 found.2)
    ∙ ap directory_of c.as_str-text.ensures.text

pub returns-in-None : goal.returns-in-None
returns-in-None c =
    let text = c.as_str-text.result.now in
    sym (no-slash text (rfind_char 47 text None c.in-None.ensures.cases (lit< tt))) ∙ ap directory_of c.as_str-text.ensures.text
