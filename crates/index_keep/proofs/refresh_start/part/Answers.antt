-- The row of the next path is taken, if it has one.
use Rattle.std.proofs.Common.{◌≡◌, ◌∙◌, ap, sym, refl, ℕ, List, Bool, true, false, ◌||◌, Option, Some, None, if◌then◌else◌, map, option_map}
use Rattle.std.proofs.Common.{take, string_bytes}
use Rattle.std.specs.Str.{bytes_eq}
use Rattle.port_index.specs.FilledRows.{is_one_of}
use Rattle.port_index.specs.Seen.{Said, known_seen, said_in}
use Rattle.index_keep.proofs.LastLemmas.{taken-none, taken-put}
use Rattle.index_keep.proofs.ListLemmas.{one_of-more}
use Rattle.index_keep.proofs.refresh_start.part.Goals as goal
use Rattle.index_keep.proofs.refresh_start.part.Goals.{in-Some+in_ok-from_str+in_ok-put, in_default}

either : (same before : Bool) (said now : Option Said) → now ≡ (if before then None else said)
    → (if same then None else now) ≡ (if before || same then None else said)
either true true said now is = refl
either true false said now is = refl
either false true said now is = is
either false false said now is = is

none_of : {X Y : Type 0} (f : X → Y) (found : Option X) → ((x : X) → found ≡ Some x → ⊥) → option_map f found ≡ None
none_of f None none = refl
none_of f (Some x) none = absurd (none x refl)

pub loop-path-preserved : goal.loop-path-preserved
loop-path-preserved c =
    let before = λ (path : List ℕ). is_one_of path (map string_bytes (take c.loop-path.path-index c.args.paths.now)) in
    let item = string_bytes c.path-item.result in
    let more = λ (path : List ℕ). one_of-more c.args.paths.now c.loop-path.path-index c.path-item.result path
    c.loop-path-test.true c.path-item.is in
    let left_item : option_map known_seen c.take_out.result ≡ said_in c.loop-path.left item = c.take_out.ensures.taken
    ∙ ap (said_in c.loop-path.left) c.as_str.ensures.value in
    record {
      left = λ path.
          c.take_out.ensures.others path
          ∙ ap (λ (bytes : _). if bytes_eq bytes path then None else said_in c.loop-path.left path) c.as_str.ensures.value
          ∙ either (bytes_eq item path) (before path) (said_in c.args.known path) (said_in c.loop-path.left path)
          (c.loop-path.invariant.left path)
          ∙ sym (ap (λ (b : Bool). if b then None else said_in c.args.known path) (more path));
      taken = λ path. elim c.match-take_out.branch [
        | in-Some+in_ok-from_str+in_ok-put w ↦
            (λ i. said_in (w.taken-is i) path)
            ∙ w.in_ok-put.ensures.says path
            ∙ ap (λ (bytes : _). if bytes_eq bytes path then Some (known_seen w.in-Some.row) else said_in c.loop-path.taken path)
            (w.in_ok-from_str.ensures.ok ∙ w.as_str-in-Some.ensures.value)
            ∙ taken-put (said_in c.args.known) (said_in c.loop-path.left) (said_in c.loop-path.taken) before c.loop-path.invariant.left
            c.loop-path.invariant.taken item
            (known_seen w.in-Some.row) (sym left_item ∙ ap (option_map known_seen) w.in-Some.is) path (bytes_eq item path) refl
            ∙ sym (ap (λ (b : Bool). if b then said_in c.args.known path else None) (more path))
        | in_default w ↦
            (λ i. said_in (w.taken-is i) path)
            ∙ taken-none (said_in c.args.known) (said_in c.loop-path.left) (said_in c.loop-path.taken) before c.loop-path.invariant.left
            c.loop-path.invariant.taken item
            (sym left_item ∙ none_of known_seen c.take_out.result w.in_default.not-Some) path (bytes_eq item path) refl
            ∙ sym (ap (λ (b : Bool). if b then said_in c.args.known path else None) (more path))
      ];
    }
