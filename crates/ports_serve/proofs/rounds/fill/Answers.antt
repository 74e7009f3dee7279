use Rattle.std.proofs.Common.{◌≡◌, ℕ, List, [], ◌++◌, length, take, drop, if◌then◌else◌, ap, sym, subst, ◌∙◌, arith}
use Rattle.std.proofs.lemmas.List.{append-nil, drop_all, take_all}
use Rattle.std.specs.Result.{is_ok}
use Rattle.std.specs.Vec.{vec_len}
use Rattle.ports_serve.specs.Calls.{Read, read_outcome}
use Rattle.ports_serve.proofs.rounds.fill.Goals as goal

-- a buffer that is written over as a whole
written_over : (len : ℕ) (bytes items : List ℕ) → length bytes ≡ len → length items ≡ len
    → take len (bytes ++ drop (length bytes) items) ≡ bytes
written_over len bytes items new old =
    ap (λ rest. take len (bytes ++ rest)) (drop_all (length bytes) items (omega (arith, new, old)))
    ∙ ap (take len) (append-nil bytes)
    ∙ take_all len bytes (omega (arith, new))

pub returns-clause-after : goal.returns-clause-after
returns-clause-after g c =
    let size = c.resize.ensures.len ∙ ap (λ result. if is_ok result then c.args.size else vec_len c.args.buffer.now) c.unwrap.ensures in
    subst (λ bytes. g.W.Wire.after c.args.wire.now (Read c.args.conn c.args.size (read_outcome bytes c.read.result)) c.read.new.self)
    (sym (written_over c.resize.new.self.len c.read.new.buffer c.resize.new.self.items (c.read.ensures.size ∙ c.as_mut_slice.ensures.len)
    (sym c.resize.new.self.ok.0)))
    (subst (λ count. g.W.Wire.after c.args.wire.now (Read c.args.conn count (read_outcome c.read.new.buffer c.read.result)) c.read.new.self)
    (c.as_mut_slice.ensures.len ∙ size) c.read.ensures.after)
