use Rattle.std.proofs.Common.{◌≡◌, ◌≤◌, true, false, length, sym, ◌∙◌, arith}
use Rattle.std.proofs.lemmas.Bool.{eqb-true, eq-eqb}
use Rattle.ports_http.specs.Limits.{field_limit}
use Rattle.ports_http.proofs.OneMoreLemmas.{full_when, full_found}
use Rattle.ports_http.proofs.field_limit.is_full.Goals as goal

pub returns-then-spans-eq-FIELD_LIMIT-clause-yes : goal.returns-then-spans-eq-FIELD_LIMIT-clause-yes
unfolding field_limit
returns-then-spans-eq-FIELD_LIMIT-clause-yes c = λ whole.
    let within = rw c.in-Ok-Complete.field-0-is at c.in-Ok-Complete.ensures.within in
    let complete = rw c.in-Ok-Complete.field-0-is at c.in-Ok-Complete.ensures.complete in
    full_when c.args.bytes.now c.parse_request.new.headers c.in-Ok-Complete.spans within complete
    (omega (arith, c.if-spans-eq-FIELD_LIMIT.true)) (eqb-true _ _ whole)

pub returns-then-spans-eq-FIELD_LIMIT-clause-no : goal.returns-then-spans-eq-FIELD_LIMIT-clause-no
unfolding field_limit
returns-then-spans-eq-FIELD_LIMIT-clause-no c = λ other full.
    let within = rw c.in-Ok-Complete.field-0-is at c.in-Ok-Complete.ensures.within in
    let fits : length full.head.fields ≤ 32 = omega (arith, full.lines) in
    let found = rw c.in-Ok-Complete.field-0-is at (c.in-Ok-Complete.ensures.found full.head _ full.reads fits) in
    let told = full_found c.args.bytes.now c.parse_request.new.headers c.in-Ok-Complete.spans within full found in
    let fails : true ≡ false = sym (eq-eqb c.in-Ok-Complete.spans.len (length c.args.bytes.now) told.1) ∙ other in cc

pub returns-else-spans-eq-FIELD_LIMIT-clause-no : goal.returns-else-spans-eq-FIELD_LIMIT-clause-no
unfolding field_limit
returns-else-spans-eq-FIELD_LIMIT-clause-no c = λ _ full.
    let within = rw c.in-Ok-Complete.field-0-is at c.in-Ok-Complete.ensures.within in
    let fits : length full.head.fields ≤ 32 = omega (arith, full.lines) in
    let found = rw c.in-Ok-Complete.field-0-is at (c.in-Ok-Complete.ensures.found full.head _ full.reads fits) in
    let told = full_found c.args.bytes.now c.parse_request.new.headers c.in-Ok-Complete.spans within full found in
    absurd (omega (arith, c.if-spans-eq-FIELD_LIMIT.false, told.0))

pub returns-in_default-2-clause-no : goal.returns-in_default-2-clause-no
unfolding field_limit
returns-in_default-2-clause-no c = λ other full.
    let fits : length full.head.fields ≤ 32 = omega (arith, full.lines) in
    rw c.in_default.is at (c.parse_request.ensures.found full.head _ full.reads fits)
