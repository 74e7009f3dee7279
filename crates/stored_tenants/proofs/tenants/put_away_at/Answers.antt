-- The tenant with this number is as right as it was, over the same world and with the same job.
use Rattle.std.proofs.Common.{◌<◌, arith, get_or, length, refl}
use Rattle.stored_tenants.specs.Kept.{world_of}
use Rattle.stored_tenants.proofs.KeptLemmas.{right_at, set_right, limited}
use Rattle.stored_tenants.proofs.JobLemmas.{jobs_kept}
use Rattle.stored_tenants.proofs.RowLemmas.{rows_kept}
use Rattle.stored_tenants.proofs.WorldLemmas.{worlds_kept}
use Rattle.stored_tenants.proofs.tenants.put_away_at.Goals as goal

pub returns-then-number-tenants-clause-right : goal.returns-then-number-tenants-clause-right
returns-then-number-tenants-clause-right c = λ before.
    let tenants = c.args.tenants.now in
    let number = c.args.number in
    let any = c.index-tenants-number.result in
    let old = get_or tenants number any in
    let keeper = c.put_away in
    let inside : number < length tenants = omega (arith, c.if-number-tenants.true) in
    set_right tenants number (record old { keeper = keeper.new.self }) inside before
    (limited old (world_of old) keeper.new.self refl keeper.ensures.rows keeper.ensures.begun (keeper.ensures.kept (world_of old))
    (right_at tenants number any inside before))

pub returns-then-number-tenants-clause-worlds : goal.returns-then-number-tenants-clause-worlds
returns-then-number-tenants-clause-worlds c =
    let tenants = c.args.tenants.now in
    let any = c.index-tenants-number.result in
    let inside : c.args.number < length tenants = omega (arith, c.if-number-tenants.true) in
    worlds_kept tenants c.args.number any (record (get_or tenants c.args.number any) { keeper = c.put_away.new.self }) inside refl

pub returns-then-number-tenants-clause-jobs : goal.returns-then-number-tenants-clause-jobs
returns-then-number-tenants-clause-jobs c =
    let tenants = c.args.tenants.now in
    let any = c.index-tenants-number.result in
    let inside : c.args.number < length tenants = omega (arith, c.if-number-tenants.true) in
    jobs_kept tenants c.args.number any (record (get_or tenants c.args.number any) { keeper = c.put_away.new.self }) inside refl

pub returns-then-number-tenants-clause-rows : goal.returns-then-number-tenants-clause-rows
returns-then-number-tenants-clause-rows c =
    let tenants = c.args.tenants.now in
    let any = c.index-tenants-number.result in
    let inside : c.args.number < length tenants = omega (arith, c.if-number-tenants.true) in
    rows_kept tenants c.args.number any (record (get_or tenants c.args.number any) { keeper = c.put_away.new.self })
    inside c.put_away.ensures.rows
