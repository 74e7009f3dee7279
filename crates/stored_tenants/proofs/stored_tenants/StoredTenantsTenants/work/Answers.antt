-- Bounding the indexes in memory changes no world, no job and nothing that is shared.
use Rattle.stored_tenants.proofs.stored_tenants.StoredTenantsTenants.work.Goals as goal

pub returns-clause-answers : goal.returns-clause-answers
returns-clause-answers c = rw c.bound_indexes.ensures c.turn-worked.ensures.answers

pub returns-clause-goes_on : goal.returns-clause-goes_on
returns-clause-goes_on c = rw c.bound_indexes.ensures c.turn-worked.ensures.goes_on

pub returns-clause-job : goal.returns-clause-job
returns-clause-job c = rw c.bound_indexes.ensures c.turn-worked.ensures.job

pub returns-clause-count : goal.returns-clause-count
returns-clause-count c = rw c.bound_indexes.ensures c.turn-worked.ensures.count

pub returns-clause-job_count : goal.returns-clause-job_count
returns-clause-job_count c = rw c.bound_indexes.ensures c.turn-worked.ensures.job_count

pub returns-clause-uses : goal.returns-clause-uses
returns-clause-uses c = rw c.bound_indexes.ensures c.turn-worked.ensures.uses
