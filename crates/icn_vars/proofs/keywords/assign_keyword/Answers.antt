use Rattle.icn_vars.proofs.keywords.assign_keyword.Goals as goal

pub returns-in-Subject-clause-assigned : goal.returns-in-Subject-clause-assigned
returns-in-Subject-clause-assigned g c = rw c.in-Subject.is c.assign_subject.ensures.assigned

pub returns-in-Position-clause-assigned : goal.returns-in-Position-clause-assigned
returns-in-Position-clause-assigned g c = rw c.in-Position.is c.assign_position.ensures.assigned

pub returns-in-Random-clause-assigned : goal.returns-in-Random-clause-assigned
returns-in-Random-clause-assigned g c = rw c.in-Random.is c.assign_random.ensures.assigned

pub returns-in-ErrorCount-clause-assigned : goal.returns-in-ErrorCount-clause-assigned
returns-in-ErrorCount-clause-assigned g c = rw c.in-ErrorCount.is c.assign_error.ensures.assigned
