use Rattle.icn_vars.proofs.reading.deref.Goals as goal

pub returns-in-Var-clause-value : goal.returns-in-Var-clause-value
returns-in-Var-clause-value g c = rw c.in-Var.is c.read.ensures.value
