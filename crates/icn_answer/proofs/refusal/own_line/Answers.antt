use Rattle.icn_answer.proofs.refusal.own_line.Goals as goal

pub returns-in-FileFault-clause-puts : goal.returns-in-FileFault-clause-puts
returns-in-FileFault-clause-puts g c = rw c.in-FileFault.is c.try_put.ensures.puts

pub returns-in-ReadFault-clause-puts : goal.returns-in-ReadFault-clause-puts
returns-in-ReadFault-clause-puts g c = rw c.in-ReadFault.is c.try_put-in-ReadFault.ensures.puts
