use Rattle.icont_top.specs.Running.{sizes_broken}
use Rattle.icont_top.proofs.SizesLine.{is_put_fault}
use Rattle.icont_top.proofs.top.sizes_answer.Goals as goal

pub returns-in-Err-clause-puts : goal.returns-in-Err-clause-puts
returns-in-Err-clause-puts g c = sizes_broken c.in-Err.fault c.put_answer-answer.ensures c.in-Err.ensures.err c.own_line.ensures.puts

pub returns-in-Ok-clause-settled : goal.returns-in-Ok-clause-settled
returns-in-Ok-clause-settled g c e n = (c.in-Ok.ensures.settled, e)

pub returns-in-Err-clause-settled : goal.returns-in-Err-clause-settled
returns-in-Err-clause-settled g c e n = absurd (n (rw c.put_answer-answer.ensures (is_put_fault c.in-Err.fault)))
