use Rattle.std.proofs.Common.{sym, ◌∙◌}
use Rattle.icn_answer.specs.Refusing.{own, put, want, write_fault}
use Rattle.icn_answer.proofs.NoFaults.{no_fault}
use Rattle.icn_answer.proofs.refusal.refuse.Goals as goal

pub returns-then-is_fault-clause-line : goal.returns-then-is_fault-clause-line
returns-then-is_fault-clause-line g c = own (sym c.is_fault.ensures ∙ c.if-is_fault.true) c.own_line.ensures.puts

pub returns-in-Ok-clause-line : goal.returns-in-Ok-clause-line
returns-in-Ok-clause-line g c = put (no_fault c.args.answer (sym c.is_fault.ensures ∙ c.if-is_fault.false)) c.in-Ok.ensures.ok

pub returns-in-Err-Failed-clause-line : goal.returns-in-Err-Failed-clause-line
returns-in-Err-Failed-clause-line g c =
    write_fault (no_fault c.args.answer (sym c.is_fault.ensures ∙ c.if-is_fault.false)) (rw c.in-Err-Failed.field-0-is at c.in-Err-Failed.ensures.err)

pub returns-clause-line : goal.returns-clause-line
returns-clause-line g c = want (no_fault c.args.answer (sym c.is_fault.ensures ∙ c.if-is_fault.false))
    _ (rw c.in-Err-NoMemory.field-0-is at c.in-Err-NoMemory.ensures.err) c.try_put.ensures.puts
