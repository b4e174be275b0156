use Rattle.icn_verify.proofs.SoundInstructions.{found_answer}
use Rattle.icn_verify.proofs.ProcedureChecks.{found_within}
use Rattle.icn_verify.proofs.check.first_fault.Goals as goal

pub returns-clause-first : goal.returns-clause-first
returns-clause-first c = found_answer c.args.instrs.now c.requires.labels c.fault_of.result c.fault_of.ensures

pub returns-clause-within : goal.returns-clause-within
returns-clause-within c = found_within c.args.instrs.now c.requires.labels c.fault_of.result c.fault_of.ensures
