use Rattle.icn_control.proofs.OperandValues.{live_locals, value_found}
use Rattle.icn_control.proofs.values.value_of.Goals as goal

pub deref-requires-clause-locals : goal.deref-requires-clause-locals
deref-requires-clause-locals g c = live_locals c.requires.stack.0 _ c.args.frames.now.flat c.requires.stack.1

pub returns-clause-value : goal.returns-clause-value
returns-clause-value g c = value_found c.args.world.now c.args.frames.now.flat c.args.item c.deref.result c.deref.ensures.value
