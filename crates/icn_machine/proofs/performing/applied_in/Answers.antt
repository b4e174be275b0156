use Rattle.std.proofs.Common.{[]}
use Rattle.icn_vars.specs.Worlds.{reach_of}
use Rattle.icn_control.proofs.OperandValues.{live_locals}
use Rattle.icn_machine.proofs.PerformSteps.{locals_named}
use Rattle.icn_heap.specs.Heaps.{extent_of}
use Rattle.icn_machine.proofs.performing.applied_in.Goals as goal

pub function_outcome-requires-clause-locals : goal.function_outcome-requires-clause-locals
function_outcome-requires-clause-locals g c =
    live_locals c.requires.here.stack.0 (reach_of c.args.world.now []) c.args.frames.now.flat c.requires.here.stack.1

pub function_outcome-requires-clause-named : goal.function_outcome-requires-clause-named
function_outcome-requires-clause-named g c = record {
  world = c.requires.here.world_named;
  locals = locals_named (g.N.Names.known c.args.names.now) (extent_of c.args.world.now.heap) c.args.frames.now.flat c.requires.here.stack_named;
}

pub returns-clause-stack : goal.returns-clause-stack
returns-clause-stack g c = c.local_count.ensures.same

pub returns-clause-applies : goal.returns-clause-applies
returns-clause-applies g c = c.function_outcome.ensures.applies

pub returns-clause-named : goal.returns-clause-named
returns-clause-named g c = c.function_outcome.ensures.named

pub returns-clause-sized : goal.returns-clause-sized
returns-clause-sized g c = c.function_outcome.ensures.sized
