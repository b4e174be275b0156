use Rattle.std.proofs.Common.{[], ◌∷◌, subst}
use Rattle.std.specs.List.{All}
use Rattle.icn_vars.specs.Worlds.{IsLiveItem, Reach, reach_of}
use Rattle.icn_control.proofs.OperandValues.{live_locals}
use Rattle.icn_machine.proofs.PerformSteps.{locals_named, reach_is}
use Rattle.icn_heap.specs.Heaps.{extent_of}
use Rattle.icn_machine.proofs.concatenating.concatenation_in.Goals as goal

pub concatenate-requires-clause-locals : goal.concatenate-requires-clause-locals
concatenate-requires-clause-locals g c =
    live_locals c.requires.here.stack.0 (reach_of c.args.world.now []) c.args.frames.now.flat c.requires.here.stack.1

pub concatenate-requires-clause-named : goal.concatenate-requires-clause-named
concatenate-requires-clause-named g c = record {
  world = c.requires.here.world_named;
  locals = locals_named (g.N.Names.known c.args.names.now) (extent_of c.args.world.now.heap) c.args.frames.now.flat c.requires.here.stack_named;
}

pub concatenate-requires-clause-args : goal.concatenate-requires-clause-args
concatenate-requires-clause-args g c =
    subst (λ (r : Reach). All (IsLiveItem r) (c.args.two.0 ∷ c.args.two.1 ∷ []))
    (reach_is c.args.world.now c.args.frames.now.flat c.local_count.result c.local_count.ensures.count c.local_count.ensures.all) c.requires.given.items

pub concatenate-requires-clause-args_named : goal.concatenate-requires-clause-args_named
concatenate-requires-clause-args_named g c = c.requires.given.items_named

pub returns-clause-stack : goal.returns-clause-stack
returns-clause-stack g c = c.local_count.ensures.same

pub returns-clause-applies : goal.returns-clause-applies
returns-clause-applies g c = c.concatenate.ensures.applies

pub returns-clause-named : goal.returns-clause-named
returns-clause-named g c = c.concatenate.ensures.named

pub returns-clause-sized : goal.returns-clause-sized
returns-clause-sized g c = c.concatenate.ensures.sized
