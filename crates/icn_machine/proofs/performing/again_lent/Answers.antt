use Rattle.std.proofs.Common.{◌≡◌, [], sym, ◌∙◌, subst}
use Rattle.icn_heap.specs.Heaps.{extent_of}
use Rattle.icn_vars.specs.Worlds.{Reach, reach_of}
use Rattle.icn_vars.specs.Outcomes.{IsLiveResidual}
use Rattle.icn_frames.specs.Stacks as flat
use Rattle.icn_frames.specs.Stacks.{FlatStack}
use Rattle.icn_control.proofs.OperandValues.{live_locals}
use Rattle.icn_machine.proofs.PerformSteps.{locals_named, reach_is}
use Rattle.icn_machine.proofs.performing.again_lent.Goals as goal

pub invariant_of-own : goal.invariant_of-own
invariant_of-own g c = record {
  lent = c.requires.lent;
  same =
      subst (λ (x : FlatStack). flat.set_locals (flat.locals c.args.frames.now.flat) x ≡ c.args.frames.now.flat) (sym c.requires.earlier)
      c.local_count.ensures.same;
}

pub again-answer-requires-clause-rest : goal.again-answer-requires-clause-rest
again-answer-requires-clause-rest g c =
    subst (λ (r : Reach). IsLiveResidual r c.args.rest)
    (reach_is c.args.world.now c.args.frames.now.flat c.local_count.result c.local_count.ensures.count c.local_count.ensures.all) c.requires.rest

pub again-answer-requires-clause-rest_named : goal.again-answer-requires-clause-rest_named
again-answer-requires-clause-rest_named g c = c.requires.rest_named

pub again-answer-requires-clause-locals : goal.again-answer-requires-clause-locals
again-answer-requires-clause-locals g c = live_locals c.requires.here.stack.0 (reach_of c.args.world.now []) c.args.frames.now.flat c.requires.here.stack.1

pub again-answer-requires-clause-named : goal.again-answer-requires-clause-named
again-answer-requires-clause-named g c = record {
  world = c.requires.here.world_named;
  locals = locals_named (g.N.Names.known c.args.names.now) (extent_of c.args.world.now.heap) c.args.frames.now.flat c.requires.here.stack_named;
}

pub returns-clause-same_reference : goal.returns-clause-same_reference
returns-clause-same_reference g c = c.again-answer.new.l.lent ∙ sym c.requires.lent

pub returns-clause-applies : goal.returns-clause-applies
returns-clause-applies g c = c.again-answer.ensures.applies

pub returns-clause-named : goal.returns-clause-named
returns-clause-named g c = c.again-answer.ensures.named

pub returns-clause-stack : goal.returns-clause-stack
returns-clause-stack g c =
    let after : FlatStack = c.again-answer.new.l.frames.now.flat in
    subst (λ (x : FlatStack). flat.set_locals (flat.locals after) x ≡ after) c.requires.earlier c.again-answer.new.l.same
