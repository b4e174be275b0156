use Rattle.std.proofs.Common.{◌≡◌, [], ◌∷◌, sym, ◌∙◌, subst}
use Rattle.std.specs.List.{All}
use Rattle.icn_heap.specs.Heaps.{extent_of}
use Rattle.icn_vars.specs.Worlds.{IsLiveItem, Reach, reach_of}
use Rattle.icn_frames.specs.Stacks as flat
use Rattle.icn_frames.specs.Stacks.{FlatStack}
use Rattle.icn_control.proofs.OperandValues.{live_locals}
use Rattle.icn_machine.proofs.PerformSteps.{locals_named, reach_is}
use Rattle.icn_machine.proofs.assigning.assignment_lent.Goals as goal

pub invariant_of-own : goal.invariant_of-own
invariant_of-own g c = record {
  lent = c.requires.lent;
  same =
      subst (λ (x : FlatStack). flat.set_locals (flat.locals c.args.frames.now.flat) x ≡ c.args.frames.now.flat) (sym c.requires.earlier)
      c.local_count.ensures.same;
}

pub assign-answer-requires-clause-args : goal.assign-answer-requires-clause-args
assign-answer-requires-clause-args g c =
    subst (λ (r : Reach). All (IsLiveItem r) (c.args.two.0 ∷ c.args.two.1 ∷ []))
    (reach_is c.args.world.now c.args.frames.now.flat c.local_count.result c.local_count.ensures.count c.local_count.ensures.all) c.requires.given.items

pub assign-answer-requires-clause-args_named : goal.assign-answer-requires-clause-args_named
assign-answer-requires-clause-args_named g c = c.requires.given.items_named

pub assign-answer-requires-clause-locals : goal.assign-answer-requires-clause-locals
assign-answer-requires-clause-locals g c = live_locals c.requires.here.stack.0 (reach_of c.args.world.now []) c.args.frames.now.flat c.requires.here.stack.1

pub assign-answer-requires-clause-named : goal.assign-answer-requires-clause-named
assign-answer-requires-clause-named g c = record {
  world = c.requires.here.world_named;
  locals = locals_named (g.N.Names.known c.args.names.now) (extent_of c.args.world.now.heap) c.args.frames.now.flat c.requires.here.stack_named;
}

pub returns-clause-same_reference : goal.returns-clause-same_reference
returns-clause-same_reference g c = c.assign-answer.new.l.lent ∙ sym c.requires.lent

pub returns-clause-applies : goal.returns-clause-applies
returns-clause-applies g c = c.assign-answer.ensures.applies

pub returns-clause-named : goal.returns-clause-named
returns-clause-named g c = c.assign-answer.ensures.named

pub returns-clause-stack : goal.returns-clause-stack
returns-clause-stack g c =
    let after : FlatStack = c.assign-answer.new.l.frames.now.flat in
    subst (λ (x : FlatStack). flat.set_locals (flat.locals after) x ≡ after) c.requires.earlier c.assign-answer.new.l.same
