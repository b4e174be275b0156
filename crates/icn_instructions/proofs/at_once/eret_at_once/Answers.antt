use Rattle.std.proofs.Common.{IsSome, [], refl, sym, subst}
use Rattle.icn_heap.specs.Heaps.{extent_of}
use Rattle.icn_vars.specs.Worlds.{reach_of}
use Rattle.icn_control.proofs.PlainValueSteps.{taken_live, value_found}
use Rattle.icn_instructions.proofs.ArmSteps.{nothing_done}
use Rattle.icn_instructions.proofs.LackSteps.{eret_mark, eret_operand}
use Rattle.icn_instructions.proofs.at_once.eret_at_once.Goals as goal

pub take_value-requires : goal.take_value-requires
take_value-requires g c =
    let asked = c.requires.goes_on in
    eret_operand (extent_of c.args.world.now.heap) asked.0 c.args.frames.now.flat asked.1.0 asked.1.1.1

pub give_value_out-requires-clause-value : goal.give_value_out-requires-clause-value
give_value_out-requires-clause-value g c = subst IsSome (sym c.in-Some.ensures.taken.gives) refl

pub give_value_out-requires-clause-mark : goal.give_value_out-requires-clause-mark
give_value_out-requires-clause-mark g c =
    let w = c.args.world.now in
    let m = c.args.frames.now.flat in
    let k = c.take_value.new.frames.flat in
    let asked = c.requires.goes_on in
    let takes = c.in-Some.ensures.taken in
    eret_mark w asked.0 c.requires.live.0 (reach_of w []) m k takes.item takes.is asked.1.0 takes.pops c.requires.live.1
    (value_found (extent_of w.heap) k asked.1.0 takes.item takes.is takes.holds) asked.1.1.1

pub give_value_out-requires-clause-live : goal.give_value_out-requires-clause-live
give_value_out-requires-clause-live g c =
    let t = c.requires.live.0 in (
      t,
      (taken_live t (reach_of c.args.world.now []) c.args.frames.now.flat c.take_value.new.frames.flat c.in-Some.value c.in-Some.ensures.taken
          c.requires.live.1).rest,
    )

pub returns-in-Some : goal.returns-in-Some
returns-in-Some g c tables =
    let takes = c.in-Some.ensures.taken in
    record {
      step = λ st same. c.give_value_out.ensures.step c.args.frames.now.flat takes tables st same;
      live = λ k. (
          let live = taken_live tables (reach_of c.args.world.now []) c.args.frames.now.flat c.take_value.new.frames.flat c.in-Some.value takes k in
          c.give_value_out.ensures.live tables takes.is takes.gives live.value live.rest);
      same = c.give_value_out.ensures.same;
      not_done = λ q. absurd (cc);
    }

pub returns-in-None : goal.returns-in-None
returns-in-None g c tables = nothing_done tables _ c.args.world.now c.args.frames.now.flat c.take_value.new.frames.flat (c.take_value.ensures.none c.in-None.is)
