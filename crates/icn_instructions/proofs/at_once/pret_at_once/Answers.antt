use Rattle.std.proofs.Common.{IsSome, [], refl, sym, subst}
use Rattle.icn_vars.specs.Worlds.{reach_of}
use Rattle.icn_control.proofs.PlainValueSteps.{taken_live}
use Rattle.icn_instructions.proofs.ArmSteps.{nothing_done}
use Rattle.icn_instructions.proofs.at_once.pret_at_once.Goals as goal

pub take_value-requires : goal.take_value-requires
take_value-requires g c = c.requires.operand

pub leave_with-requires-clause-value : goal.leave_with-requires-clause-value
leave_with-requires-clause-value g c = subst IsSome (sym c.in-Some.ensures.taken.gives) refl

pub leave_with-requires-clause-live : goal.leave_with-requires-clause-live
leave_with-requires-clause-live g c =
    let t = c.requires.live.0 in (
      t,
      (taken_live t (reach_of c.args.world.now []) c.args.frames.now.flat c.take_value.new.frames.flat c.in-Some.value c.in-Some.ensures.taken
          c.requires.live.1).rest,
    )

pub returns-in-Some : goal.returns-in-Some
returns-in-Some g c tables =
    let takes = c.in-Some.ensures.taken in
    record {
      step = λ st same. c.leave_with.ensures.step c.args.frames.now.flat takes tables st same;
      live = λ k. (
          let live = taken_live tables (reach_of c.args.world.now []) c.args.frames.now.flat c.take_value.new.frames.flat c.in-Some.value takes k in
          c.leave_with.ensures.live tables takes.is takes.gives live.value live.rest);
      same = c.leave_with.ensures.same;
      not_done = λ q. absurd (cc);
    }

pub returns-in-None : goal.returns-in-None
returns-in-None g c tables = nothing_done tables _ c.args.world.now c.args.frames.now.flat c.take_value.new.frames.flat (c.take_value.ensures.none c.in-None.is)
