use Rattle.std.proofs.Common.{◌+◌, arith, refl, subst}
use Rattle.std.specs.Prelude.{Some}
use Rattle.icn_value.specs.declared.val.Val.TheVariants as Vals
use Rattle.icn_heap.specs.Heaps.{extent_of}
use Rattle.icn_vars.specs.Outcomes.{outcome_of}
use Rattle.icn_vars.specs.declared.outcome.ValueOutcome.{ValueOutcome}
use Rattle.icn_machine.specs.PlainScans.{GivesSo}
use Rattle.icn_machine.proofs.HeldValueSteps.{below_told_live}
use Rattle.icn_machine.proofs.ListCalls.{takes_called}
use Rattle.icn_machine.proofs.PlainCallSteps.{operands_there}
use Rattle.icn_machine.proofs.PlainFunctionSteps.{fewer_operands}
use Rattle.icn_machine.proofs.RowsAtOnce.{calls_lack, calls_not}
use Rattle.icn_machine.proofs.lists_in_place.take_in_place.Goals as goal

pub list_told-requires : goal.list_told-requires
list_told-requires g c = fewer_operands (0 + 1) (1 + 1) _ (omega arith) (operands_there 1 c.args.frames.now.flat c.requires.operands)

pub returns-in_default : goal.returns-in_default
returns-in_default g c t names = calls_not t 1 c.args.world.now c.args.world.now c.args.frames.now.flat c.args.frames.now.flat refl refl

pub take_from-requires : goal.take_from-requires
take_from-requires g c =
    let w = c.args.world.now in
    below_told_live c.requires.live.0 w c.args.frames.now.flat 0 (Some (Vals.List c.in-Some.list)) w.sound.live_globals c.requires.live.1
    (fewer_operands (0 + 1) (1 + 1) _ (omega arith) (operands_there 1 c.args.frames.now.flat c.requires.operands)) c.in-Some.ensures

pub returns-in_default-take_from : goal.returns-in_default-take_from
returns-in_default-take_from g c t names =
    calls_not t 1 c.args.world.now c.take_from.new.world c.args.frames.now.flat c.args.frames.now.flat refl (c.take_from.ensures.none c.in_default-take_from.is)

pub drop_with-requires : goal.drop_with-requires
drop_with-requires g c = operands_there 1 c.args.frames.now.flat c.requires.operands

pub returns-in-Ok : goal.returns-in-Ok
returns-in-Ok g c t names =
    let w = c.args.world.now in
    let v = c.take_from.new.world in
    let k = c.drop_with.new.self.flat in
    let n = c.give_value.new.frames.flat in
    rw c.done_at.ensures
    (takes_called c.requires.live.0 t w v c.args.frames.now.flat k n c.args.func c.local_count.ensures.same c.requires.live.1 c.in-Some.list c.in-Ok.stage
    c.drop_with.ensures.drops c.in-Some-take_from.taken names c.in-Some.ensures c.in-Some-take_from.ensures.takes
    (subst (λ (x : ValueOutcome). GivesSo v (outcome_of x) k n c.in-Ok.stage) c.taken_outcome.ensures (record {
      gives = c.in-Ok.ensures.gives;
      live = λ tables reach l o. c.in-Ok.ensures.live tables reach l o;
      named = λ all seen h o. c.in-Ok.ensures.named all (extent_of v.heap) seen h o;
    })))

pub returns-in-Err : goal.returns-in-Err
returns-in-Err g c t names = calls_lack t 1 c.args.world.now c.take_from.new.world c.args.frames.now.flat c.give_value.new.frames.flat
