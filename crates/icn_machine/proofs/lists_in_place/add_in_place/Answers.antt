use Rattle.std.proofs.Common.{◌+◌, arith, refl}
use Rattle.icn_value.specs.declared.val.Val.TheVariants as Vals
use Rattle.icn_heap.specs.Heaps.{extent_of}
use Rattle.std.specs.Prelude.{Some}
use Rattle.icn_machine.proofs.HeldValueSteps.{below_told_live}
use Rattle.icn_machine.proofs.ListCalls.{adds_called}
use Rattle.icn_machine.proofs.PlainCallSteps.{operands_there}
use Rattle.icn_machine.proofs.PlainFunctionSteps.{fewer_operands}
use Rattle.icn_machine.proofs.RowsAtOnce.{calls_lack, calls_not}
use Rattle.icn_machine.proofs.lists_in_place.add_in_place.Goals as goal

pub returns-then-not-is_adding : goal.returns-then-not-is_adding
returns-then-not-is_adding g c t names = calls_not t 2 c.args.world.now c.args.world.now c.args.frames.now.flat c.args.frames.now.flat refl refl

pub list_told-requires : goal.list_told-requires
list_told-requires g c = fewer_operands (1 + 1) (2 + 1) _ (omega arith) (operands_there 2 c.args.frames.now.flat c.requires.operands)

pub returns-in_default : goal.returns-in_default
returns-in_default g c t names = calls_not t 2 c.args.world.now c.args.world.now c.args.frames.now.flat c.args.frames.now.flat refl refl

pub value_told-requires : goal.value_told-requires
value_told-requires g c = fewer_operands (0 + 1) (2 + 1) _ (omega arith) (operands_there 2 c.args.frames.now.flat c.requires.operands)

pub returns-in_default-value_told : goal.returns-in_default-value_told
returns-in_default-value_told g c t names = calls_not t 2 c.args.world.now c.args.world.now c.args.frames.now.flat c.args.frames.now.flat refl refl

pub returns-in_default-room_for_cells : goal.returns-in_default-room_for_cells
returns-in_default-room_for_cells g c t names = calls_not t 2 c.args.world.now c.args.world.now c.args.frames.now.flat c.args.frames.now.flat refl refl

pub add_to-requires-clause-list : goal.add_to-requires-clause-list
add_to-requires-clause-list g c =
    let w = c.args.world.now in
    below_told_live c.requires.live.0 w c.args.frames.now.flat 1 (Some (Vals.List c.in-Some.list)) w.sound.live_globals c.requires.live.1
    (fewer_operands (1 + 1) (2 + 1) _ (omega arith) (operands_there 2 c.args.frames.now.flat c.requires.operands)) c.in-Some.ensures

pub add_to-requires-clause-value : goal.add_to-requires-clause-value
add_to-requires-clause-value g c =
    let w = c.args.world.now in
    below_told_live c.requires.live.0 w c.args.frames.now.flat 0 (Some c.in-Some-value_told.val) w.sound.live_globals c.requires.live.1
    (fewer_operands (0 + 1) (2 + 1) _ (omega arith) (operands_there 2 c.args.frames.now.flat c.requires.operands)) c.in-Some-value_told.ensures

pub returns-then-not-add_to : goal.returns-then-not-add_to
returns-then-not-add_to g c t names = calls_lack t 2 c.args.world.now c.add_to.new.world c.args.frames.now.flat c.args.frames.now.flat

pub drop_with-requires : goal.drop_with-requires
drop_with-requires g c = operands_there 2 c.args.frames.now.flat c.requires.operands

pub returns-in-Ok-give_value : goal.returns-in-Ok-give_value
returns-in-Ok-give_value g c t names =
    let w = c.args.world.now in
    let v = c.add_to.new.world in
    let k = c.drop_with.new.self.flat in
    let n = c.give_value.new.frames.flat in
    rw c.done_at.ensures
    (adds_called c.requires.live.0 t w v c.args.frames.now.flat k n c.args.func c.local_count.ensures.same c.requires.live.1 c.in-Some.list
    c.in-Ok-give_value.stage
    c.drop_with.ensures.drops c.in-Some-value_told.val names c.in-Some.ensures c.in-Some-value_told.ensures (c.add_to.ensures c.if-not-add_to.false)
    (record {
      gives = c.in-Ok-give_value.ensures.gives;
      live = λ tables reach l o. c.in-Ok-give_value.ensures.live tables reach l o;
      named = λ all seen h o. c.in-Ok-give_value.ensures.named all (extent_of v.heap) seen h o;
    }))

pub returns-in-Err : goal.returns-in-Err
returns-in-Err g c t names = calls_lack t 2 c.args.world.now c.add_to.new.world c.args.frames.now.flat c.give_value.new.frames.flat
