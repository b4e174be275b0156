use Rattle.std.proofs.Common.{◌≡◌, ◌+◌, [], sym, subst}
use Rattle.icn_text.specs.declared.op.Op.TheVariants as Ops
use Rattle.icn_value.specs.declared.val.Val.{Val}
use Rattle.icn_value.specs.declared.val.Val.TheVariants as Vals
use Rattle.icn_heap.specs.Extents.{IsLive}
use Rattle.icn_heap.specs.Heaps.{extent_of}
use Rattle.icn_vars.specs.Worlds.{reach_of}
use Rattle.icn_frames.specs.CalledWith.{HasOperands}
use Rattle.icn_frames.specs.Stacks.{FlatStack}
use Rattle.icn_code.specs.declared.instr.Instr.TheVariants as Instrs
use Rattle.icn_control.specs.LiveStacks.{IsLiveStack}
use Rattle.icn_machine.specs.AnsweredAtOnce.{done_at}
use Rattle.icn_machine.specs.HeldValues.{FindsBelow}
use Rattle.icn_machine.specs.TurnsAtOnce.{DoesAsTurn}
use Rattle.icn_machine.proofs.AssignmentSteps.{memory_turned, not_turned}
use Rattle.icn_machine.proofs.ElementsOnce.{elements_dropped}
use Rattle.icn_machine.proofs.PlainCallSteps.{operands_there}
use Rattle.icn_machine.proofs.elements_in_place.give_elements.Goals as goal

pub value_held-requires-clause-operand : goal.value_held-requires-clause-operand
value_held-requires-clause-operand g c = operands_there 0 c.args.frames.now.flat c.requires.operands

pub value_held-requires-clause-live : goal.value_held-requires-clause-live
value_held-requires-clause-live g c = c.requires.live

pub returns-in_default : goal.returns-in_default
returns-in_default g c tables =
    not_turned tables (Instrs.Op Ops.Elements) c.args.world.now c.args.frames.now.flat c.value_held.new.frames.flat c.value_held.ensures.same

pub returns-in_default-list_of : goal.returns-in_default-list_of
returns-in_default-list_of g c tables =
    not_turned tables (Instrs.Op Ops.Elements) c.args.world.now c.args.frames.now.flat c.value_held.new.frames.flat c.value_held.ensures.same

pub drop_with-requires : goal.drop_with-requires
drop_with-requires g c =
    subst (λ (x : FlatStack). HasOperands (0 + 1) x.cells) (sym c.value_held.ensures.same) (operands_there 0 c.args.frames.now.flat c.requires.operands)

pub give_items-requires : goal.give_items-requires
give_items-requires g c = subst (λ (v : Val). IsLive (extent_of c.args.world.now.heap) v) c.in-Some-list_of.ensures c.in-Some.ensures.live

pub returns-in-Ok : goal.returns-in-Ok
returns-in-Ok g c tables =
    let w = c.args.world.now in
    let m = c.args.frames.now.flat in
    let f = c.value_held.new.frames.flat in
    let k = c.drop_with.new.self.flat in
    let list = c.in-Some-list_of.list in
    let same : f ≡ m = c.value_held.ensures.same in
    let found : FindsBelow w f 0 (Vals.List list)
    = subst (λ (v : Val). FindsBelow w f 0 v) c.in-Some-list_of.ensures
    (subst (λ (x : FlatStack). FindsBelow w x 0 c.in-Some.val) (sym same) c.in-Some.ensures.found) in
    rw c.done_at.ensures
    (subst (λ (x : FlatStack). DoesAsTurn tables (Instrs.Op Ops.Elements) w x w c.give_items.new.frames.flat (done_at c.in-Ok.stage)) same
    (elements_dropped c.requires.live.0 tables w f k c.give_items.new.frames.flat list c.in-Ok.stage c.drop_with.ensures.drops c.local_count.ensures.same
    found (subst (λ (x : FlatStack). IsLiveStack c.requires.live.0 (reach_of w []) x) (sym same) c.requires.live.1)
    (subst (λ (v : Val). IsLive (extent_of w.heap) v) c.in-Some-list_of.ensures c.in-Some.ensures.live)
    (record {
      gives = c.in-Ok.ensures.gives;
      live = λ tables reach l o. c.in-Ok.ensures.live tables reach l o;
      named = λ names seen h o. c.in-Ok.ensures.named names seen h o;
    })))

pub returns-in-Err : goal.returns-in-Err
returns-in-Err g c tables =
    memory_turned tables (Instrs.Op Ops.Elements) c.args.world.now c.args.world.now c.args.frames.now.flat c.give_items.new.frames.flat
