use Rattle.std.proofs.Common.{◌≡◌, ◌+◌, ◌∙◌, [], IsSome, Option, arith, refl, sym, ap, subst}
use Rattle.icn_text.specs.declared.op.Op.TheVariants as Ops
use Rattle.icn_value.specs.declared.item.Item.{Item}
use Rattle.icn_vars.specs.Worlds.{reach_of}
use Rattle.icn_frames.specs.CalledWith.{HasOperands}
use Rattle.icn_frames.specs.Stacks.{FlatStack}
use Rattle.icn_code.specs.declared.instr.Instr.TheVariants as Instrs
use Rattle.icn_control.specs.LiveStacks.{IsLiveStack}
use Rattle.icn_control.proofs.LiveCalls.{own_locals}
use Rattle.icn_machine.specs.HeldValues.{FindsBelow}
use Rattle.icn_machine.specs.TurnsAtOnce.{DoesAsTurn}
use Rattle.icn_machine.specs.declared.at_once.AtOnce.TheVariants as AtOnces
use Rattle.icn_machine.proofs.AssignmentSteps.{memory_turned, not_turned, reverses, root_live, variable_item}
use Rattle.icn_machine.proofs.PlainCallSteps.{operands_there}
use Rattle.icn_machine.proofs.PlainFunctionSteps.{fewer_operands}
use Rattle.icn_machine.proofs.assignments_in_place.assign_reversibly.Goals as goal

pub slot_below-slot-requires : goal.slot_below-slot-requires
slot_below-slot-requires g c = operands_there 1 c.args.frames.now.flat c.requires.operands

pub returns-in_default : goal.returns-in_default
returns-in_default g c tables =
    not_turned tables (Instrs.Op Ops.ReversibleAssign) c.args.world.now c.args.frames.now.flat c.args.frames.now.flat refl

pub is_in_world-requires : goal.is_in_world-requires
is_in_world-requires g c = (
  own_locals c.args.frames.now.flat,
  root_live c.requires.live.0 c.args.world.now c.args.frames.now.flat 1 c.slot_below-slot.result c.in-Some.root c.requires.live.1
      (operands_there 1 c.args.frames.now.flat c.requires.operands) c.slot_below-slot.ensures c.in-Some.ensures,
)

pub returns-then-not-is_in_world : goal.returns-then-not-is_in_world
returns-then-not-is_in_world g c tables =
    not_turned tables (Instrs.Op Ops.ReversibleAssign) c.args.world.now c.args.frames.now.flat c.args.frames.now.flat refl

pub value_held-requires-clause-operand : goal.value_held-requires-clause-operand
value_held-requires-clause-operand g c = operands_there 1 c.args.frames.now.flat c.requires.operands

pub value_held-requires-clause-live : goal.value_held-requires-clause-live
value_held-requires-clause-live g c = c.requires.live

pub returns-in_default-value_held : goal.returns-in_default-value_held
returns-in_default-value_held g c tables =
    not_turned tables (Instrs.Op Ops.ReversibleAssign) c.args.world.now c.args.frames.now.flat c.value_held.new.frames.flat c.value_held.ensures.same

pub value_held-requires-2-clause-operand : goal.value_held-requires-2-clause-operand
value_held-requires-2-clause-operand g c =
    subst (λ (x : FlatStack). HasOperands (0 + 1) x.cells) (sym c.value_held.ensures.same)
    (fewer_operands (0 + 1) (1 + 1) _ (omega arith) (operands_there 1 c.args.frames.now.flat c.requires.operands))

pub value_held-requires-2-clause-live : goal.value_held-requires-2-clause-live
value_held-requires-2-clause-live g c = (
  c.requires.live.0,
  subst (λ (x : FlatStack). IsLiveStack c.requires.live.0 (reach_of c.args.world.now []) x) (sym c.value_held.ensures.same) c.requires.live.1,
)

pub returns-in_default-value_held-2 : goal.returns-in_default-value_held-2
returns-in_default-value_held-2 g c tables =
    not_turned tables (Instrs.Op Ops.ReversibleAssign) c.args.world.now c.args.frames.now.flat c.value_held-2.new.frames.flat
    (c.value_held-2.ensures.same ∙ c.value_held.ensures.same)

pub drop_with-requires : goal.drop_with-requires
drop_with-requires g c =
    subst (λ (x : FlatStack). HasOperands (1 + 1) x.cells) (sym (c.value_held-2.ensures.same ∙ c.value_held.ensures.same))
    (operands_there 1 c.args.frames.now.flat c.requires.operands)

pub suspend_row-requires : goal.suspend_row-requires
suspend_row-requires g c = record { plain = subst (λ (o : Option Item). IsSome o) (sym c.in-Some.ensures) refl }

pub put_into-requires-clause-live : goal.put_into-requires-clause-live
put_into-requires-clause-live g c = (
  own_locals c.args.frames.now.flat,
  root_live c.requires.live.0 c.args.world.now c.args.frames.now.flat 1 c.slot_below-slot.result c.in-Some.root c.requires.live.1
      (operands_there 1 c.args.frames.now.flat c.requires.operands) c.slot_below-slot.ensures c.in-Some.ensures,
)

pub put_into-requires-clause-there : goal.put_into-requires-clause-there
put_into-requires-clause-there g c = c.is_in_world.ensures c.if-not-is_in_world.false

pub put_into-requires-clause-value : goal.put_into-requires-clause-value
put_into-requires-clause-value g c = c.in-Some-value_held-2.ensures.live

pub returns-in-Ok : goal.returns-in-Ok
returns-in-Ok g c tables =
    let w = c.args.world.now in
    let v = c.put_into.new.world in
    let m = c.args.frames.now.flat in
    let f = c.value_held-2.new.frames.flat in
    let k = c.drop_with.new.self.flat in
    let n = c.suspend_row.new.self.flat in
    let root = c.in-Some.root in
    let same : f ≡ m = c.value_held-2.ensures.same ∙ c.value_held.ensures.same in
    let d = c.drop_with.ensures.drops in
    subst (λ (x : FlatStack). DoesAsTurn tables (Instrs.Op Ops.ReversibleAssign) w x v n AtOnces.Running) same
    (reverses c.requires.live.0 tables w v f k n root c.in-Some-value_held.old c.in-Some-value_held-2.val d
    (subst (λ (x : FlatStack). IsLiveStack c.requires.live.0 (reach_of w []) x) (sym same) c.requires.live.1)
    (λ x cells. c.slot_below-slot.ensures x (variable_item root) d.items _ (ap (λ (y : FlatStack). y.cells) (sym same) ∙ cells) d.many c.in-Some.ensures)
    (c.is_in_world.ensures c.if-not-is_in_world.false)
    (subst (λ (x : FlatStack). FindsBelow w x 1 c.in-Some-value_held.old) (sym same) c.in-Some-value_held.ensures.found)
    (subst (λ (x : FlatStack). FindsBelow w x 0 c.in-Some-value_held-2.val) (sym c.value_held-2.ensures.same) c.in-Some-value_held-2.ensures.found)
    c.in-Some-value_held.ensures.live (c.put_into.ensures.puts c.if-not-put_into.false) (c.put_into.ensures.kept c.if-not-put_into.false).items
    (c.put_into.ensures.counts c.if-not-put_into.false) c.local_count.ensures.same
    (c.in-Ok.ensures.ok (variable_item root) c.in-Some.ensures))

pub returns-in-Err : goal.returns-in-Err
returns-in-Err g c tables =
    memory_turned tables (Instrs.Op Ops.ReversibleAssign) c.args.world.now c.put_into.new.world c.args.frames.now.flat c.suspend_row.new.self.flat

pub returns-then-not-put_into : goal.returns-then-not-put_into
returns-then-not-put_into g c tables =
    memory_turned tables (Instrs.Op Ops.ReversibleAssign) c.args.world.now c.put_into.new.world c.args.frames.now.flat c.value_held-2.new.frames.flat
