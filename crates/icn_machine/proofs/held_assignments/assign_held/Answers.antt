use Rattle.std.proofs.Common.{◌≡◌, ◌+◌, ◌<◌, ◌∙◌, List, ap, arith, length, refl, subst, sym, ℕ}
use Rattle.icn_text.specs.declared.op.Op.TheVariants as Ops
use Rattle.icn_value.specs.declared.val.Val.{Val}
use Rattle.icn_frames.specs.CalledWith.{HasOperands}
use Rattle.icn_frames.specs.Stacks as held
use Rattle.icn_frames.specs.Stacks.{FlatStack}
use Rattle.icn_machine.specs.HeldValues.{FindsBelow}
use Rattle.icn_machine.specs.PlainOperations.{local_item}
use Rattle.icn_machine.proofs.HeldAssignments.{assigns_held}
use Rattle.icn_machine.proofs.PlainCallSteps.{operands_there}
use Rattle.icn_machine.proofs.PlainFunctionSteps.{fewer_operands}
use Rattle.icn_machine.proofs.PlainOperationSteps.{length_set}
use Rattle.icn_machine.proofs.ValueOperationSteps.{performed_after, unchanged_so}
use Rattle.icn_machine.proofs.held_assignments.assign_held.Goals as goal

pub slot_below-lower-requires : goal.slot_below-lower-requires
slot_below-lower-requires g c = operands_there 1 c.args.frames.now.flat c.requires.operands

pub returns-in_default : goal.returns-in_default
returns-in_default g c = unchanged_so c.args.world.now Ops.Assign c.args.frames.now.flat c.args.frames.now.flat refl

pub returns-then-index-count : goal.returns-then-index-count
returns-then-index-count g c = unchanged_so c.args.world.now Ops.Assign c.args.frames.now.flat c.args.frames.now.flat refl

pub value_held-requires-clause-operand : goal.value_held-requires-clause-operand
value_held-requires-clause-operand g c =
    fewer_operands (0 + 1) (1 + 1) _ (omega arith) (operands_there 1 c.args.frames.now.flat c.requires.operands)

pub value_held-requires-clause-live : goal.value_held-requires-clause-live
value_held-requires-clause-live g c = c.requires.live

pub returns-in_default-value_held : goal.returns-in_default-value_held
returns-in_default-value_held g c =
    unchanged_so c.args.world.now Ops.Assign c.args.frames.now.flat c.value_held.new.frames.flat c.value_held.ensures.same

pub returns-then-not-is_nameless : goal.returns-then-not-is_nameless
returns-then-not-is_nameless g c =
    unchanged_so c.args.world.now Ops.Assign c.args.frames.now.flat c.value_held.new.frames.flat c.value_held.ensures.same

pub drop_with-requires : goal.drop_with-requires
drop_with-requires g c =
    subst (λ (x : FlatStack). HasOperands (1 + 1) x.cells) (sym c.value_held.ensures.same) (operands_there 1 c.args.frames.now.flat c.requires.operands)

-- the local is one of those of the stack below
within : (m f k : FlatStack) (index count left : ℕ) → index < count → count ≡ held.local_count m → count ≡ length (held.locals m) → f ≡ m
    → held.locals f ≡ held.locals k → left ≡ held.local_count k → left ≡ length (held.locals k) → index < held.local_count k
within m f k index count left few seen all same locals seen_below all_below =
    subst (λ (n : ℕ). index < n)
    (all ∙ ap (λ (x : FlatStack). length (held.locals x)) (sym same) ∙ ap (λ (vs : List Val). length vs) locals ∙ sym all_below ∙ seen_below) few

pub set_local-requires : goal.set_local-requires
set_local-requires g c =
    within c.args.frames.now.flat c.value_held.new.frames.flat c.drop_with.new.self.flat c.in-Some.index c.local_count-count.result c.local_count.result
    c.if-index-count.false c.local_count-count.ensures.count c.local_count-count.ensures.all c.value_held.ensures.same
    c.drop_with.ensures.drops.locals_same c.local_count.ensures.count c.local_count.ensures.all

pub put_slot-requires-clause-room : goal.put_slot-requires-clause-room
put_slot-requires-clause-room g c = omega (arith, c.drop_with.ensures.spare, c.set_local.ensures.spare)

pub returns : goal.returns
returns g c =
    let w = c.args.world.now in
    let m = c.args.frames.now.flat in
    let f = c.value_held.new.frames.flat in
    let k = c.drop_with.new.self.flat in
    let l = c.set_local.new.self.flat in
    let index = c.in-Some.index in
    let val = c.in-Some-value_held.val in
    let same : f ≡ m = c.value_held.ensures.same in
    let d = c.drop_with.ensures.drops in
    let own : index < held.local_count k
    = within m f k index c.local_count-count.result c.local_count.result c.if-index-count.false c.local_count-count.ensures.count
    c.local_count-count.ensures.all same d.locals_same c.local_count.ensures.count c.local_count.ensures.all in
    let count : held.local_count l ≡ held.local_count k
    = sym c.local_count-2.ensures.count ∙ c.local_count-2.ensures.all ∙ ap (λ (vs : List Val). length vs) c.set_local.ensures.locals
    ∙ length_set (held.locals k) index val ∙ sym c.local_count.ensures.all ∙ c.local_count.ensures.count in
    performed_after w Ops.Assign m f c.put_slot.new.frames.flat _ same
    (assigns_held w f k l c.put_slot.new.frames.flat index val d
    (λ x cells. c.slot_below-lower.ensures x (local_item index) d.items _ (ap (λ (y : FlatStack). y.cells) (sym same) ∙ cells) d.many c.in-Some.ensures)
    (subst (λ (x : FlatStack). FindsBelow w x 0 val) (sym same) c.in-Some-value_held.ensures.found)
    (sym c.is_nameless.ensures ∙ c.if-not-is_nameless.false) c.in-Some-value_held.ensures.live c.set_local.ensures.flat
    (subst (λ (n : ℕ). index < n) (sym count) own) (c.put_slot.ensures.flat _ refl))
