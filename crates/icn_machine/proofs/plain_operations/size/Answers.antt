use Rattle.std.proofs.Common.{◌≡◌, ◌∙◌, ℤ, ap, arith, pos, refl, w64}
use Rattle.std.proofs.lemmas.Int.{to_z_pos}
use Rattle.icn_text.specs.declared.op.Op.TheVariants as Ops
use Rattle.icn_value.specs.declared.item.Item.TheVariants as Items
use Rattle.icn_value.specs.declared.val.Val.TheVariants as Vals
use Rattle.icn_frames.specs.Stacks as held
use Rattle.icn_machine.proofs.PlainCallSteps.{operands_there}
use Rattle.icn_machine.proofs.PlainFunctionSteps.{top_live}
use Rattle.icn_machine.proofs.InWorldSteps.{same_in_world, sizes}
use Rattle.icn_machine.proofs.plain_operations.size.Goals as goal

pub value_told-requires : goal.value_told-requires
value_told-requires g c = operands_there 0 c.args.frames.now.flat c.requires.operands

pub returns-in_default : goal.returns-in_default
returns-in_default g c = same_in_world c.args.world.now Ops.Size c.args.frames.now.flat

pub size-requires : goal.size-requires
size-requires g c =
    top_live c.requires.live.0 c.args.world.now c.args.frames.now.flat c.in-Some.val c.args.world.now.sound.live_globals c.requires.operands
    c.requires.live.1 c.in-Some.ensures

pub returns-in_default-size : goal.returns-in_default-size
returns-in_default-size g c = same_in_world c.args.world.now Ops.Size c.args.frames.now.flat

pub drop_with-requires : goal.drop_with-requires
drop_with-requires g c = operands_there 0 c.args.frames.now.flat c.requires.operands

pub put_slot-requires-clause-room : goal.put_slot-requires-clause-room
put_slot-requires-clause-room g c = omega (arith, c.drop_with.ensures.spare)

pub returns : goal.returns
returns g c =
    let k = c.drop_with.new.self.flat in
    let n = c.in-Some-size.n in
    let pushed : c.put_slot.new.frames.flat ≡ held.push (Items.Val (Vals.Integer (pos n))) k
    = c.put_slot.ensures.flat _ refl ∙ ap (λ (i : ℤ). held.push (Items.Val (Vals.Integer i)) k) (to_z_pos w64 n c.in-Some-size.ensures.small) in
    sizes c.args.world.now c.args.frames.now.flat k c.put_slot.new.frames.flat n c.in-Some.val c.drop_with.ensures.drops c.in-Some.ensures
    c.local_count.ensures.same c.in-Some-size.ensures.size pushed
