use Rattle.std.proofs.Common.{◌<◌, ◌∙◌, ap, arith, sym}
use Rattle.icn_value.specs.declared.val.Val.TheVariants as Vals
use Rattle.icn_frames.specs.Slots.{plain_local}
use Rattle.icn_frames.specs.Stacks as held
use Rattle.icn_machine.proofs.ToldSteps.{held_told}
use Rattle.icn_machine.proofs.told.text_held.Goals as goal

pub local_slot-requires : goal.local_slot-requires
local_slot-requires g c = omega (arith, c.local_count.ensures.count, c.if-index-local_count.false)

pub returns-in-LocalText : goal.returns-in-LocalText
returns-in-LocalText g c =
    let m = c.args.frames.now.flat in
    let within : c.args.index < held.local_count m = omega (arith, c.local_count.ensures.count, c.if-index-local_count.false) in
    held_told (held.locals m) c.args.index (held.local_count m) c.local_slot.result _ within (sym c.local_count.ensures.count ∙ c.local_count.ensures.all)
    c.local_slot.ensures (ap plain_local c.in-LocalText.is)
