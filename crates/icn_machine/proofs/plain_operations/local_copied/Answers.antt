use Rattle.std.proofs.Common.{sym, ◌∙◌}
use Rattle.icn_frames.specs.Stacks as held
use Rattle.icn_machine.proofs.PlainOperands.{slot_of_local}
use Rattle.icn_machine.proofs.plain_operations.local_copied.Goals as goal

pub returns-then-is_plain_local : goal.returns-then-is_plain_local
returns-then-is_plain_local g c =
    let m = c.args.frames.now.flat in
    slot_of_local (held.locals m) c.args.index (held.local_count m) c.local_slot-local.result c.requires
    (sym c.local_count.ensures.count ∙ c.local_count.ensures.all) c.local_slot-local.ensures (sym c.is_plain_local.ensures ∙ c.if-is_plain_local.true)
