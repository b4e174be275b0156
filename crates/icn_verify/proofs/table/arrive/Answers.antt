use Rattle.std.proofs.Common.{sym, ap, ◌∙◌}
use Rattle.icn_verify.specs.Passing.{with_arrival}
use Rattle.icn_verify.specs.Stacks.{table_in, sent_in}
use Rattle.icn_verify.proofs.SlotTables.{arrived_at}
use Rattle.icn_verify.proofs.table.arrive.Goals as goal

pub returns-then-address-slots-clause-table : goal.returns-then-address-slots-clause-table
returns-then-address-slots-clause-table c =
    arrived_at c.args.arena.now c.args.slots.now c.in-Some.address c.join_slots-slot.result c.slot_at.result c.in-Some.flat c.slot_at.ensures
    c.join_slots-slot.ensures.seen
    ∙ ap (λ t. with_arrival (table_in c.args.arena.now c.args.slots.now) (sent_in c.args.arena.now t)) (sym c.in-Some.is)
