use Rattle.icn_verify.proofs.KeptStacks.{kept_held}
use Rattle.icn_verify.proofs.SlotTables.{sent_by}
use Rattle.icn_verify.proofs.pass.send_one.Goals as goal

pub arrive-requires-2-clause-held : goal.arrive-requires-2-clause-held
arrive-requires-2-clause-held c =
    c.forward_by.ensures.held c.shape_after.new.arena (kept_held _ _ c.args.flat.outer c.in_ok-left.ensures.grows c.requires.held) c.in_ok-left.ensures.held

pub returns-clause-table : goal.returns-clause-table
returns-clause-table c =
    sent_by c.args.arena.now c.shape_after.new.arena c.in_ok-left.ensures.grows c.args.slots.now c.arrive.new.slots c.arrive-2.new.slots c.requires.kept
    c.args.flat
    c.in_ok-left.left c.requires.held c.row_of-row.result c.args.instr c.row_of-row.ensures c.args.address
    c.in_ok-left.ensures.shape _ _ c.next_by.ensures.to (c.forward_by.ensures.to c.shape_after.new.arena) c.arrive.ensures.table c.arrive-2.ensures.table
