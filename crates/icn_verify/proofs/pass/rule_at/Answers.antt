use Rattle.std.proofs.Common.{sym, ap, ◌∙◌}
use Rattle.icn_verify.specs.Passing.{rule_at}
use Rattle.icn_verify.specs.Stacks.{table_in}
use Rattle.icn_verify.proofs.SlotTables.{at_slot_is}
use Rattle.icn_verify.proofs.pass.rule_at.Goals as goal

pub returns-in-One : goal.returns-in-One
returns-in-One c =
    c.rule_of_one.ensures
    ∙ ap (rule_at (table_in c.args.arena.now c.args.slots.now) c.args.address c.args.instr)
    (sym (at_slot_is c.args.arena.now c.args.slots.now c.args.address _ c.in-One.ensures))
