use Rattle.std.proofs.Common.{◌+◌, None, Some, arith, sym, subst, drop, slice_index_or}
use Rattle.std.proofs.lemmas.List.{drop_more}
use Rattle.icn_verify.specs.Stacks.{table_in}
use Rattle.icn_code.specs.declared.instr.Instr.TheVariants.{Pnull}
use Rattle.icn_verify.specs.ShapeCounts.{IsLowTable}
use Rattle.icn_verify.proofs.RisingCounts.{finds_room, low_sent}
use Rattle.icn_verify.proofs.SlotTables.{judged_on, judged_all}
use Rattle.icn_verify.proofs.pass.judge.Goals as goal

pub loop-address-preserved : goal.loop-address-preserved
loop-address-preserved c = record {
  kept = c.in_ok-send-in-None.ensures.kept;
  few = omega (arith, c.in_ok-send-in-None.ensures.more, c.loop-address.invariant.few);
  low = subst (IsLowTable (c.loop-address.address + 1)) (sym c.in_ok-send-in-None.ensures.table)
      (low_sent c.loop-address.address
      (table_in c.loop-address.arena c.loop-address.slots) c.loop-address.invariant.low c.loop-address.address _ (sym c.in-None.ensures));
  is = judged_on (table_in c.loop-address.arena c.loop-address.slots) (table_in c.send.new.arena c.send.new.slots) c.loop-address.address
      (drop c.loop-address.address c.args.instrs.now) _ (drop (c.loop-address.address + 1) c.args.instrs.now) _ c.loop-address.invariant.is
      (drop_more c.args.instrs.now c.loop-address.address _ c.loop-address-test.true) (sym c.in-None.ensures) c.in_ok-send-in-None.ensures.table;
}

pub returns-in-Some-rule_at_end : goal.returns-in-Some-rule_at_end
returns-in-Some-rule_at_end c =
    judged_all c.loop-address.arena c.loop-address.slots c.args.instrs.now c.loop-address.address c.slot_at.result
    (Some c.in-Some-rule_at_end.rule) _ c.loop-address.invariant.is c.loop-address-test.false c.loop-address.auto.address-end c.slot_at.ensures
    (c.in-Some-rule_at_end.ensures c.loop-address.arena)

pub returns-in-None-rule_at_end : goal.returns-in-None-rule_at_end
returns-in-None-rule_at_end c =
    judged_all c.loop-address.arena c.loop-address.slots c.args.instrs.now c.loop-address.address c.slot_at.result None
    _ c.loop-address.invariant.is c.loop-address-test.false c.loop-address.auto.address-end c.slot_at.ensures
    (c.in-None-rule_at_end.ensures c.loop-address.arena)

pub send-requires-clause-counts : goal.send-requires-clause-counts
send-requires-clause-counts c =
    finds_room c.loop-address.address (table_in c.loop-address.arena c.loop-address.slots) c.loop-address.invariant.low c.loop-address.address
    (slice_index_or c.args.instrs.now c.loop-address.address Pnull)
    (omega (arith, c.requires.room, c.loop-address-test.true)) (sym c.in-None.ensures)
