use Rattle.std.proofs.Common.{◌≡◌, ◌≤◌, ◌+◌, length, drop}
use Rattle.icn_verify.specs.Passing.{first_fault}
use Rattle.icn_verify.specs.Stacks.{AreKept, table_in}
use Rattle.icn_verify.specs.ShapeCounts.{IsLowTable}
use Rattle.icn_verify.proofs.pass.judge.Given as goal

abbrev pub invariant-loop-address : goal.invariant-loop-address
invariant-loop-address l = record {
  kept : AreKept l.arena l.slots;
  few : length l.arena ≤ l.address + 1;
  low : IsLowTable l.address (table_in l.arena l.slots);
  is : first_fault (table_in l.arena l.slots) l.address (drop l.address l.instrs) ≡ first_fault (table_in l.fn.arena l.fn.slots) 0 l.instrs;
}
