use Rattle.std.proofs.Common.{◌≡◌, ◌≤◌, ◌+◌, take}
use Rattle.std.specs.List.{count_by}
use Rattle.icn_code.specs.CodeTables.{tables_of}
use Rattle.icn_heap.specs.Heaps.{heap_of}
use Rattle.icn_run.specs.Step.{all_names}
use Rattle.icn_running.proofs.RecordNumbers.{is_namesake}
use Rattle.icn_running.proofs.shown.record_number.Given as goal

-- the records of that name so far are counted
abbrev pub invariant-loop-other : goal.invariant-loop-other
invariant-loop-other l = record {
  count : l.number ≡ 1 + count_by (is_namesake (all_names (tables_of l.code)) l.heap l.id) (take l.other (heap_of l.heap).records);
  small : l.number ≤ l.other + 1;
}
