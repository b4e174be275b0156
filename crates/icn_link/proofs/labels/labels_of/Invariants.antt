use Rattle.std.proofs.Common.{◌≡◌, ◌≤◌, ◌+◌, drop, ℕ}
use Rattle.std.specs.Prelude.{count_by}
use Rattle.icn_link.specs.LinkFaults.{is_instruction}
use Rattle.icn_link.specs.Resolving.{label_address}
use Rattle.icn_link.specs.Views.{address_from}
use Rattle.icn_link.proofs.labels.labels_of.Given as goal

abbrev pub invariant-loop-instr : goal.invariant-loop-instr
invariant-loop-instr l = record {
  addresses : (label : ℕ) → address_from l.labels label (drop l.instr-index l.instrs) ≡ label_address label l.instrs;
  few : l.labels.end + count_by is_instruction (drop l.instr-index l.instrs) ≤ 16777216;
}
