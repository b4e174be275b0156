use Rattle.std.proofs.Common.{◌≡◌, ℕ, Some, drop, length}
use Rattle.std.specs.Prelude.{slice_get}
use Rattle.std.specs.List.{flat_map}
use Rattle.icn_code.specs.CodeTables.{tables_of}
use Rattle.icn_defs.specs.KeptProcedures.{with_kept}
use Rattle.icn_prune.proofs.KeptMarks.{mentions_by}
use Rattle.icn_prune.proofs.keeping.mark_mentioned.Given as goal

abbrev pub invariant-loop-instr : goal.invariant-loop-instr
invariant-loop-instr l = record {
  left : with_kept (flat_map (mentions_by (tables_of l.code)) (drop l.instr-index l.entry.instrs.items)) l.marks.keep.items
      ≡ with_kept (flat_map (mentions_by (tables_of l.code)) l.entry.instrs.items) l.initial.marks.keep.items;
  stay : (place number : ℕ) → slice_get l.initial.marks.met.items place ≡ Some number → slice_get l.marks.met.items place ≡ Some number;
  as_many : length l.marks.keep.items ≡ length (tables_of l.code).procs;
}
