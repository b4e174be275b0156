use Rattle.std.proofs.Common.{◌≡◌, ◌-◌, ℕ, Some, length}
use Rattle.std.specs.Prelude.{slice_get}
use Rattle.std.specs.List.{range_with_len}
use Rattle.icn_code.specs.CodeTables.{tables_of}
use Rattle.icn_defs.specs.KeptProcedures.{with_kept}
use Rattle.icn_prune.proofs.keeping.mark_each.Given as goal

abbrev pub invariant-loop-number : goal.invariant-loop-number
invariant-loop-number l = record {
  left : with_kept (range_with_len l.number (length (tables_of l.code).procs - l.number)) l.marks.keep.items
      ≡ with_kept (range_with_len 0 (length (tables_of l.code).procs)) l.initial.marks.keep.items;
  stay : (place number : ℕ) → slice_get l.initial.marks.met.items place ≡ Some number → slice_get l.marks.met.items place ≡ Some number;
  as_many : length l.marks.keep.items ≡ length (tables_of l.code).procs;
}
