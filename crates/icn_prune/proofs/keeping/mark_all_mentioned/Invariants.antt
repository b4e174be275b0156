use Rattle.icn_code.specs.CodeTables.{tables_of}
use Rattle.icn_prune.specs.KeptCode.{mentioned_by}
use Rattle.icn_prune.proofs.KeptMarks.{Walks}
use Rattle.icn_prune.proofs.keeping.mark_all_mentioned.Given as goal

abbrev pub invariant-loop-place : goal.invariant-loop-place
invariant-loop-place l =
    Walks (mentioned_by (tables_of l.code)) l.initial.marks.keep.items l.marks.keep.items l.marks.met.items l.place
