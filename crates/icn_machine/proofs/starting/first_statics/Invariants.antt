use Rattle.std.proofs.Common.{◌≡◌, ◌++◌, length, map, replicate}
use Rattle.std.specs.List.{sum_by}
use Rattle.icn_value.specs.declared.val.Val.TheVariants.{Null}
use Rattle.icn_code.specs.Codes.{proc_of}
use Rattle.icn_code.specs.CodeTables.{tables_of}
use Rattle.icn_run.specs.Step.{statics_of}
use Rattle.icn_machine.proofs.starting.first_statics.Given as goal

abbrev pub invariant-loop-first : goal.invariant-loop-first
invariant-loop-first l =
    record { is : l.vals.items ++ replicate (sum_by statics_of (map proc_of l.rest)) Null ≡ replicate (sum_by statics_of (tables_of l.code).procs) Null }

abbrev pub decreases-loop-first : goal.decreases-loop-first
decreases-loop-first l = length l.rest
