use Rattle.std.proofs.Common.{◌≡◌, ◌++◌, replicate}
use Rattle.icn_value.specs.declared.val.Val.TheVariants.{Null}
use Rattle.icn_calls.proofs.arguments.add_nulls.Given as goal

abbrev pub invariant-loop-i : goal.invariant-loop-i
invariant-loop-i l = record { is : l.vals.items ≡ l.initial.vals.items ++ replicate l.i Null }
