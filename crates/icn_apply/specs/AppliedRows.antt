-- Which row what is applied is.
use Rattle.icn_defs.specs.StepRows.{OperationOrFunction, Operation, Function}
use Rattle.icn_apply.specs.declared.applied.Applied.{Applied as HeldApplied}
use Rattle.icn_apply.specs.declared.applied.Applied.TheVariants.{Op, Func}

-- the operation or the function that is applied, as definitions see it
abbrev pub applied_of : HeldApplied → OperationOrFunction
applied_of (Op op) = Operation op
applied_of (Func func) = Function func
