-- What is stopped by an error takes no memory.
use Rattle.std.proofs.Common.{◌≡◌, Result, Ok, Err, sym, subst}
use Rattle.std.specs.Prelude.{IfErr, IsErrAnd}
use Rattle.icn_vars.specs.Assignments.{IsError}
use Rattle.icn_vars.specs.declared.stop.Stop.{Stop}

pub error_alone : {A : Type 0} (stop : Stop) (result : Result A Stop) → IsError stop → IsErrAnd result (λ other. other ≡ stop) → IfErr result IsError
error_alone stop (Ok a) is same = absurd same
error_alone stop (Err other) is same = subst IsError (sym same) is
