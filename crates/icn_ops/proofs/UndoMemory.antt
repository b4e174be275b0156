-- An undo that is no want of memory is answered as none.
use Rattle.std.proofs.Common.{◌≡◌, ◌≢◌, ◌∙◌, sym, Result, Ok, Err}
use Rattle.std.specs.Prelude.{IfErr, IsErrAnd}
use Rattle.icn_vars.specs.Assignments.{IsError}
use Rattle.icn_vars.specs.Stops.{halt_of}
use Rattle.icn_vars.specs.declared.outcome.Outcome.{Outcome}
use Rattle.icn_vars.specs.declared.outcome.Halt.{Halt}
use Rattle.icn_vars.specs.declared.outcome.Halt.TheVariants.{Error as ErrorHalt, NoMemory}
use Rattle.icn_vars.specs.declared.stop.Stop.{Stop}
use Rattle.icn_vars.specs.declared.stop.Stop.TheVariants.{Error, NoMemory as NoMemoryStop}

pub no_want : (stop : Stop) (result : Result Outcome Halt) → IsError stop → IsErrAnd result (λ halt. halt ≡ halt_of stop)
    → IfErr result (λ halt. halt ≢ NoMemory)
no_want stop (Ok outcome) is same = absurd same
no_want NoMemoryStop (Err halt) is same = absurd is
no_want (Error number offending) (Err halt) is same = λ wants. (let both : ErrorHalt number offending ≡ NoMemory = sym same ∙ wants in cc)
