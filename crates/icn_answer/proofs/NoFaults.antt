-- Answers that are no faults.
use Rattle.std.proofs.Common.{◌≡◌, true, false, refl, sym, ◌∙◌}
use Rattle.icn_defs.specs.declared.ending.Ending.{Ending}
use Rattle.icn_answer.specs.declared.answer.Answer.{Answer}
use Rattle.icn_answer.specs.declared.answer.Answer.TheVariants.{Wrote, Ran}
use Rattle.icn_answer.specs.Answers.{IsFault, is_fault}

-- an answer that is tested to be no fault is none
pub no_fault : (answer : Answer) → is_fault answer ≡ false → IsFault answer → ⊥
no_fault answer e f = let both : true ≡ false = sym f ∙ e in cc

pub ran_no_fault : (ending : Ending) → IsFault (Ran ending) → ⊥
ran_no_fault ending = no_fault (Ran ending) refl

pub wrote_no_fault : IsFault Wrote → ⊥
wrote_no_fault = no_fault Wrote refl
