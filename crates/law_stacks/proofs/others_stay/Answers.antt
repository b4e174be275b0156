use Rattle.icn_run.specs.Stacks.{flat}
use Rattle.icn_run.specs.Chains.{linked_calls}
use Rattle.law_stacks.proofs.OthersStay.{others_stay}
use Rattle.law_stacks.proofs.others_stay.Goals as goal

pub returns : goal.returns
returns c = record { on_stacks = λ code. others_stay flat code; on_marks = λ repeats code. others_stay (linked_calls repeats) code }
