use Rattle.law_simulation.specs.FirstLaw.{dropped_procedures}
use Rattle.law_verified.proofs.programs_mean.Goals as goal

pub returns : goal.returns
returns c = λ files tables launch linked rules.
    let over = c.runs_end.ensures.verified tables rules (c.joined_code_is_verified.ensures files tables linked) in
    let run = over.flat (dropped_procedures files) launch in
    (run.0, (c.same_ends.ensures.on_stacks files tables launch run.0 linked).1 run.1)
