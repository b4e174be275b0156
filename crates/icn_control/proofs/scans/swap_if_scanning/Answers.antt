use Rattle.icn_control.proofs.ReturnSteps.{swapped_on}
use Rattle.icn_control.proofs.scans.swap_if_scanning.Goals as goal

pub returns-then-is_scanning-clause-step : goal.returns-then-is_scanning-clause-step
returns-then-is_scanning-clause-step g c =
    swapped_on c.args.world.now c.swap_pairs.new.world c.args.frames.now.flat c.swap_pairs.new.frames.flat c.swap_pairs.ensures.stack c.swap_pairs.ensures.world
    c.swap_pairs.ensures.same.heap
