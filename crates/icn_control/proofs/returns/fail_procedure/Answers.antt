use Rattle.std.proofs.Common.{sym, subst}
use Rattle.icn_heap.specs.Heaps.{extent_of}
use Rattle.icn_run.specs.Stacks.{Frames}
use Rattle.icn_run.specs.Step.{State}
use Rattle.icn_control.specs.StackAndWorld.{StandsWith}
use Rattle.icn_control.proofs.FailedProcedures.{pfail_is}
use Rattle.icn_control.proofs.returns.fail_procedure.Goals as goal

pub returns-clause-step : goal.returns-clause-step
returns-clause-step g c tables st same =
    subst (λ (s : State Frames Frames). StandsWith s st c.leave_failing.new.world c.leave_failing.new.frames.flat c.leave_failing.result)
    (sym (pfail_is (extent_of c.args.world.now.heap) c.args.frames.now.flat tables st))
    (c.leave_failing.ensures.step st same)
