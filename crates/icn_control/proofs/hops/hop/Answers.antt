use Rattle.std.proofs.Common.{sym, ap, ◌∙◌, subst}
use Rattle.icn_heap.specs.Heaps.{extent_of}
use Rattle.icn_vars.specs.Worlds.{world_of}
use Rattle.icn_coexp.specs.Transfers.{CoexpTable, active_status}
use Rattle.icn_run.specs.Stacks.{Frames}
use Rattle.icn_run.specs.Step.{State, all_names}
use Rattle.icn_control.specs.TransfersRead.{Beside}
use Rattle.icn_control.specs.Machines.{StandsAt}
use Rattle.icn_control.proofs.ActivationSteps.{hop_exhausts, reached_other}
use Rattle.icn_control.proofs.hops.hop.Goals as goal

pub pass_failure-requires-clause-other : goal.pass_failure-requires-clause-other
pass_failure-requires-clause-other g c =
    let t : CoexpTable = c.args.m.now.stacks.table in
    reached_other t (c.active.ensures.one.here ∙ ap active_status c.requires.due) c.active.ensures.never

pub returns-clause-step : goal.returns-clause-step
returns-clause-step g c tables outside old =
    let m = c.args.m.now in
    let t : CoexpTable = m.stacks.table in
    let beside : Beside =
    record { names = all_names tables; outside = outside; world = world_of m.world; turns = m.turns; begun = m.begun.items; all = extent_of m.world.heap } in
    subst (λ (s : State Frames Frames). StandsAt tables outside s c.pass_failure.new.m c.pass_failure.result)
    (sym (hop_exhausts tables beside t old (c.active.ensures.one.here ∙ ap active_status c.requires.due)))
    (c.pass_failure.ensures.step tables outside old)
