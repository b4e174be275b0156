use Rattle.std.proofs.Common.{[]}
use Rattle.icn_value.specs.Store.{Outside}
use Rattle.icn_vars.specs.Worlds.{reach_of}
use Rattle.icn_code.specs.Codes.{Tables}
use Rattle.icn_run.specs.Step.{all_names}
use Rattle.std.proofs.Common.{refl}
use Rattle.icn_control.specs.FailingMachines.{DueAt}
use Rattle.icn_control.specs.FailingStacks.{FallsAlone, due_of}
use Rattle.icn_control.specs.LiveStacks.{StaysLive}
use Rattle.icn_control.specs.Machines.{IsSoundMachine}
use Rattle.icn_control.proofs.FailingMachineSteps.{due_at}
use Rattle.icn_control.proofs.MachineSteps.{stacks_on}
use Rattle.icn_machine.proofs.FailingAtOnce.{same_on, some_so}
use Rattle.icn_machine.proofs.FailingSteps.{failed}
use Rattle.icn_machine.proofs.InPlaceSteps.{on_stack}
use Rattle.icn_machine.proofs.failing.fall_here.Goals as goal

pub returns-clause-due : goal.returns-clause-due
returns-clause-due g c =
    let m = c.args.m.now in
    let f = c.frames.result.now.flat in
    let s = c.fall_at_once.new.frames in
    some_so c.fall_at_once.result (λ fallen. FallsAlone f s.flat (due_of fallen))
    (λ fallen. (tables : Tables) (outside : Outside) → DueAt tables outside (failed tables m outside) (on_stack m s) (due_of fallen))
    (λ fallen falls tables outside. due_at (all_names tables) outside tables m.world m.world m.turns m.begun.items m.stacks.table f s.flat (due_of fallen)
    c.frames.ensures.running refl (λ st same. falls m.world tables st same)) c.fall_at_once.ensures.step

pub returns-clause-sound : goal.returns-clause-sound
returns-clause-sound g c =
    let m = c.args.m.now in
    let f = c.frames.result.now.flat in
    let s = c.fall_at_once.new.frames in
    some_so c.fall_at_once.result (λ fallen. StaysLive f s.flat)
    (λ fallen. (tables : Tables) → IsSoundMachine tables m → IsSoundMachine tables (on_stack m s))
    (λ fallen live tables k. record {
      stacks = stacks_on tables (reach_of m.world []) m.stacks.table f s.flat c.frames.ensures.running (live tables (reach_of m.world [])) k.stacks;
      bounds = k.bounds;
      counts = k.counts;
      counted = record { results = k.counted.results; activators = k.counted.activators };
    }) c.fall_at_once.ensures.live

pub returns-clause-not_done : goal.returns-clause-not_done
returns-clause-not_done g c q =
    same_on c.args.m.now c.fall_at_once.new.frames c.frames.result.now c.frames.ensures.running c.frames.ensures.spare (c.fall_at_once.ensures.not_done q)
