use Rattle.std.proofs.Common.{sym, ap, ◌∙◌, subst, Option}
use Rattle.std.specs.List.{flat_map}
use Rattle.icn_frames.specs.Stacks.{FlatStack}
use Rattle.icn_heap.specs.NeededValues.{AreNeeded}
use Rattle.icn_heap.proofs.NeededSteps.{needed_then}
use Rattle.icn_control.specs.NeededStacks.{coexp_vals, running_vals}
use Rattle.icn_control.proofs.NeededCells.{entries_vals}
use Rattle.icn_control.proofs.collecting.add_stacks.Goals as goal

pub returns : goal.returns
returns g c =
    let running = subst (λ (o : Option FlatStack). AreNeeded c.args.needed.now c.add_running.new.needed (running_vals o))
    (sym c.running.ensures) c.in_ok-add_running.ensures in
    let coexps = subst (AreNeeded c.add_running.new.needed c.add_coexps.new.needed)
    (sym (ap (flat_map coexp_vals) c.entries.ensures ∙ entries_vals c.entries.result.now)) c.in_ok-add_coexps.ensures in
    needed_then running coexps
