use Rattle.std.proofs.Common.{refl, sym, subst}
use Rattle.icn_heap.specs.Heaps.{extent_of}
use Rattle.icn_vars.specs.Worlds.{Reach}
use Rattle.icn_control.specs.LiveStacks.{IsLiveStack}
use Rattle.icn_control.proofs.OpenedScans.{first_position, opens, opens_live}
use Rattle.icn_control.proofs.opening.open_over.Goals as goal

pub set_pair-requires : goal.set_pair-requires
set_pair-requires g c = first_position (extent_of c.args.world.now.heap) c.args.text c.requires

pub returns-clause-step : goal.returns-clause-step
returns-clause-step g c =
    opens c.args.world.now c.set_pair.new.world c.args.frames.now.flat c.suspend_scan.new.self.flat c.args.text _ c.in_ok-suspend_scan.ensures.ok refl
    c.set_pair.ensures.world c.set_pair.ensures.same.heap

pub returns-clause-live : goal.returns-clause-live
returns-clause-live g c t k =
    subst (λ (r : Reach). IsLiveStack t r c.suspend_scan.new.self.flat) (sym c.set_pair.ensures.same.reach)
    (opens_live t c.args.world.now c.args.frames.now.flat c.suspend_scan.new.self.flat c.in_ok-suspend_scan.ensures.ok k)
