use Rattle.std.proofs.Common.{Option, subst}
use Rattle.std.specs.Prelude.{IfSome}
use Rattle.icn_value.specs.declared.val.Val.{Val}
use Rattle.icn_heap.specs.Extents.{IsLive}
use Rattle.icn_heap.specs.Heaps.{extent_of}
use Rattle.icn_machine.specs.HeldValues.{FindsBelow}
use Rattle.icn_machine.proofs.HeldValueSteps.{below_told_live, told_below}
use Rattle.icn_machine.proofs.held_values.value_told_or_read.Goals as goal

pub returns-in-Some-clause-live : goal.returns-in-Some-clause-live
returns-in-Some-clause-live g c =
    subst (λ (r : Option Val). IfSome r (IsLive (extent_of c.args.world.now.heap))) c.in-Some.is
    (below_told_live c.requires.live.0 c.args.world.now c.args.frames.now.flat c.args.count c.value_told.result c.args.world.now.sound.live_globals
    c.requires.live.1 c.requires.operand c.value_told.ensures)

pub returns-in-Some-clause-found : goal.returns-in-Some-clause-found
returns-in-Some-clause-found g c =
    subst (λ (r : Option Val). IfSome r (FindsBelow c.args.world.now c.args.frames.now.flat c.args.count)) c.in-Some.is
    (told_below c.args.world.now c.args.frames.now.flat c.args.count c.value_told.result c.value_told.ensures)
