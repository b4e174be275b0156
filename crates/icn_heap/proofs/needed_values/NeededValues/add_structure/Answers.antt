use Rattle.std.proofs.Common.{refl}
use Rattle.icn_heap.proofs.NeededSteps.{needed_structure}
use Rattle.icn_heap.proofs.needed_values.NeededValues.add_structure.Goals as goal

pub returns : goal.returns
returns c = needed_structure c.args.self.now _ c.args.val c.requires c.in_ok-push.ensures.items refl
