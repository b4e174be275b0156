use Rattle.icn_machine.proofs.ListCalls.{list_below}
use Rattle.icn_machine.proofs.lists_in_place.list_told.Goals as goal

pub value_told-requires : goal.value_told-requires
value_told-requires g c = c.requires

pub returns : goal.returns
returns g c = list_below c.args.world.now.globals.items c.args.frames.now.flat c.args.count c.value_told.result c.list_of.result c.value_told.ensures
    c.list_of.ensures
