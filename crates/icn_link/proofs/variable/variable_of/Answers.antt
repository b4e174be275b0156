use Rattle.icn_link.proofs.ReferenceTables.{held_global, held_local}
use Rattle.icn_link.proofs.variable.variable_of.Goals as goal

pub returns-then-contains : goal.returns-then-contains
returns-then-contains c = held_global c.args.globals.now.keys c.args.entry.now c.as_slice.result c.contains.result c.in-Undeclared.is c.as_slice.ensures
    c.contains.ensures c.if-contains.true

pub returns-else-contains : goal.returns-else-contains
returns-else-contains c = held_local c.args.globals.now.keys c.args.entry.now c.as_slice.result c.contains.result c.in-Undeclared.is c.as_slice.ensures
    c.contains.ensures c.if-contains.false
