use Rattle.icn_link.proofs.CalledNames.{name_there, name_unknown}
use Rattle.icn_link.proofs.invocables.check_decl.Goals as goal

pub returns-then-may_be_called-clause-none : goal.returns-then-may_be_called-clause-none
returns-then-may_be_called-clause-none c =
    name_there c.args.owned.now.keys c.args.decl.now c.in-Invocable.text c.as_slice-name.result c.may_be_called.result c.in-Invocable.is
    c.as_slice-name.ensures c.may_be_called.ensures c.if-may_be_called.true

pub returns-else-may_be_called-clause-fault : goal.returns-else-may_be_called-clause-fault
returns-else-may_be_called-clause-fault c =
    name_unknown c.args.owned.now.keys c.args.decl.now c.in-Invocable.text c.as_slice-name.result c.may_be_called.result c.args.index
    c.unknown.result
    c.in-Invocable.is c.as_slice-name.ensures c.may_be_called.ensures c.if-may_be_called.false c.unknown.ensures
