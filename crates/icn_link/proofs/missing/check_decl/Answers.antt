use Rattle.icn_link.proofs.LinkTexts.{link_there, link_missing}
use Rattle.icn_link.proofs.missing.check_decl.Goals as goal

pub returns-then-contains-clause-none : goal.returns-then-contains-clause-none
returns-then-contains-clause-none c =
    link_there c.args.names.now.keys c.args.decl.now c.in-Link.text c.as_slice.result c.base_of-base.result c.contains.result c.in-Link.is
    c.as_slice.ensures c.base_of-base.ensures c.contains.ensures c.if-contains.true

pub returns-else-contains-clause-fault : goal.returns-else-contains-clause-fault
returns-else-contains-clause-fault c =
    link_missing c.args.names.now.keys c.args.decl.now c.in-Link.text c.as_slice.result c.base_of-base.result c.contains.result c.args.index
    c.missing_name.result
    c.in-Link.is c.as_slice.ensures c.base_of-base.ensures c.contains.ensures c.if-contains.false c.missing_name.ensures
