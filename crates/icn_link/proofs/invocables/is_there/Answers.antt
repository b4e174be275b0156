use Rattle.icn_link.proofs.CalledNames.{function_there, held_there}
use Rattle.icn_link.proofs.invocables.is_there.Goals as goal

pub returns-then-contains : goal.returns-then-contains
returns-then-contains c = held_there c.args.text.now c.args.owned.now.keys c.contains.result c.contains.ensures c.if-contains.true

pub returns-else-contains : goal.returns-else-contains
returns-else-contains c =
    function_there c.args.text.now c.args.owned.now.keys c.contains.result c.is_some.result c.function_named.result c.contains.ensures
    c.if-contains.false c.function_named.ensures c.is_some.ensures
