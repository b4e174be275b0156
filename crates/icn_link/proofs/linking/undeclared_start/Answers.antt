use Rattle.icn_link.specs.Mentions.{function_named}
use Rattle.icn_link.proofs.ReferenceTables.{declared_null, undeclared_function}
use Rattle.icn_link.proofs.linking.undeclared_start.Goals as goal

pub returns-then-contains : goal.returns-then-contains
returns-then-contains c =
    declared_null c.args.declared.now.keys c.args.name.now c.contains.result (function_named c.args.name.now) c.contains.ensures c.if-contains.true

pub returns-in-Some : goal.returns-in-Some
returns-in-Some c =
    undeclared_function c.args.declared.now.keys c.args.name.now c.contains.result c.in-Some.func c.function_named.result (function_named c.args.name.now)
    c.contains.ensures c.if-contains.false c.function_named.ensures c.in-Some.is
