use Rattle.icn_value.specs.Store.{bare_outside}
use Rattle.test_rows.proofs.NamesKept.{function_comes}
use Rattle.test_rows.proofs.structures.calls.apply_to_values.Goals as goal

pub returns-in-Key-clause-named : goal.returns-in-Key-clause-named
returns-in-Key-clause-named c =
    function_comes c.args.func c.args.w.now c.args.w.now c.args.l.now.vals.items c.args.args.now c.key.result c.requires.named c.requires.args_named
    c.requires.args (rw c.in-Key.is (c.key.ensures.row bare_outside))
