use Rattle.icn_value.specs.Store.{bare_outside}
use Rattle.test_rows.proofs.NamesKept.{key_comes}
use Rattle.test_rows.proofs.structures.calls.next.Goals as goal

pub returns-in-Table-clause-named : goal.returns-in-Table-clause-named
returns-in-Table-clause-named c =
    key_comes c.args.w.now c.args.l.now.vals.items _ _ c.key_again.result c.requires.named (c.key_again.ensures.row bare_outside)
