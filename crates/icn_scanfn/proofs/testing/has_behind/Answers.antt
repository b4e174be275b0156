use Rattle.std.proofs.Common.{◌-◌, arith, get_or}
use Rattle.icn_scanfn.proofs.PlaceByPlace.{member_below}
use Rattle.icn_scanfn.proofs.testing.has_behind.Goals as goal

pub returns-then-from-to-clause-value : goal.returns-then-from-to-clause-value
returns-then-from-to-clause-value c =
    member_below c.args.wanted.now (get_or c.args.text.now (c.args.from - 1) 0) c.args.from c.args.to c.has.result
    (omega (arith, c.type_inv.text (c.args.from - 1))) (omega arith) c.has.ensures
