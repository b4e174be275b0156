use Rattle.std.proofs.Common.{arith}
use Rattle.icn_scanfn.proofs.PlaceByPlace.{balanced_at_zero}
use Rattle.icn_scanfn.proofs.searching.is_balanced_member.Goals as goal

pub returns-then-count-eq0 : goal.returns-then-count-eq0
returns-then-count-eq0 c = balanced_at_zero c.args.wanted.now c.args.byte c.args.count c.has.result (omega arith) (omega arith) c.has.ensures
