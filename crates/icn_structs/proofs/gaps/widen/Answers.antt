use Rattle.std.proofs.Common.{subst, sym, inr}
use Rattle.icn_structs.specs.Counts.{IsPowerOfTwo}
use Rattle.icn_structs.proofs.GapSums.{one_is_power, twice_is_power}
use Rattle.icn_structs.proofs.gaps.widen.Goals.{then-width-eq0, else-width-eq0}
use Rattle.icn_structs.proofs.gaps.widen.Goals as goal

pub returns-clause-counted : goal.returns-clause-counted
returns-clause-counted c = record {
  power = inr (elim c.if-width-eq0.branch [
    | then-width-eq0 w ↦ subst IsPowerOfTwo (sym w.wider-is) one_is_power
    | else-width-eq0 w ↦ subst IsPowerOfTwo (sym w.wider-is) (twice_is_power c.args.width c.requires.counted.power w.if-width-eq0.false)
  ]);
  counted = c.recount.ensures.counted;
}
