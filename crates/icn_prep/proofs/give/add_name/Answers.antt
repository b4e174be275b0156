use Rattle.std.proofs.Common.{arith}
use Rattle.icn_prep.proofs.LineLengths.{files_stay}
use Rattle.icn_prep.proofs.give.add_name.Goals as goal

pub invariant_of-reading-clause-named : goal.invariant_of-reading-clause-named
invariant_of-reading-clause-named c =
    files_stay c.args.reading.now.names.items c.push.new.self.items c.args.reading.now.lines.items c.args.reading.now.named (omega (arith, c.push.ensures.len))
