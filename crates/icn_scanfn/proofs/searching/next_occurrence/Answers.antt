use Rattle.std.proofs.Common.{sym, arith}
use Rattle.icn_scanfn.proofs.Occurrences.{occurrence_found, no_occurrence}
use Rattle.icn_scanfn.proofs.searching.next_occurrence.Goals as goal

pub returns-in-Some-clause-value : goal.returns-in-Some-clause-value
returns-in-Some-clause-value c =
    sym
    (occurrence_found c.args.wanted.now c.args.text.now c.args.place c.args.last c.requires.low (omega arith) c.requires.high c.in-Some.found c.in-Some.ensures)

pub returns-in-None-clause-value : goal.returns-in-None-clause-value
returns-in-None-clause-value c =
    sym (no_occurrence c.args.wanted.now c.args.text.now c.args.place c.args.last c.requires.low (omega arith) c.requires.high c.in-None.ensures)
