use Rattle.icn_defs.specs.Running.{Errored, AtBound}
use Rattle.law_simulation.specs.FirstLaw.{with_turns, with_strings, with_cells}
use Rattle.law_simulation.proofs.FirstLawForFiles.{same_amounts}
use Rattle.law_simulation.proofs.laws.same_amounts.Goals as goal

pub returns-clause-turns : goal.returns-clause-turns
returns-clause-turns c = λ files tables. same_amounts files tables with_turns AtBound

pub returns-clause-strings : goal.returns-clause-strings
returns-clause-strings c = λ files tables. same_amounts files tables with_strings (Errored 306)

pub returns-clause-cells : goal.returns-clause-cells
returns-clause-cells c = λ files tables. same_amounts files tables with_cells (Errored 307)
