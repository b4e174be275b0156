use Rattle.std.proofs.Common.{◌≡◌, drop}
use Rattle.std.specs.List.{list_all}
use Rattle.icn_units.specs.TypeBounds.{number_fits}
use Rattle.icn_units.proofs.bounds.instrs_fit.Given as goal

abbrev pub invariant-loop-instr : goal.invariant-loop-instr
invariant-loop-instr l = list_all number_fits (drop l.instr-index l.instrs) ≡ list_all number_fits l.instrs
