use Rattle.std.proofs.Common.{map, sym, ◌∙◌, ap}
use Rattle.icn_unit.specs.PlainUnits.{proc_names}
use Rattle.icn_unit.specs.UnitRules.{has_name}
use Rattle.icn_unit.specs.UnitViews.{proc_seen}
use Rattle.icn_ucode.proofs.proc_lists.Procs.new.Goals as goal

pub invariant_of-result : goal.invariant_of-result
invariant_of-result c = record { known = c.new-2.ensures ∙ ap (λ procs. has_name (proc_names (map proc_seen procs))) (sym c.new.ensures.items) }
