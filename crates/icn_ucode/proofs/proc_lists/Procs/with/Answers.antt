use Rattle.std.proofs.Common.{map, sym, ◌∙◌, ap}
use Rattle.icn_unit.specs.PlainUnits.{proc_names}
use Rattle.icn_unit.specs.UnitRules.{has_name}
use Rattle.icn_unit.specs.UnitViews.{proc_seen}
use Rattle.icn_tree.specs.NameSets.{has}
use Rattle.icn_ucode.proofs.KnownNames.{proc_known}
use Rattle.icn_ucode.proofs.proc_lists.Procs.with.Goals as goal

pub invariant_of-result : goal.invariant_of-result
invariant_of-result c = record {
  known = c.in_ok-meet.ensures.has
      ∙ (proc_known (has c.args.self.names) c.args.self.procs.items c.args.proc c.args.name.now c.args.self.known c.requires
      ∙ ap (λ procs. has_name (proc_names (map proc_seen procs))) (sym c.in_ok-push.ensures.items));
}
