use Rattle.std.proofs.Common.{sym, ◌∙◌, ap}
use Rattle.icn_unit.specs.PlainUnits.{entry_names}
use Rattle.icn_unit.specs.UnitRules.{has_name}
use Rattle.icn_tree.specs.NameSets.{has}
use Rattle.icn_ucode.proofs.KnownNames.{entry_known}
use Rattle.icn_ucode.proofs.proc_lists.Begun.with.Goals as goal

pub invariant_of-result : goal.invariant_of-result
invariant_of-result c = record {
  named = c.args.self.named;
  known = c.in_ok-meet.ensures.has
      ∙ (entry_known (has c.args.self.names) c.args.self.proc.names.items
      (record { kind = c.args.kind; name = c.in_ok-from_slice.field-0 }) c.args.name.now c.args.self.known (sym c.in_ok-from_slice.ensures)
      ∙ ap (λ names. has_name (entry_names names)) (sym c.in_ok-push.ensures.items));
  codeless = c.args.self.codeless;
}
