use Rattle.std.proofs.Common.{sym, ◌∙◌, ap}
use Rattle.icn_unit.specs.UnitRules.{has_label, placed_labels}
use Rattle.icn_ucode.specs.LabelSets.{holds}
use Rattle.icn_ucode.proofs.KnownNames.{places_known}
use Rattle.icn_ucode.proofs.proc_lists.Coded.with.Goals as goal

pub invariant_of-result : goal.invariant_of-result
invariant_of-result c = record {
  named = c.args.self.named;
  known = c.in_ok-add_place.ensures ∙ (places_known (holds c.args.self.labels) c.args.self.proc.instrs.items c.args.instr c.args.self.known
      ∙ ap (λ instrs. has_label (placed_labels instrs)) (sym c.in_ok-push.ensures.items));
}
