use Rattle.std.proofs.Common.{sym, ◌∙◌, ap}
use Rattle.icn_unit.specs.UnitRules.{has_label, placed_labels}
use Rattle.icn_ucode.proofs.proc_lists.Begun.at_code.Goals as goal

pub invariant_of-result : goal.invariant_of-result
invariant_of-result c = record {
  named = c.args.self.named;
  known = c.new.ensures ∙ ap (λ instrs. has_label (placed_labels instrs)) (sym c.args.self.codeless);
}
