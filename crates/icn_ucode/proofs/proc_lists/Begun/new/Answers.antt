use Rattle.std.proofs.Common.{sym, ◌∙◌, ap}
use Rattle.icn_unit.specs.PlainUnits.{entry_names}
use Rattle.icn_unit.specs.UnitRules.{has_name}
use Rattle.icn_ucode.proofs.proc_lists.Begun.new.Goals as goal

pub invariant_of-result : goal.invariant_of-result
invariant_of-result c = record {
  named = sym c.in_ok-from_slice.ensures;
  known = c.new-3.ensures ∙ ap (λ names. has_name (entry_names names)) (sym c.new.ensures.items);
  codeless = c.new-2.ensures.items;
}
