use Rattle.std.proofs.Common.{sym, ◌∙◌, ap}
use Rattle.icn_unit.specs.UnitRules.{has_name}
use Rattle.icn_ucode.proofs.decl_lists.RecordFields.new.Goals as goal

pub invariant_of-result : goal.invariant_of-result
invariant_of-result c = record { known = c.new-2.ensures ∙ ap (λ fields. has_name fields) (sym c.new.ensures.items) }
