use Rattle.std.proofs.Common.{map, sym, ◌∙◌, ap}
use Rattle.icn_unit.specs.PlainUnits.{owned_names}
use Rattle.icn_unit.specs.UnitRules.{has_name}
use Rattle.icn_unit.specs.UnitViews.{decl_seen}
use Rattle.icn_ucode.proofs.decl_lists.Decls.new.Goals as goal

pub invariant_of-result : goal.invariant_of-result
invariant_of-result c = record { known = c.new-2.ensures ∙ ap (λ decls. has_name (owned_names (map decl_seen decls))) (sym c.new.ensures.items) }
