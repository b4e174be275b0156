use Rattle.std.proofs.Common.{map, sym, ◌∙◌, ap}
use Rattle.icn_unit.specs.PlainUnits.{owned_names}
use Rattle.icn_unit.specs.UnitRules.{has_name}
use Rattle.icn_unit.specs.UnitViews.{decl_seen}
use Rattle.icn_tree.specs.NameSets.{has}
use Rattle.icn_ucode.proofs.KnownNames.{also_owned}
use Rattle.icn_ucode.proofs.decl_lists.Decls.with_owner.Goals as goal

pub invariant_of-result : goal.invariant_of-result
invariant_of-result c = record {
  known = c.in_ok-meet.ensures.has
      ∙ (also_owned (has c.args.self.names) c.args.self.decls.items c.args.decl c.args.name.now c.args.self.known c.requires
      ∙ ap (λ decls. has_name (owned_names (map decl_seen decls))) (sym c.in_ok-push.ensures.items));
}
