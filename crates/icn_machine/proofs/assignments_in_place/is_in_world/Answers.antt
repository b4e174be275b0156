use Rattle.std.proofs.Common.{◌∙◌, ℤ, FitsSigned, [], ap, rules, sym, subst}
use Rattle.std.proofs.lemmas.Int.{to_z-of_z}
use Rattle.std.specs.Int.{w64}
use Rattle.icn_value.specs.declared.item.Root.{Root}
use Rattle.icn_value.specs.declared.item.Root.TheVariants as Roots
use Rattle.icn_vars.specs.Worlds.{IsLiveRoot, reach_of}
use Rattle.icn_control.specs.LiveStacks.{with_locals}
use Rattle.icn_machine.specs.AssignmentsInPlace.{IsInWorld}
use Rattle.icn_machine.proofs.assignments_in_place.is_in_world.Goals as goal

pub returns-in-Global : goal.returns-in-Global
returns-in-Global c q = subst (λ (r : Root). IsInWorld c.args.world.now r) (sym c.in-Global.is) tt

pub returns-in-Static : goal.returns-in-Static
returns-in-Static c q = subst (λ (r : Root). IsInWorld c.args.world.now r) (sym c.in-Static.is) tt

pub has_element-requires : goal.has_element-requires
has_element-requires c =
    let fits : FitsSigned w64 c.in-Element.number = search rules in (
      c.requires.0,
      subst (λ (r : Root). IsLiveRoot (with_locals c.requires.0 (reach_of c.args.world.now [])) r)
          (c.in-Element.is ∙ sym (ap (λ (i : ℤ). Roots.Element c.in-Element.list i) (to_z-of_z w64 c.in-Element.number fits))) c.requires.1,
    )

pub returns-in-Element : goal.returns-in-Element
returns-in-Element c q =
    let fits : FitsSigned w64 c.in-Element.number = search rules in
    subst (λ (r : Root). IsInWorld c.args.world.now r)
    (ap (λ (i : ℤ). Roots.Element c.in-Element.list i) (to_z-of_z w64 c.in-Element.number fits) ∙ sym c.in-Element.is) (c.has_element.ensures q)

pub returns-in-Field : goal.returns-in-Field
returns-in-Field c q = subst (λ (r : Root). IsInWorld c.args.world.now r) (sym c.in-Field.is) tt

pub returns-in-Local : goal.returns-in-Local
returns-in-Local c q = absurd (cc q)

pub returns-in-Key : goal.returns-in-Key
returns-in-Key c q = subst (λ (r : Root). IsInWorld c.args.world.now r) (sym c.in-Key.is) tt

pub returns-in-Keyword : goal.returns-in-Keyword
returns-in-Keyword c q = absurd (cc q)
