use Rattle.std.proofs.Common.{FitsSigned, ap, rules, sym, subst, ◌∙◌, ℤ, []}
use Rattle.std.proofs.lemmas.Int.{to_z-of_z}
use Rattle.std.specs.Int.{w64}
use Rattle.icn_value.specs.declared.item.Root.{Root}
use Rattle.icn_value.specs.declared.item.Root.TheVariants as Roots
use Rattle.icn_vars.specs.declared.world.World.{World}
use Rattle.icn_vars.specs.Worlds.{IsLiveRoot, reach_of}
use Rattle.icn_vars.proofs.RootChanges.{global_assigned, static_assigned}
use Rattle.icn_control.specs.LiveStacks.{with_locals}
use Rattle.icn_machine.specs.AssignmentsInPlace.{IsInWorld, PutsInto}
use Rattle.icn_machine.proofs.assignments_in_place.put_into.Goals as goal

pub returns-in-Global-clause-puts : goal.returns-in-Global-clause-puts
returns-in-Global-clause-puts c q =
    let w : World = c.args.world.now in
    rw c.in-Global.is (λ outside locals live. global_assigned outside w.heap w.pair w.words w.globals.items w.statics.items locals c.in-Global.place c.args.val)

pub returns-in-Static-clause-puts : goal.returns-in-Static-clause-puts
returns-in-Static-clause-puts c q =
    let w : World = c.args.world.now in
    rw c.in-Static.is (λ outside locals live. static_assigned outside w.heap w.pair w.words w.globals.items w.statics.items locals c.in-Static.place c.args.val)

pub put_element-requires-clause-live : goal.put_element-requires-clause-live
put_element-requires-clause-live c =
    let fits : FitsSigned w64 c.in-Element.number = search rules in (
      c.requires.live.0,
      subst (λ (r : Root). IsLiveRoot (with_locals c.requires.live.0 (reach_of c.args.world.now [])) r)
          (c.in-Element.is ∙ sym (ap (λ (i : ℤ). Roots.Element c.in-Element.list i) (to_z-of_z w64 c.in-Element.number fits))) c.requires.live.1,
    )

pub put_element-requires-clause-there : goal.put_element-requires-clause-there
put_element-requires-clause-there c =
    let fits : FitsSigned w64 c.in-Element.number = search rules in
    subst (λ (r : Root). IsInWorld c.args.world.now r)
    (c.in-Element.is ∙ sym (ap (λ (i : ℤ). Roots.Element c.in-Element.list i) (to_z-of_z w64 c.in-Element.number fits))) c.requires.there

pub returns-in-Element-clause-puts : goal.returns-in-Element-clause-puts
returns-in-Element-clause-puts c q =
    let fits : FitsSigned w64 c.in-Element.number = search rules in
    subst (λ (r : Root). PutsInto c.args.world.now r c.args.val c.put_element.new.world)
    (ap (λ (i : ℤ). Roots.Element c.in-Element.list i) (to_z-of_z w64 c.in-Element.number fits) ∙ sym c.in-Element.is) c.put_element.ensures.puts

pub put_field-requires-clause-live : goal.put_field-requires-clause-live
put_field-requires-clause-live c = (
  c.requires.live.0,
  subst (λ (r : Root). IsLiveRoot (with_locals c.requires.live.0 (reach_of c.args.world.now [])) r) c.in-Field.is c.requires.live.1,
)

pub returns-in-Field-clause-puts : goal.returns-in-Field-clause-puts
returns-in-Field-clause-puts c q =
    subst (λ (r : Root). PutsInto c.args.world.now r c.args.val c.put_field.new.world) (sym c.in-Field.is) c.put_field.ensures.puts

pub put_key-requires-clause-live : goal.put_key-requires-clause-live
put_key-requires-clause-live c = (
  c.requires.live.0,
  subst (λ (r : Root). IsLiveRoot (with_locals c.requires.live.0 (reach_of c.args.world.now [])) r) c.in-Key.is c.requires.live.1,
)

pub returns-in-Key-clause-puts : goal.returns-in-Key-clause-puts
returns-in-Key-clause-puts c q =
    subst (λ (r : Root). PutsInto c.args.world.now r c.args.val c.put_key.new.world) (sym c.in-Key.is) (c.put_key.ensures.puts q)
