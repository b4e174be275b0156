use Rattle.std.proofs.Common.{ap}
use Rattle.icn_value.specs.declared.item.VarRef.TheVariants.{Whole as HeldWhole}
use Rattle.icn_value.specs.Values.{Whole}
use Rattle.icn_defs.specs.RowFacts.{can_hold}
use Rattle.icn_defs.specs.ReadAndAssign.{assigns_or, assigns_root}
use Rattle.icn_heap.specs.Extents.{value_in}
use Rattle.icn_heap.specs.Heaps.{extent_of}
use Rattle.icn_vars.specs.Worlds.{root_in, setting_of}
use Rattle.icn_vars.proofs.KeptItems.{root_kept, variable_kept, variable_stays}
use Rattle.icn_vars.proofs.PartChanges.{assign_err, root_false, root_true, whole_done, whole_refused, whole_stops}
use Rattle.icn_vars.proofs.assigning.assign.Goals as goal

pub returns-in_err-assign_root-in-Whole-clause-assigned : goal.returns-in_err-assign_root-in-Whole-clause-assigned
returns-in_err-assign_root-in-Whole-clause-assigned g c =
    rw c.in-Whole.is (λ outside.
    assign_err (extent_of c.assign_root.new.w.heap)
    (λ refused. assigns_or refused (Whole (root_in (extent_of c.args.w.now.heap) c.in-Whole.root)) (value_in (extent_of c.args.w.now.heap) c.args.val))
    (setting_of outside c.args.w.now (g.L.Locals.items c.args.l.now)) (setting_of outside c.assign_root.new.w (g.L.Locals.items c.assign_root.new.l))
    c.in_err-assign_root-in-Whole.field-0.0 c.from_residual.result c.from_residual.ensures.1
    (whole_stops (extent_of c.assign_root.new.w.heap) (root_in (extent_of c.args.w.now.heap) c.in-Whole.root)
    (value_in (extent_of c.args.w.now.heap) c.args.val) (setting_of outside c.args.w.now (g.L.Locals.items c.args.l.now))
    (setting_of outside c.assign_root.new.w (g.L.Locals.items c.assign_root.new.l)) c.in_err-assign_root-in-Whole.field-0.0
    (c.in_err-assign_root-in-Whole.ensures.assigned outside)))

pub returns-then-branch-clause-assigned : goal.returns-then-branch-clause-assigned
returns-then-branch-clause-assigned g c =
    let live = rw c.in-Whole.is at c.requires.variable.live in
    rw c.in-Whole.is (λ outside. whole_done (root_in (extent_of c.args.w.now.heap) c.in-Whole.root) (value_in (extent_of c.args.w.now.heap) c.args.val)
    (setting_of outside c.args.w.now (g.L.Locals.items c.args.l.now)) (setting_of outside c.assign_root.new.w (g.L.Locals.items c.assign_root.new.l))
    (Whole (root_in (extent_of c.assign_root.new.w.heap) c.in-Whole.root)) (ap Whole (root_kept c.assign_root.ensures.kept.items c.in-Whole.root live))
    (root_true (extent_of c.assign_root.new.w.heap)
    (λ refused. assigns_root refused (root_in (extent_of c.args.w.now.heap) c.in-Whole.root) (value_in (extent_of c.args.w.now.heap) c.args.val))
    (setting_of outside c.args.w.now (g.L.Locals.items c.args.l.now)) (setting_of outside c.assign_root.new.w (g.L.Locals.items c.assign_root.new.l))
    c.in_ok-assign_root-in-Whole.field-0 c.if-branch.true (c.in_ok-assign_root-in-Whole.ensures.assigned outside)))

pub returns-then-branch-clause-live : goal.returns-then-branch-clause-live
returns-then-branch-clause-live g c =
    let live = rw c.in-Whole.is at c.requires.variable in
    variable_stays c.assign_root.ensures.kept.items (HeldWhole c.in-Whole.root) live

pub returns-then-branch-clause-holds : goal.returns-then-branch-clause-holds
returns-then-branch-clause-holds g c =
    let live = rw c.in-Whole.is at c.requires.variable in
    rw c.in-Whole.is (λ value. ap (λ variable. can_hold variable value) (variable_kept c.assign_root.ensures.kept.items (HeldWhole c.in-Whole.root) live))

pub returns-else-branch-clause-assigned : goal.returns-else-branch-clause-assigned
returns-else-branch-clause-assigned g c =
    rw c.in-Whole.is (λ outside. whole_refused (root_in (extent_of c.args.w.now.heap) c.in-Whole.root) (value_in (extent_of c.args.w.now.heap) c.args.val)
    (setting_of outside c.args.w.now (g.L.Locals.items c.args.l.now)) (setting_of outside c.assign_root.new.w (g.L.Locals.items c.assign_root.new.l))
    (root_false (extent_of c.assign_root.new.w.heap)
    (λ refused. assigns_root refused (root_in (extent_of c.args.w.now.heap) c.in-Whole.root) (value_in (extent_of c.args.w.now.heap) c.args.val))
    (setting_of outside c.args.w.now (g.L.Locals.items c.args.l.now)) (setting_of outside c.assign_root.new.w (g.L.Locals.items c.assign_root.new.l))
    c.in_ok-assign_root-in-Whole.field-0 c.if-branch.false (c.in_ok-assign_root-in-Whole.ensures.assigned outside)))

pub returns-in-Part-clause-assigned : goal.returns-in-Part-clause-assigned
returns-in-Part-clause-assigned g c = rw c.in-Part.is c.assign_part.ensures.assigned

pub returns-in-Part-clause-holds : goal.returns-in-Part-clause-holds
returns-in-Part-clause-holds g c = rw c.in-Part.is c.assign_part.ensures.holds

pub returns-in-Part-clause-short : goal.returns-in-Part-clause-short
returns-in-Part-clause-short g c = rw c.in-Part.is c.assign_part.ensures.short
