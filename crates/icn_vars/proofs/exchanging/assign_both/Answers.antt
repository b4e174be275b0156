use Rattle.std.proofs.Common.{◌≡◌, ◌∙◌, ap, sym}
use Rattle.icn_defs.specs.RowFacts.{can_hold}
use Rattle.icn_defs.specs.ReadAndAssign.{assigns_both}
use Rattle.icn_defs.specs.Rows.{Neither, Right}
use Rattle.icn_heap.specs.Extents.{value_in}
use Rattle.icn_heap.specs.Heaps.{extent_of}
use Rattle.icn_value.specs.declared.residual.Mover.TheVariants as Movers
use Rattle.icn_vars.specs.Assignments.{takes_no_memory}
use Rattle.icn_vars.specs.Outcomes.{mover_of}
use Rattle.icn_vars.specs.Worlds.{setting_of, variable_in}
use Rattle.icn_vars.proofs.KeptItems.{variable_kept, variable_stays}
use Rattle.icn_vars.proofs.Exchanges.{exchange_err, hold_as, left_moves, left_refused, left_stays, left_stops}
use Rattle.icn_vars.proofs.UndoMemory.{error_alone}
use Rattle.icn_vars.proofs.exchanging.assign_both.Goals as goal

pub returns-in_err-now-clause-exchanged : goal.returns-in_err-now-clause-exchanged
returns-in_err-now-clause-exchanged g c = λ outside.
    exchange_err (extent_of c.assign.new.w.heap) (λ refused. assigns_both refused (mover_of c.args.mover)
    (variable_in (extent_of c.args.w.now.heap) c.args.left) (variable_in (extent_of c.args.w.now.heap) c.args.right) (value_in (extent_of c.args.w.now.heap)
    c.args.to_left) (value_in (extent_of c.args.w.now.heap) c.args.to_right)) (setting_of outside c.args.w.now (g.L.Locals.items c.args.l.now))
    (setting_of outside c.assign.new.w (g.L.Locals.items c.assign.new.l)) c.in_err-now.field-0.0 c.from_residual.result c.from_residual.ensures.1
    (left_stops (extent_of c.assign.new.w.heap) (mover_of c.args.mover) (variable_in (extent_of c.args.w.now.heap) c.args.left)
    (variable_in (extent_of c.args.w.now.heap) c.args.right) (value_in (extent_of c.args.w.now.heap) c.args.to_left)
    (value_in (extent_of c.args.w.now.heap) c.args.to_right) (setting_of outside c.args.w.now (g.L.Locals.items c.args.l.now))
    (setting_of outside c.assign.new.w (g.L.Locals.items c.assign.new.l)) c.in_err-now.field-0.0 (c.in_err-now.ensures.assigned outside))

pub assign_moved-requires-clause-right : goal.assign_moved-requires-clause-right
assign_moved-requires-clause-right g c = variable_stays c.assign.ensures.kept.items c.args.right c.requires.right

pub assign_right-requires-clause-right : goal.assign_right-requires-clause-right
assign_right-requires-clause-right g c = variable_stays c.assign.ensures.kept.items c.args.right c.requires.right

pub assign_right-requires-in-Right-clause-right : goal.assign_right-requires-in-Right-clause-right
assign_right-requires-in-Right-clause-right g c = variable_stays c.assign.ensures.kept.items c.args.right c.requires.right

pub returns-in-Left-clause-exchanged : goal.returns-in-Left-clause-exchanged
returns-in-Left-clause-exchanged g c = rw c.in-Left.is (λ outside.
    let assigned = rw c.in-Done.is at (c.in_ok-now.ensures.assigned outside) in
    left_moves (extent_of c.assign_moved.new.w.heap) (variable_in (extent_of c.args.w.now.heap) c.args.left)
    (variable_in (extent_of c.args.w.now.heap) c.args.right) (variable_in (extent_of c.assign.new.w.heap) c.args.right)
    (variable_in (extent_of c.assign.new.w.heap) c.in-Done.now) (value_in (extent_of c.args.w.now.heap) c.args.to_left)
    (value_in (extent_of c.args.w.now.heap) c.args.to_right) (value_in (extent_of c.assign.new.w.heap) c.args.to_right) c.part_length.result
    (setting_of outside c.args.w.now (g.L.Locals.items c.args.l.now)) (setting_of outside c.assign.new.w (g.L.Locals.items c.assign.new.l))
    (setting_of outside c.assign_moved.new.w (g.L.Locals.items c.assign_moved.new.l)) c.assign_moved.result
    (variable_kept c.assign.ensures.kept.items c.args.right c.requires.right) (c.assign.ensures.kept.items.extent.value c.args.to_right c.requires.to_right)
    (c.part_length.ensures (extent_of c.args.w.now.heap)) assigned (c.assign_moved.ensures.exchanged outside))

pub returns-in-Left-clause-holds : goal.returns-in-Left-clause-holds
returns-in-Left-clause-holds g c =
    let holds = rw c.in-Done.is at c.in_ok-now.ensures.holds in
    hold_as (extent_of c.assign_moved.new.w.heap)
    (variable_in (extent_of c.args.w.now.heap) c.args.left) (variable_in (extent_of c.assign.new.w.heap) c.in-Done.now)
    (variable_in (extent_of c.args.w.now.heap) c.args.right) (variable_in (extent_of c.assign.new.w.heap) c.args.right) c.assign_moved.result holds
    (λ value. ap (λ variable. can_hold variable value) (variable_kept c.assign.ensures.kept.items c.args.right c.requires.right)) c.assign_moved.ensures.holds

pub returns-in-OutOfRange-clause-exchanged : goal.returns-in-OutOfRange-clause-exchanged
returns-in-OutOfRange-clause-exchanged g c = λ outside.
    let refused = rw c.in-OutOfRange.is at (c.in_ok-now.ensures.assigned outside) in
    left_refused (extent_of c.assign.new.w.heap) (mover_of c.args.mover) (variable_in (extent_of c.args.w.now.heap) c.args.left)
    (variable_in (extent_of c.args.w.now.heap) c.args.right) (value_in (extent_of c.args.w.now.heap) c.args.to_left)
    (value_in (extent_of c.args.w.now.heap) c.args.to_right) (setting_of outside c.args.w.now (g.L.Locals.items c.args.l.now))
    (setting_of outside c.assign.new.w (g.L.Locals.items c.assign.new.l)) refused

pub returns-in-Neither-clause-exchanged : goal.returns-in-Neither-clause-exchanged
returns-in-Neither-clause-exchanged g c = rw c.in-Neither.is (λ outside.
    let assigned = rw c.in-Done.is at (c.in_ok-now.ensures.assigned outside) in
    left_stays (extent_of c.assign_right.new.w.heap) Neither (variable_in (extent_of c.args.w.now.heap) c.args.left)
    (variable_in (extent_of c.args.w.now.heap) c.args.right) (variable_in (extent_of c.assign.new.w.heap) c.args.right)
    (variable_in (extent_of c.assign.new.w.heap) c.in-Done.now) (value_in (extent_of c.args.w.now.heap) c.args.to_left)
    (value_in (extent_of c.args.w.now.heap) c.args.to_right) (value_in (extent_of c.assign.new.w.heap) c.args.to_right)
    (setting_of outside c.args.w.now (g.L.Locals.items c.args.l.now)) (setting_of outside c.assign.new.w (g.L.Locals.items c.assign.new.l)) (setting_of outside
    c.assign_right.new.w (g.L.Locals.items c.assign_right.new.l)) c.assign_right.result tt
    (variable_kept c.assign.ensures.kept.items c.args.right c.requires.right)
    (c.assign.ensures.kept.items.extent.value c.args.to_right c.requires.to_right) assigned (c.assign_right.ensures.exchanged outside))

pub returns-in-Neither-clause-holds : goal.returns-in-Neither-clause-holds
returns-in-Neither-clause-holds g c =
    let holds = rw c.in-Done.is at c.in_ok-now.ensures.holds in
    hold_as (extent_of c.assign_right.new.w.heap)
    (variable_in (extent_of c.args.w.now.heap) c.args.left) (variable_in (extent_of c.assign.new.w.heap) c.in-Done.now)
    (variable_in (extent_of c.args.w.now.heap) c.args.right) (variable_in (extent_of c.assign.new.w.heap) c.args.right) c.assign_right.result holds
    (λ value. ap (λ variable. can_hold variable value) (variable_kept c.assign.ensures.kept.items c.args.right c.requires.right)) c.assign_right.ensures.holds

pub returns-in-Right-clause-exchanged : goal.returns-in-Right-clause-exchanged
returns-in-Right-clause-exchanged g c = rw c.in-Right.is (λ outside.
    let assigned = rw c.in-Done.is at (c.in_ok-now.ensures.assigned outside) in
    left_stays (extent_of c.assign_right-in-Right.new.w.heap) Right (variable_in (extent_of c.args.w.now.heap) c.args.left)
    (variable_in (extent_of c.args.w.now.heap) c.args.right) (variable_in (extent_of c.assign.new.w.heap) c.args.right)
    (variable_in (extent_of c.assign.new.w.heap) c.in-Done.now) (value_in (extent_of c.args.w.now.heap) c.args.to_left)
    (value_in (extent_of c.args.w.now.heap) c.args.to_right) (value_in (extent_of c.assign.new.w.heap) c.args.to_right)
    (setting_of outside c.args.w.now (g.L.Locals.items c.args.l.now)) (setting_of outside c.assign.new.w (g.L.Locals.items c.assign.new.l))
    (setting_of outside c.assign_right-in-Right.new.w (g.L.Locals.items c.assign_right-in-Right.new.l)) c.assign_right-in-Right.result tt
    (variable_kept c.assign.ensures.kept.items c.args.right c.requires.right)
    (c.assign.ensures.kept.items.extent.value c.args.to_right c.requires.to_right) assigned
    (c.assign_right-in-Right.ensures.exchanged outside))

pub returns-in-Right-clause-holds : goal.returns-in-Right-clause-holds
returns-in-Right-clause-holds g c =
    let holds = rw c.in-Done.is at c.in_ok-now.ensures.holds in
    hold_as (extent_of c.assign_right-in-Right.new.w.heap) (variable_in (extent_of c.args.w.now.heap) c.args.left)
    (variable_in (extent_of c.assign.new.w.heap) c.in-Done.now) (variable_in (extent_of c.args.w.now.heap) c.args.right)
    (variable_in (extent_of c.assign.new.w.heap) c.args.right) c.assign_right-in-Right.result holds (λ value.
    ap (λ variable. can_hold variable value) (variable_kept c.assign.ensures.kept.items c.args.right c.requires.right)) c.assign_right-in-Right.ensures.holds

-- memory

pub returns-in_err-now-clause-memory : goal.returns-in_err-now-clause-memory
returns-in_err-now-clause-memory g c = λ neither one two held_left held_right.
    error_alone c.in_err-now.field-0.0 c.from_residual.result (c.in_err-now.ensures.memory one held_left) c.from_residual.ensures.1

pub returns-in-Neither-clause-memory : goal.returns-in-Neither-clause-memory
returns-in-Neither-clause-memory g c = λ neither one two held_left held_right.
    let stays = variable_kept c.assign.ensures.kept.items c.args.right c.requires.right in
    c.assign_right.ensures.memory (ap takes_no_memory stays ∙ two)
    (ap (λ variable. can_hold variable (value_in (extent_of c.assign.new.w.heap) c.args.to_right)) stays
    ∙ ap (can_hold (variable_in (extent_of c.args.w.now.heap) c.args.right)) (c.assign.ensures.kept.items.extent.value c.args.to_right c.requires.to_right)
    ∙ held_right)

pub returns-in-Left-clause-memory : goal.returns-in-Left-clause-memory
returns-in-Left-clause-memory g c = λ neither one two held_left held_right.
    let both : Movers.Left ≡ Movers.Neither = sym c.in-Left.is ∙ neither in absurd (cc)

pub returns-in-Right-clause-memory : goal.returns-in-Right-clause-memory
returns-in-Right-clause-memory g c = λ neither one two held_left held_right.
    let both : Movers.Right ≡ Movers.Neither = sym c.in-Right.is ∙ neither in absurd (cc)
