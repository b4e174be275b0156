use Rattle.std.proofs.Common.{◌∙◌, ap}
use Rattle.icn_defs.specs.RowFacts.{can_hold}
use Rattle.icn_defs.specs.Rows.{Left, Neither}
use Rattle.icn_heap.specs.Extents.{value_in}
use Rattle.icn_heap.specs.Heaps.{extent_of}
use Rattle.icn_vars.specs.Assignments.{assigns_right}
use Rattle.icn_vars.specs.Outcomes.{mover_of}
use Rattle.icn_vars.specs.Worlds.{reach_of, setting_of, variable_in}
use Rattle.icn_vars.proofs.KeptItems.{variable_kept, variable_stays}
use Rattle.icn_vars.proofs.Exchanges.{exchange_err, not_behind, right_done, right_moves, right_moves_before, right_refused, right_stops}
use Rattle.icn_vars.proofs.UndoMemory.{error_alone}
use Rattle.icn_vars.proofs.exchanging.assign_right.Goals as goal

pub returns-in_err-now-clause-exchanged : goal.returns-in_err-now-clause-exchanged
returns-in_err-now-clause-exchanged g c = λ outside.
    exchange_err (extent_of c.assign.new.w.heap) (λ refused. assigns_right refused
    (mover_of c.args.mover) (variable_in (extent_of c.args.w.now.heap) c.args.left) (variable_in (extent_of c.args.w.now.heap) c.args.right)
    (value_in (extent_of c.args.w.now.heap) c.args.to_right)) (setting_of outside c.args.w.now (g.L.Locals.items c.args.l.now))
    (setting_of outside c.assign.new.w (g.L.Locals.items c.assign.new.l)) c.in_err-now.field-0.0 c.from_residual.result c.from_residual.ensures.1
    (right_stops (extent_of c.assign.new.w.heap)
    (mover_of c.args.mover) (variable_in (extent_of c.args.w.now.heap) c.args.left) (variable_in (extent_of c.args.w.now.heap) c.args.right)
    (value_in (extent_of c.args.w.now.heap) c.args.to_right) (setting_of outside c.args.w.now (g.L.Locals.items c.args.l.now))
    (setting_of outside c.assign.new.w (g.L.Locals.items c.assign.new.l)) c.in_err-now.field-0.0 (c.in_err-now.ensures.assigned outside))

pub unreachable-requires : goal.unreachable-requires
unreachable-requires g c =
    let short = rw c.in-Done.is at c.in_ok-now.ensures.short in
    not_behind (extent_of c.assign.new.w.heap) c.args.left c.in-Done.now c.part_length-in-Right.result
    (c.part_length-in-Right.ensures (extent_of c.assign.new.w.heap)) c.requires.short short.1 c.in-BehindTexts.ensures.moved

pub returns-in-To-clause-exchanged : goal.returns-in-To-clause-exchanged
returns-in-To-clause-exchanged g c = rw c.in-Right.is (λ outside.
    let assigned = rw c.in-Done.is at (c.in_ok-now.ensures.assigned outside) in
    right_moves (variable_in (extent_of c.args.w.now.heap) c.args.left) (variable_in (extent_of c.args.w.now.heap) c.args.right)
    (value_in (extent_of c.args.w.now.heap) c.args.to_right) (setting_of outside c.args.w.now (g.L.Locals.items c.args.l.now))
    (setting_of outside c.assign.new.w (g.L.Locals.items c.assign.new.l)) c.part_length.result c.part_length-in-Right.result
    (variable_in (extent_of c.assign.new.w.heap) c.in-To.left) (variable_in (extent_of c.assign.new.w.heap) c.in-Done.now)
    (variable_in (extent_of c.assign.new.w.heap) c.args.left) (c.part_length.ensures (extent_of c.args.w.now.heap))
    (c.part_length-in-Right.ensures (extent_of c.assign.new.w.heap))
    (variable_kept c.assign.ensures.kept.items c.args.left c.requires.left) assigned
    (c.in-To.ensures.moved (extent_of c.assign.new.w.heap) (setting_of outside c.assign.new.w (g.L.Locals.items c.assign.new.l))))

pub returns-in-To-clause-live : goal.returns-in-To-clause-live
returns-in-To-clause-live g c =
    let live = rw c.in-Done.is at c.in_ok-now.ensures.live in (
      c.in-To.ensures.live (reach_of c.assign.new.w (g.L.Locals.items c.assign.new.l))
          (variable_stays c.assign.ensures.kept.items c.args.left c.requires.left),
      live,
    )

pub returns-in-To-clause-holds : goal.returns-in-To-clause-holds
returns-in-To-clause-holds g c =
    let holds = rw c.in-Done.is at c.in_ok-now.ensures.holds in (
      λ value. c.in-To.ensures.holds (extent_of c.assign.new.w.heap) value
          ∙ ap (λ variable. can_hold variable value) (variable_kept c.assign.ensures.kept.items c.args.left c.requires.left),
      holds,
    )

pub returns-in-BeforeText-clause-exchanged : goal.returns-in-BeforeText-clause-exchanged
returns-in-BeforeText-clause-exchanged g c = rw c.in-Right.is (λ outside.
    let assigned = rw c.in-Done.is at (c.in_ok-now.ensures.assigned outside) in
    right_moves_before (variable_in (extent_of c.args.w.now.heap) c.args.left) (variable_in (extent_of c.args.w.now.heap) c.args.right)
    (value_in (extent_of c.args.w.now.heap) c.args.to_right) (setting_of outside c.args.w.now (g.L.Locals.items c.args.l.now))
    (setting_of outside c.assign.new.w (g.L.Locals.items c.assign.new.l)) c.part_length.result c.part_length-in-Right.result
    (variable_in (extent_of c.assign.new.w.heap) c.in-Done.now) (variable_in (extent_of c.assign.new.w.heap) c.args.left)
    (c.part_length.ensures (extent_of c.args.w.now.heap)) (c.part_length-in-Right.ensures (extent_of c.assign.new.w.heap))
    (variable_kept c.assign.ensures.kept.items c.args.left c.requires.left) assigned
    (c.in-BeforeText.ensures.moved (extent_of c.assign.new.w.heap) (setting_of outside c.assign.new.w (g.L.Locals.items c.assign.new.l))))

pub returns-in-OutOfRange-clause-exchanged : goal.returns-in-OutOfRange-clause-exchanged
returns-in-OutOfRange-clause-exchanged g c = λ outside.
    let refused = rw c.in-OutOfRange.is at (c.in_ok-now.ensures.assigned outside) in
    right_refused (extent_of c.assign.new.w.heap) (mover_of c.args.mover) (variable_in (extent_of c.args.w.now.heap) c.args.left)
    (variable_in (extent_of c.args.w.now.heap) c.args.right) (value_in (extent_of c.args.w.now.heap) c.args.to_right)
    (setting_of outside c.args.w.now (g.L.Locals.items c.args.l.now)) (setting_of outside c.assign.new.w (g.L.Locals.items c.assign.new.l)) refused

pub returns-in-Neither-clause-exchanged : goal.returns-in-Neither-clause-exchanged
returns-in-Neither-clause-exchanged g c = rw c.in-Neither.is (λ outside.
    let assigned = rw c.in-Done.is at (c.in_ok-now.ensures.assigned outside) in
    right_done (extent_of c.assign.new.w.heap) Neither (variable_in (extent_of c.args.w.now.heap) c.args.left) (variable_in (extent_of c.args.w.now.heap)
    c.args.right) (value_in (extent_of c.args.w.now.heap) c.args.to_right) (setting_of outside c.args.w.now (g.L.Locals.items c.args.l.now))
    (setting_of outside c.assign.new.w (g.L.Locals.items c.assign.new.l)) (variable_in (extent_of c.assign.new.w.heap) c.args.left)
    (variable_in (extent_of c.assign.new.w.heap) c.in-Done.now) tt (variable_kept c.assign.ensures.kept.items c.args.left c.requires.left) assigned)

pub returns-in-Neither-clause-live : goal.returns-in-Neither-clause-live
returns-in-Neither-clause-live g c =
    let live = rw c.in-Done.is at c.in_ok-now.ensures.live in
    (variable_stays c.assign.ensures.kept.items c.args.left c.requires.left, live)

pub returns-in-Neither-clause-holds : goal.returns-in-Neither-clause-holds
returns-in-Neither-clause-holds g c =
    let holds = rw c.in-Done.is at c.in_ok-now.ensures.holds in
    (λ value. ap (λ variable. can_hold variable value) (variable_kept c.assign.ensures.kept.items c.args.left c.requires.left), holds)

pub returns-in-Left-clause-exchanged : goal.returns-in-Left-clause-exchanged
returns-in-Left-clause-exchanged g c = rw c.in-Left.is (λ outside.
    let assigned = rw c.in-Done.is at (c.in_ok-now.ensures.assigned outside) in
    right_done (extent_of c.assign.new.w.heap) Left (variable_in (extent_of c.args.w.now.heap) c.args.left) (variable_in (extent_of c.args.w.now.heap)
    c.args.right) (value_in (extent_of c.args.w.now.heap) c.args.to_right) (setting_of outside c.args.w.now (g.L.Locals.items c.args.l.now))
    (setting_of outside c.assign.new.w (g.L.Locals.items c.assign.new.l)) (variable_in (extent_of c.assign.new.w.heap) c.args.left)
    (variable_in (extent_of c.assign.new.w.heap) c.in-Done.now) tt (variable_kept c.assign.ensures.kept.items c.args.left c.requires.left) assigned)

pub returns-in-Left-clause-live : goal.returns-in-Left-clause-live
returns-in-Left-clause-live g c =
    let live = rw c.in-Done.is at c.in_ok-now.ensures.live in
    (variable_stays c.assign.ensures.kept.items c.args.left c.requires.left, live)

pub returns-in-Left-clause-holds : goal.returns-in-Left-clause-holds
returns-in-Left-clause-holds g c =
    let holds = rw c.in-Done.is at c.in_ok-now.ensures.holds in
    (λ value. ap (λ variable. can_hold variable value) (variable_kept c.assign.ensures.kept.items c.args.left c.requires.left), holds)

-- memory

pub returns-in_err-now-clause-memory : goal.returns-in_err-now-clause-memory
returns-in_err-now-clause-memory g c = λ one held.
    error_alone c.in_err-now.field-0.0 c.from_residual.result (c.in_err-now.ensures.memory one held) c.from_residual.ensures.1
