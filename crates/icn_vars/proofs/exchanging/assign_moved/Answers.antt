use Rattle.std.proofs.Common.{refl}
use Rattle.icn_heap.specs.Extents.{value_in}
use Rattle.icn_heap.specs.Heaps.{extent_of}
use Rattle.icn_vars.specs.Worlds.{reach_of, setting_of, variable_in}
use Rattle.icn_vars.proofs.Exchanges.{hold_as, moved_behind, right_moved, short_length}
use Rattle.icn_vars.proofs.exchanging.assign_moved.Goals as goal

pub assign_right-requires-clause-right : goal.assign_right-requires-clause-right
assign_right-requires-clause-right g c = c.in-To.ensures.live (reach_of c.args.w.now (g.L.Locals.items c.args.l.now)) c.requires.right

pub returns-in-To-clause-exchanged : goal.returns-in-To-clause-exchanged
returns-in-To-clause-exchanged g c = λ outside.
    right_moved (extent_of c.assign_right.new.w.heap) (variable_in (extent_of c.args.w.now.heap) c.args.left)
    (variable_in (extent_of c.args.w.now.heap) c.args.right) (variable_in (extent_of c.args.w.now.heap) c.in-To.right)
    (value_in (extent_of c.args.w.now.heap) c.args.to_right) c.args.old c.part_length.result (setting_of outside c.args.w.now (g.L.Locals.items c.args.l.now))
    (setting_of outside c.assign_right.new.w (g.L.Locals.items c.assign_right.new.l)) c.assign_right.result
    (c.part_length.ensures (extent_of c.args.w.now.heap)) (c.in-To.ensures.moved (extent_of c.args.w.now.heap)
    (setting_of outside c.args.w.now (g.L.Locals.items c.args.l.now))) (c.assign_right.ensures.exchanged outside)

pub returns-in-To-clause-holds : goal.returns-in-To-clause-holds
returns-in-To-clause-holds g c =
    hold_as (extent_of c.assign_right.new.w.heap)
    (variable_in (extent_of c.args.w.now.heap) c.args.left) (variable_in (extent_of c.args.w.now.heap) c.args.left)
    (variable_in (extent_of c.args.w.now.heap) c.args.right) (variable_in (extent_of c.args.w.now.heap) c.in-To.right) c.assign_right.result (λ value. refl)
    (c.in-To.ensures.holds (extent_of c.args.w.now.heap)) c.assign_right.ensures.holds

pub returns-in_ok-short_held-in-BehindTexts-clause-exchanged : goal.returns-in_ok-short_held-in-BehindTexts-clause-exchanged
returns-in_ok-short_held-in-BehindTexts-clause-exchanged g c = λ outside.
    moved_behind
    (extent_of c.assign_right-in-BehindTexts.new.w.heap) (extent_of c.args.w.now.heap) (variable_in (extent_of c.args.w.now.heap) c.args.left) c.args.right
    (value_in (extent_of c.args.w.now.heap) c.args.to_right) c.args.old c.part_length.result (setting_of outside c.args.w.now (g.L.Locals.items c.args.l.now))
    (setting_of outside c.assign_right-in-BehindTexts.new.w (g.L.Locals.items c.assign_right-in-BehindTexts.new.l)) c.assign_right-in-BehindTexts.result
    (c.part_length.ensures (extent_of c.args.w.now.heap)) c.requires.old
    (short_length (extent_of c.args.w.now.heap) c.args.left c.part_length.result (c.part_length.ensures (extent_of c.args.w.now.heap)) c.requires.short)
    c.in-BehindTexts.ensures.moved (c.in_ok-short_held-in-BehindTexts.ensures.short outside)
    (c.assign_right-in-BehindTexts.ensures.exchanged outside)
