use Rattle.icn_defs.specs.ReadAndAssign.{mover_of as defined_mover}
use Rattle.icn_heap.specs.Extents.{value_in}
use Rattle.icn_heap.specs.Heaps.{extent_of}
use Rattle.icn_vars.specs.Outcomes.{mover_of}
use Rattle.icn_vars.specs.Worlds.{setting_of, variable_in}
use Rattle.icn_vars.proofs.Exchanges.{exchanges_as}
use Rattle.icn_vars.proofs.exchanging.exchange.Goals as goal

pub returns-clause-exchanged : goal.returns-clause-exchanged
returns-clause-exchanged g c = λ outside.
    exchanges_as (extent_of c.assign_both.new.w.heap)
    (defined_mover (variable_in (extent_of c.args.w.now.heap) c.args.left) (variable_in (extent_of c.args.w.now.heap) c.args.right))
    (mover_of c.mover_of-mover.result) (variable_in (extent_of c.args.w.now.heap) c.args.left) (variable_in (extent_of c.args.w.now.heap) c.args.right)
    (value_in (extent_of c.args.w.now.heap) c.args.of_right) (value_in (extent_of c.args.w.now.heap) c.args.of_left)
    (setting_of outside c.args.w.now (g.L.Locals.items c.args.l.now)) (setting_of outside c.assign_both.new.w (g.L.Locals.items c.assign_both.new.l))
    c.assign_both.result c.mover_of-mover.ensures (c.assign_both.ensures.exchanged outside)
