use Rattle.std.proofs.Common.{◌∙◌, ap, map, subst}
use Rattle.icn_value.specs.Values.{Item}
use Rattle.icn_defs.specs.Applying.{operand, operation_on}
use Rattle.icn_defs.specs.Rows.{Row}
use Rattle.icn_heap.specs.Heaps.{extent_of}
use Rattle.icn_vars.specs.Worlds.{item_in, reach_of}
use Rattle.icn_streams.specs.Answers.{call_state}
use Rattle.icn_streams.specs.Applies.{Applies}
use Rattle.icn_ops.proofs.applying.apply_operation.Goals as goal

pub apply_to_operands-requires : goal.apply_to_operands-requires
apply_to_operands-requires g c = record {
  live = record {
    locals = c.requires.locals;
    first = c.operand-x.ensures.live (reach_of c.args.w.now (g.L.Locals.items c.args.l.now)) c.requires.args;
    second = c.operand-y.ensures.live (reach_of c.args.w.now (g.L.Locals.items c.args.l.now)) c.requires.args;
    third = c.operand-z.ensures.live (reach_of c.args.w.now (g.L.Locals.items c.args.l.now)) c.requires.args;
  };
}

pub returns : goal.returns
returns g c =
    subst (λ (row : Row). Applies row (call_state c.args.w.now (g.L.Locals.items c.args.l.now) (g.S.Streams.state c.args.streams.now))
    (call_state c.apply_to_operands.new.w (g.L.Locals.items c.apply_to_operands.new.l) (g.S.Streams.state c.apply_to_operands.new.streams))
    c.apply_to_operands.result)
    (ap (λ (x : Item). operation_on c.args.op x (item_in (extent_of c.args.w.now.heap) c.operand-y.result)
    (item_in (extent_of c.args.w.now.heap) c.operand-z.result)) (c.operand-x.ensures.value (extent_of c.args.w.now.heap))
    ∙ (ap (λ (y : Item). operation_on c.args.op (operand (map (item_in (extent_of c.args.w.now.heap)) c.args.args.now) 0) y
    (item_in (extent_of c.args.w.now.heap) c.operand-z.result)) (c.operand-y.ensures.value (extent_of c.args.w.now.heap))
    ∙ ap (λ (z : Item). operation_on c.args.op (operand (map (item_in (extent_of c.args.w.now.heap)) c.args.args.now) 0)
    (operand (map (item_in (extent_of c.args.w.now.heap)) c.args.args.now) 1) z) (c.operand-z.ensures.value (extent_of c.args.w.now.heap))))
    c.apply_to_operands.ensures
