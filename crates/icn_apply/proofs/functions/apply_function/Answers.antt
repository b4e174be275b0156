use Rattle.std.proofs.Common.{◌∙◌, ap, map, subst, sym, List}
use Rattle.std.specs.List.{All}
use Rattle.icn_value.specs.Store.{bare_outside}
use Rattle.icn_value.specs.declared.val.Val.{Val}
use Rattle.icn_heap.specs.Extents.{IsLive, value_in}
use Rattle.icn_heap.specs.Heaps.{extent_of}
use Rattle.icn_defs.specs.Applying.{function_of, function_row}
use Rattle.icn_defs.specs.ReadAndAssign.{the_values}
use Rattle.icn_vars.specs.Worlds.{item_in, setting_of}
use Rattle.icn_streams.specs.Answers.{call_state}
use Rattle.icn_streams.proofs.RowAnswers.{applies_same, stops_there}
use Rattle.icn_apply.proofs.NamesStay.{applies_named, elsewhere, function_named, stop_named, vals_named, values_named}
use Rattle.icn_apply.proofs.SizesStay.{applies_sized, function_sized, same_sized}
use Rattle.icn_apply.proofs.functions.apply_function.Goals as goal

pub returns-in_err-vals-clause-applies : goal.returns-in_err-vals-clause-applies
returns-in_err-vals-clause-applies g c =
    stops_there
    (the_values (map (item_in (extent_of c.args.w.now.heap)) c.args.args.now)) (λ values. function_of (g.N.Names.known c.args.names.now) c.args.func values)
    (call_state c.args.w.now (g.L.Locals.items c.args.l.now) (g.S.Streams.state c.args.streams.now))
    c.in_err-vals.field-0.0 c.from_residual.result c.from_residual.ensures.1
    (λ was. c.in_err-vals.ensures.found was) c.in_err-vals.ensures.stops c.requires.locals

pub returns-in_err-vals-clause-named : goal.returns-in_err-vals-clause-named
returns-in_err-vals-clause-named g c =
    stop_named (g.N.Names.known c.args.names.now) (map (item_in (extent_of c.args.w.now.heap)) c.args.args.now) c.args.w.now (g.L.Locals.items c.args.l.now)
    c.in_err-vals.field-0.0 c.from_residual.result c.requires.named c.requires.args_named c.from_residual.ensures.1 (λ was. c.in_err-vals.ensures.found was)

pub returns-in_err-vals-clause-sized : goal.returns-in_err-vals-clause-sized
returns-in_err-vals-clause-sized g c = same_sized c.args.w.now c.from_residual.result

pub apply_to_values-requires-clause-vals : goal.apply_to_values-requires-clause-vals
apply_to_values-requires-clause-vals g c =
    subst (λ (vals : List Val). All (IsLive (extent_of c.args.w.now.heap)) vals) (sym c.deref.ensures.value) c.in_ok-vals.ensures.live

pub apply_to_values-requires-clause-named : goal.apply_to_values-requires-clause-named
apply_to_values-requires-clause-named g c =
    vals_named (g.N.Names.known c.args.names.now) (extent_of c.args.w.now.heap) c.deref.result.now
    (values_named (g.N.Names.known c.args.names.now) (map (item_in (extent_of c.args.w.now.heap)) c.args.args.now) (setting_of bare_outside c.args.w.now
    (g.L.Locals.items c.args.l.now)) (map (value_in (extent_of c.args.w.now.heap)) c.deref.result.now) c.requires.named c.requires.args_named
    (λ next. c.in_ok-vals.ensures.found bare_outside next
    ∙ ap (λ (vals : List Val). next (map (value_in (extent_of c.args.w.now.heap)) vals)
    (setting_of bare_outside c.args.w.now (g.L.Locals.items c.args.l.now))) (sym c.deref.ensures.value)))

pub apply_to_values-requires-clause-heap_named : goal.apply_to_values-requires-clause-heap_named
apply_to_values-requires-clause-heap_named g c = c.requires.named.world.heap

pub returns-clause-applies : goal.returns-clause-applies
returns-clause-applies g c =
    applies_same (function_row (g.N.Names.known c.args.names.now) c.args.func (map (item_in (extent_of c.args.w.now.heap)) c.args.args.now))
    (function_of (g.N.Names.known c.args.names.now) c.args.func (map (value_in (extent_of c.args.w.now.heap)) c.deref.result.now))
    (call_state c.args.w.now (g.L.Locals.items c.args.l.now) (g.S.Streams.state c.args.streams.now))
    (call_state c.apply_to_values.new.w (g.L.Locals.items c.args.l.now) (g.S.Streams.state c.apply_to_values.new.streams))
    c.apply_to_values.result
    (λ was. c.in_ok-vals.ensures.found was (λ values. function_of (g.N.Names.known c.args.names.now) c.args.func values)
    ∙ ap (λ (vals : List Val). function_of (g.N.Names.known c.args.names.now) c.args.func (map (value_in (extent_of c.args.w.now.heap)) vals)
    (setting_of was c.args.w.now (g.L.Locals.items c.args.l.now))) (sym c.deref.ensures.value))
    c.apply_to_values.ensures

pub returns-clause-named : goal.returns-clause-named
returns-clause-named g c =
    let named = values_named (g.N.Names.known c.args.names.now) (map (item_in (extent_of c.args.w.now.heap)) c.args.args.now) (setting_of bare_outside
    c.args.w.now (g.L.Locals.items c.args.l.now)) (map (value_in (extent_of c.args.w.now.heap)) c.deref.result.now) c.requires.named c.requires.args_named
    (λ next. c.in_ok-vals.ensures.found bare_outside next
    ∙ ap (λ (vals : List Val). next (map (value_in (extent_of c.args.w.now.heap)) vals)
    (setting_of bare_outside c.args.w.now (g.L.Locals.items c.args.l.now))) (sym c.deref.ensures.value)) in
    applies_named (g.N.Names.known c.args.names.now)
    (function_of (g.N.Names.known c.args.names.now) c.args.func (map (value_in (extent_of c.args.w.now.heap)) c.deref.result.now))
    (call_state c.args.w.now (g.L.Locals.items c.args.l.now) (g.S.Streams.state c.args.streams.now))
    (call_state c.apply_to_values.new.w (g.L.Locals.items c.args.l.now) (g.S.Streams.state c.apply_to_values.new.streams))
    c.apply_to_values.result
    (λ was. function_named (g.N.Names.known c.args.names.now) c.args.func c.args.w.now (g.L.Locals.items c.args.l.now) was c.deref.result.now
    (elsewhere (g.N.Names.known c.args.names.now) c.args.w.now (g.L.Locals.items c.args.l.now) bare_outside was c.requires.named) named
    (subst (λ (vals : List Val). All (IsLive (extent_of c.args.w.now.heap)) vals) (sym c.deref.ensures.value) c.in_ok-vals.ensures.live))
    c.apply_to_values.ensures

pub returns-clause-sized : goal.returns-clause-sized
returns-clause-sized g c =
    applies_sized (function_of (g.N.Names.known c.args.names.now) c.args.func (map (value_in (extent_of c.args.w.now.heap)) c.deref.result.now))
    (call_state c.args.w.now (g.L.Locals.items c.args.l.now) (g.S.Streams.state c.args.streams.now))
    (call_state c.apply_to_values.new.w (g.L.Locals.items c.args.l.now) (g.S.Streams.state c.apply_to_values.new.streams))
    c.apply_to_values.result
    (λ was. function_sized (g.N.Names.known c.args.names.now) c.args.func c.args.w.now (g.L.Locals.items c.args.l.now) was c.deref.result.now
    (subst (λ (vals : List Val). All (IsLive (extent_of c.args.w.now.heap)) vals) (sym c.deref.ensures.value) c.in_ok-vals.ensures.live))
    c.apply_to_values.ensures
