use Rattle.std.proofs.Common.{map}
use Rattle.icn_value.specs.Store.{bare_outside}
use Rattle.icn_heap.specs.Extents.{value_in}
use Rattle.icn_heap.specs.Heaps.{extent_of}
use Rattle.icn_defs.specs.Applying.{function_of}
use Rattle.icn_streams.specs.Answers.{call_state}
use Rattle.icn_apply.proofs.NamesStay.{applies_named, elsewhere, function_named, vals_named}
use Rattle.icn_apply.proofs.SizesStay.{applies_sized, function_sized}
use Rattle.icn_apply.proofs.functions.function_outcome.Goals as goal

pub apply_to_values-requires-clause-named : goal.apply_to_values-requires-clause-named
apply_to_values-requires-clause-named g c =
    vals_named (g.N.Names.known c.args.names.now) (extent_of c.args.w.now.heap) c.args.vals.now c.requires.vals_named

pub apply_to_values-requires-clause-heap_named : goal.apply_to_values-requires-clause-heap_named
apply_to_values-requires-clause-heap_named g c = c.requires.named.world.heap

pub returns-clause-named : goal.returns-clause-named
returns-clause-named g c =
    let names = g.N.Names.known c.args.names.now in
    let locals = g.L.Locals.items c.args.l.now in
    let w = c.args.w.now in
    applies_named names (function_of names c.args.func (map (value_in (extent_of w.heap)) c.args.vals.now))
    (call_state w locals (g.S.Streams.state c.args.streams.now))
    (call_state c.apply_to_values.new.w locals (g.S.Streams.state c.apply_to_values.new.streams))
    c.apply_to_values.result
    (λ was. function_named names c.args.func w locals was c.args.vals.now (elsewhere names w locals bare_outside was c.requires.named)
    c.requires.vals_named c.requires.vals)
    c.apply_to_values.ensures

pub returns-clause-sized : goal.returns-clause-sized
returns-clause-sized g c =
    let names = g.N.Names.known c.args.names.now in
    let locals = g.L.Locals.items c.args.l.now in
    let w = c.args.w.now in
    applies_sized (function_of names c.args.func (map (value_in (extent_of w.heap)) c.args.vals.now))
    (call_state w locals (g.S.Streams.state c.args.streams.now))
    (call_state c.apply_to_values.new.w locals (g.S.Streams.state c.apply_to_values.new.streams))
    c.apply_to_values.result
    (λ was. function_sized names c.args.func w locals was c.args.vals.now c.requires.vals)
    c.apply_to_values.ensures
