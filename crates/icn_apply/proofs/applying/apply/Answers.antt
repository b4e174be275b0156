use Rattle.std.proofs.Common.{map}
use Rattle.icn_value.specs.Store.{bare_outside}
use Rattle.icn_heap.specs.Heaps.{extent_of}
use Rattle.icn_defs.specs.Applying.{operation_row}
use Rattle.icn_vars.specs.Worlds.{item_in, setting_of}
use Rattle.law_names.proofs.RowSizes.{rows_keep_sizes}
use Rattle.law_names.proofs.RowsNamed.{rows_keep_names}
use Rattle.icn_streams.specs.Answers.{call_state}
use Rattle.icn_apply.proofs.NamesStay.{applies_named, elsewhere}
use Rattle.icn_apply.proofs.SizesStay.{applies_sized}
use Rattle.icn_apply.proofs.applying.apply.Goals as goal

pub returns-in-Op-clause-applies : goal.returns-in-Op-clause-applies
returns-in-Op-clause-applies g c = rw c.in-Op.is c.apply_operation.ensures

pub returns-in-Op-clause-named : goal.returns-in-Op-clause-named
returns-in-Op-clause-named g c =
    applies_named (g.N.Names.known c.args.names.now) (operation_row c.in-Op.op (map (item_in (extent_of c.args.w.now.heap)) c.args.args.now))
    (call_state c.args.w.now (g.L.Locals.items c.args.l.now)
    (g.S.Streams.state c.args.streams.now))
    (call_state c.apply_operation.new.w (g.L.Locals.items c.apply_operation.new.l)
    (g.S.Streams.state c.apply_operation.new.streams))
    c.apply_operation.result
    (λ was. rows_keep_names.operations (g.N.Names.known c.args.names.now) c.in-Op.op (map (item_in (extent_of c.args.w.now.heap)) c.args.args.now)
    (setting_of was c.args.w.now (g.L.Locals.items c.args.l.now))
    (elsewhere (g.N.Names.known c.args.names.now) c.args.w.now (g.L.Locals.items c.args.l.now) bare_outside was c.requires.named) c.requires.args_named)
    c.apply_operation.ensures

pub returns-in-Func-clause-applies : goal.returns-in-Func-clause-applies
returns-in-Func-clause-applies g c = rw c.in-Func.is c.apply_function.ensures.applies

pub returns-in-Func-clause-named : goal.returns-in-Func-clause-named
returns-in-Func-clause-named g c = c.apply_function.ensures.named

pub returns-in-Op-clause-sized : goal.returns-in-Op-clause-sized
returns-in-Op-clause-sized g c =
    applies_sized (operation_row c.in-Op.op (map (item_in (extent_of c.args.w.now.heap)) c.args.args.now))
    (call_state c.args.w.now (g.L.Locals.items c.args.l.now)
    (g.S.Streams.state c.args.streams.now))
    (call_state c.apply_operation.new.w (g.L.Locals.items c.apply_operation.new.l)
    (g.S.Streams.state c.apply_operation.new.streams))
    c.apply_operation.result
    (λ was sizes. rows_keep_sizes.operations sizes c.in-Op.op (map (item_in (extent_of c.args.w.now.heap)) c.args.args.now)
    (setting_of was c.args.w.now (g.L.Locals.items c.args.l.now)))
    c.apply_operation.ensures

pub returns-in-Func-clause-sized : goal.returns-in-Func-clause-sized
returns-in-Func-clause-sized g c = c.apply_function.ensures.sized
