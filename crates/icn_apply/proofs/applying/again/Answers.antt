use Rattle.icn_value.specs.Store.{bare_outside}
use Rattle.icn_heap.specs.Heaps.{extent_of}
use Rattle.icn_defs.specs.Applying.{again}
use Rattle.icn_vars.specs.Outcomes.{residual_in}
use Rattle.icn_vars.specs.Worlds.{setting_of}
use Rattle.law_names.proofs.RowSizes.{rows_keep_sizes}
use Rattle.law_names.proofs.RowsNamed.{rows_keep_names}
use Rattle.icn_streams.specs.Answers.{call_state}
use Rattle.icn_apply.proofs.NamesStay.{applies_named, elsewhere}
use Rattle.icn_apply.proofs.SizesStay.{applies_sized}
use Rattle.icn_apply.proofs.applying.again.Goals as goal

pub returns-clause-applies : goal.returns-clause-applies
returns-clause-applies g c = c.resume.ensures.applies

pub returns-clause-named : goal.returns-clause-named
returns-clause-named g c =
    applies_named (g.N.Names.known c.args.names.now) (again (residual_in (extent_of c.args.w.now.heap) c.args.rest))
    (call_state c.args.w.now (g.L.Locals.items c.args.l.now)
    (g.S.Streams.state c.args.streams.now))
    (call_state c.resume.new.w (g.L.Locals.items c.resume.new.l) (g.S.Streams.state c.resume.new.streams))
    c.resume.result
    (λ was. rows_keep_names.resumed (g.N.Names.known c.args.names.now) (residual_in (extent_of c.args.w.now.heap) c.args.rest)
    (setting_of was c.args.w.now (g.L.Locals.items c.args.l.now))
    (elsewhere (g.N.Names.known c.args.names.now) c.args.w.now (g.L.Locals.items c.args.l.now) bare_outside was c.requires.named) c.requires.rest_named)
    c.resume.ensures.applies

pub returns-clause-memory : goal.returns-clause-memory
returns-clause-memory g c = c.resume.ensures.memory

pub returns-clause-sized : goal.returns-clause-sized
returns-clause-sized g c =
    applies_sized (again (residual_in (extent_of c.args.w.now.heap) c.args.rest))
    (call_state c.args.w.now (g.L.Locals.items c.args.l.now)
    (g.S.Streams.state c.args.streams.now))
    (call_state c.resume.new.w (g.L.Locals.items c.resume.new.l) (g.S.Streams.state c.resume.new.streams))
    c.resume.result
    (λ was sizes.
    rows_keep_sizes.resumed sizes (residual_in (extent_of c.args.w.now.heap) c.args.rest) (setting_of was c.args.w.now (g.L.Locals.items c.args.l.now)))
    c.resume.ensures.applies
