use Rattle.std.proofs.Common.{map}
use Rattle.icn_heap.specs.Extents.{value_in}
use Rattle.icn_heap.specs.Heaps.{extent_of}
use Rattle.icn_vars.specs.Worlds.{setting_of}
use Rattle.icn_apply.proofs.ProcedureRows.{proc_fails, proc_gives}
use Rattle.icn_apply.proofs.naming.proc_row.Goals as goal

pub procedure_of-requires : goal.procedure_of-requires
procedure_of-requires g c = c.first_argument-val.ensures.live _ c.requires.live.args

pub returns-in-Some-clause-row : goal.returns-in-Some-clause-row
returns-in-Some-clause-row g c = λ outside.
    proc_gives (g.N.Names.known c.args.names.now) (map (value_in (extent_of c.args.w.now.heap)) c.args.args.now)
    (value_in (extent_of c.args.w.now.heap) c.first_argument-val.result) (c.first_argument-val.ensures.value (extent_of c.args.w.now.heap))
    (setting_of outside c.args.w.now (g.L.Locals.items c.args.l.now)) c.in-Some.number c.in-Some.ensures

pub returns-in-None-clause-row : goal.returns-in-None-clause-row
returns-in-None-clause-row g c = λ outside.
    proc_fails (g.N.Names.known c.args.names.now) (map (value_in (extent_of c.args.w.now.heap)) c.args.args.now)
    (value_in (extent_of c.args.w.now.heap) c.first_argument-val.result) (c.first_argument-val.ensures.value (extent_of c.args.w.now.heap))
    (setting_of outside c.args.w.now (g.L.Locals.items c.args.l.now)) c.in-None.ensures
