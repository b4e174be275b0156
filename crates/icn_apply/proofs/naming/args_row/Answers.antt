use Rattle.std.proofs.Common.{◌∙◌, FitsSigned, ap, map, rules, subst, sym, w64}
use Rattle.std.proofs.lemmas.Int.{to_z-of_z}
use Rattle.icn_value.specs.Values.{Integer, Val as ItemVal}
use Rattle.icn_defs.specs.Rows.{Gives}
use Rattle.icn_heap.specs.Extents.{value_in}
use Rattle.icn_heap.specs.Heaps.{extent_of}
use Rattle.icn_convert.specs.ProgramNames.{IsNamed}
use Rattle.icn_vars.specs.Worlds.{setting_of}
use Rattle.icn_apply.proofs.ProcedureRows.{args_gives, args_refused, no_procedure}
use Rattle.icn_apply.proofs.naming.args_row.Goals as goal

pub arguments-requires : goal.arguments-requires
arguments-requires g c =
    (subst (IsNamed (g.N.Names.known c.args.names.now)) c.in-Proc.is (c.first_argument-val.ensures.named _ c.requires.named)).named

pub returns-in-Proc-clause-row : goal.returns-in-Proc-clause-row
returns-in-Proc-clause-row g c = λ outside.
    let fits : FitsSigned w64 c.arguments.result = search rules in
    args_gives (g.N.Names.known c.args.names.now) (map (value_in (extent_of c.args.w.now.heap)) c.args.args.now)
    (value_in (extent_of c.args.w.now.heap) c.first_argument-val.result) (c.first_argument-val.ensures.value (extent_of c.args.w.now.heap))
    (setting_of outside c.args.w.now (g.L.Locals.items c.args.l.now)) c.in-Proc.number
    (ap (value_in (extent_of c.args.w.now.heap)) c.in-Proc.is)
    ∙ ap (λ n. Gives (ItemVal (Integer n)) (setting_of outside c.args.w.now (g.L.Locals.items c.args.l.now)))
    (sym (to_z-of_z w64 c.arguments.result fits ∙ c.arguments.ensures))

pub returns-in_default-clause-row : goal.returns-in_default-clause-row
returns-in_default-clause-row g c = λ outside.
    args_refused (g.N.Names.known c.args.names.now) (map (value_in (extent_of c.args.w.now.heap)) c.args.args.now)
    (value_in (extent_of c.args.w.now.heap) c.first_argument-val.result) (c.first_argument-val.ensures.value (extent_of c.args.w.now.heap))
    (setting_of outside c.args.w.now (g.L.Locals.items c.args.l.now))
    (no_procedure (extent_of c.args.w.now.heap) c.first_argument-val.result c.in_default.not-Proc)
