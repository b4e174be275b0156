use Rattle.std.proofs.Common.{◌∙◌, sym, ap, map}
use Rattle.icn_heap.specs.Extents.{value_in}
use Rattle.icn_heap.specs.Heaps.{extent_of}
use Rattle.icn_defs.specs.Arguments.{list_of}
use Rattle.icn_defs.specs.Rows.{gives_value}
use Rattle.icn_defs.specs.Structures.{new_set_by, set_row}
use Rattle.icn_vars.specs.Worlds.{setting_of}
use Rattle.icn_structfn.specs.Copies.{set_of_value}
use Rattle.icn_structfn.proofs.CopiedStructures.{sets}
use Rattle.icn_structfn.proofs.RowAnswers.{stops_finding}
use Rattle.icn_structfn.proofs.making_rows.set.Goals as goal

pub returns-in_err-set-clause-row : goal.returns-in_err-set-clause-row
returns-in_err-set-clause-row g c outside =
    stops_finding (extent_of c.set_of.new.w.heap)
    (set_row (map (value_in (extent_of c.args.w.now.heap)) c.args.args.now)) (set_of_value (value_in (extent_of c.args.w.now.heap) c.arg.result)) gives_value
    (setting_of outside c.args.w.now (g.L.Locals.items c.args.l.now)) (setting_of outside c.args.w.now (g.L.Locals.items c.args.l.now))
    (setting_of outside c.set_of.new.w (g.L.Locals.items c.args.l.now)) c.in_err-set.field-0.0 c.from_residual.result
    ((ap (λ v. new_set_by v (list_of v) (setting_of outside c.args.w.now (g.L.Locals.items c.args.l.now)))
    (sym (c.arg.ensures.value (extent_of c.args.w.now.heap)))
    ∙ sets (value_in (extent_of c.args.w.now.heap) c.arg.result) (setting_of outside c.args.w.now (g.L.Locals.items c.args.l.now))))
    c.from_residual.ensures.1 (c.in_err-set.ensures.found outside)

pub returns-clause-row : goal.returns-clause-row
returns-clause-row g c outside =
    (ap (λ v. new_set_by v (list_of v) (setting_of outside c.args.w.now (g.L.Locals.items c.args.l.now)))
    (sym (c.arg.ensures.value (extent_of c.args.w.now.heap)))
    ∙ sets (value_in (extent_of c.args.w.now.heap) c.arg.result) (setting_of outside c.args.w.now (g.L.Locals.items c.args.l.now)))
    ∙ c.in_ok-set.ensures.found outside gives_value
