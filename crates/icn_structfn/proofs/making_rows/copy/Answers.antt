use Rattle.std.proofs.Common.{◌∙◌, sym, ap, map}
use Rattle.icn_heap.specs.Extents.{value_in}
use Rattle.icn_heap.specs.Heaps.{extent_of}
use Rattle.icn_defs.specs.Conversions.{group_of}
use Rattle.icn_defs.specs.Rows.{gives_value}
use Rattle.icn_defs.specs.Structures.{copy_of, copy_row}
use Rattle.icn_vars.specs.Worlds.{setting_of}
use Rattle.icn_structfn.specs.Copies.{copy_of_value}
use Rattle.icn_structfn.proofs.CopiedStructures.{copies}
use Rattle.icn_structfn.proofs.RowAnswers.{stops_finding}
use Rattle.icn_structfn.proofs.making_rows.copy.Goals as goal

pub returns-in_err-copy-clause-row : goal.returns-in_err-copy-clause-row
returns-in_err-copy-clause-row g c outside =
    stops_finding (extent_of c.copy_of.new.w.heap) (copy_row (map (value_in (extent_of c.args.w.now.heap)) c.args.args.now))
    (copy_of_value (value_in (extent_of c.args.w.now.heap) c.arg.result)) gives_value (setting_of outside c.args.w.now (g.L.Locals.items c.args.l.now))
    (setting_of outside c.args.w.now (g.L.Locals.items c.args.l.now))
    (setting_of outside c.copy_of.new.w (g.L.Locals.items c.args.l.now)) c.in_err-copy.field-0.0 c.from_residual.result
    ((ap (λ v. copy_of v (group_of v) (setting_of outside c.args.w.now (g.L.Locals.items c.args.l.now)))
    (sym (c.arg.ensures.value (extent_of c.args.w.now.heap)))
    ∙ copies (value_in (extent_of c.args.w.now.heap) c.arg.result) (setting_of outside c.args.w.now (g.L.Locals.items c.args.l.now))))
    c.from_residual.ensures.1 (c.in_err-copy.ensures.found outside)

pub returns-clause-row : goal.returns-clause-row
returns-clause-row g c outside =
    (ap (λ v. copy_of v (group_of v) (setting_of outside c.args.w.now (g.L.Locals.items c.args.l.now)))
    (sym (c.arg.ensures.value (extent_of c.args.w.now.heap)))
    ∙ copies (value_in (extent_of c.args.w.now.heap) c.arg.result) (setting_of outside c.args.w.now (g.L.Locals.items c.args.l.now)))
    ∙ c.in_ok-copy.ensures.found outside gives_value
