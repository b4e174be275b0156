use Rattle.std.proofs.Common.{◌∙◌, sym, ap}
use Rattle.icn_value.specs.Values.{Value}
use Rattle.icn_heap.specs.Extents.{value_in}
use Rattle.icn_heap.specs.Heaps.{extent_of}
use Rattle.icn_defs.specs.Arguments.{table}
use Rattle.icn_vars.specs.Worlds.{setting_of}
use Rattle.icn_defs.specs.Structures.{table_keys_from}
use Rattle.icn_structfn.proofs.keys.key.Goals as goal

pub returns-in-Table-clause-row : goal.returns-in-Table-clause-row
returns-in-Table-clause-row g c outside =
    ap (λ (v : Value). table v (λ id. table_keys_from id 0) (setting_of outside c.args.w.now (g.L.Locals.items c.args.l.now)))
    (sym (c.arg-table.ensures.value (extent_of c.args.w.now.heap)) ∙ ap (value_in (extent_of c.args.w.now.heap)) c.in-Table.is)
    ∙ c.key_again.ensures.row outside
