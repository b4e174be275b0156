use Rattle.std.proofs.Common.{sym, ap, Some}
use Rattle.icn_value.specs.declared.val.Val.TheVariants.{Null}
use Rattle.icn_value.specs.Store.{bare_outside}
use Rattle.icn_heap.specs.Heaps.{extent_of, heap_of}
use Rattle.icn_vars.proofs.ReadValues.{field_there, value_read}
use Rattle.icn_vars.proofs.reading.read_root.Goals as goal

pub field-requires-clause-there : goal.field-requires-clause-there
field-requires-clause-there g c =
    let live = rw c.in-Field.is at c.requires.live.live in
    field_there (heap_of c.args.w.now.heap).records c.in-Field.rec c.in-Field.place live.1

pub returns-in-Global-clause-value : goal.returns-in-Global-clause-value
returns-in-Global-clause-value g c =
    let live = rw c.in-Global.is at c.requires.live.live in
    rw c.in-Global.is
    (value_read (extent_of c.args.w.now.heap) c.args.w.now.globals.items c.in-Global.place c.index.result.now c.index.result.now live c.index.ensures)

pub returns-in-Static-clause-value : goal.returns-in-Static-clause-value
returns-in-Static-clause-value g c =
    let live = rw c.in-Static.is at c.requires.live.live in
    rw c.in-Static.is (value_read (extent_of c.args.w.now.heap) c.args.w.now.statics.items c.in-Static.place c.index-in-Static.result.now
    c.index-in-Static.result.now live c.index-in-Static.ensures)

pub returns-in-Local-clause-value : goal.returns-in-Local-clause-value
returns-in-Local-clause-value g c =
    let live = rw c.in-Local.is at c.requires.live.live in
    let got = rw c.from.ensures at c.get.ensures in
    rw c.in-Local.is (value_read (extent_of c.args.w.now.heap) (g.L.Locals.items c.args.l.now) c.in-Local.place c.get.result Null live got)

pub returns-in-Keyword-clause-value : goal.returns-in-Keyword-clause-value
returns-in-Keyword-clause-value g c =
    rw c.in-Keyword.is (ap Some (sym (c.read_keyword.ensures.value bare_outside (g.L.Locals.items c.args.l.now))))
