use Rattle.icn_heap.specs.Extents.{value_in}
use Rattle.icn_heap.specs.Heaps.{extent_of}
use Rattle.icn_vars.specs.Worlds.{item_in, setting_of}
use Rattle.icn_ops.proofs.OtherKinds.{no_subscript}
use Rattle.icn_ops.proofs.subscripts.subscript_of.Goals as goal

pub returns-in-Integer-clause-row : goal.returns-in-Integer-clause-row
returns-in-Integer-clause-row g c = λ outside.
    rw c.in-Integer.is (rw c.in-Integer.is at (c.text_subscript.ensures.row outside))

pub returns-in-Text-clause-row : goal.returns-in-Text-clause-row
returns-in-Text-clause-row g c = λ outside.
    rw c.in-Text.is (rw c.in-Text.is at (c.text_subscript-in-Text.ensures.row outside))

pub returns-in-Chars-clause-row : goal.returns-in-Chars-clause-row
returns-in-Chars-clause-row g c = λ outside.
    rw c.in-Chars.is (rw c.in-Chars.is at (c.text_subscript-in-Chars.ensures.row outside))

pub returns-in-List-clause-row : goal.returns-in-List-clause-row
returns-in-List-clause-row g c = λ outside.
    rw c.in-List.is (c.list_subscript.ensures.row outside)

pub returns-in-Rec-clause-row : goal.returns-in-Rec-clause-row
returns-in-Rec-clause-row g c = λ outside.
    rw c.in-Rec.is (c.record_subscript.ensures.row outside)

pub returns-in_default-clause-row : goal.returns-in_default-clause-row
returns-in_default-clause-row g c = λ outside. no_subscript (extent_of c.args.w.now.heap) c.args.val (item_in (extent_of c.args.w.now.heap) c.args.x)
    (value_in (extent_of c.args.w.now.heap) c.args.at) (setting_of outside c.args.w.now (g.L.Locals.items c.args.l.now)) c.in_default.not-Integer
    c.in_default.not-Text c.in_default.not-Chars c.in_default.not-List c.in_default.not-Table c.in_default.not-Rec
