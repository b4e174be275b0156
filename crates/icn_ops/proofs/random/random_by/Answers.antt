use Rattle.std.proofs.Common.{FitsSigned, ap, rules, subst, sym, ℤ}
use Rattle.std.specs.Int.{w64}
use Rattle.std.proofs.lemmas.Int.{to_z-of_z}
use Rattle.icn_value.specs.Values.{Integer, Value}
use Rattle.icn_defs.specs.Conversions.{held_integer}
use Rattle.icn_defs.specs.Elements.{random_by, random_number}
use Rattle.icn_heap.specs.Extents.{value_in}
use Rattle.icn_heap.specs.Heaps.{extent_of}
use Rattle.icn_vars.specs.Worlds.{item_in, setting_of}
use Rattle.icn_vars.specs.Outcomes.{ComesToAnswer}
use Rattle.icn_ops.proofs.OtherKinds.{no_random}
use Rattle.icn_ops.proofs.random.random_by.Goals as goal

pub returns-in-Integer-clause-row : goal.returns-in-Integer-clause-row
returns-in-Integer-clause-row g c = λ outside.
    subst (λ (v : Value). ComesToAnswer (extent_of c.random_number.new.w.heap) (random_by (item_in (extent_of c.args.w.now.heap) c.args.x) v (held_integer v))
    (setting_of outside c.args.w.now (g.L.Locals.items c.args.l.now)) (setting_of outside c.random_number.new.w (g.L.Locals.items c.args.l.now))
    c.random_number.result) (sym (ap (value_in (extent_of c.args.w.now.heap)) c.in-Integer.is))
    (subst (λ (k : ℤ). ComesToAnswer (extent_of c.random_number.new.w.heap) (random_number (Integer c.in-Integer.n) k) (setting_of outside c.args.w.now
    (g.L.Locals.items c.args.l.now)) (setting_of outside c.random_number.new.w (g.L.Locals.items c.args.l.now)) c.random_number.result)
    (to_z-of_z w64 c.in-Integer.n (let fits : FitsSigned w64 c.in-Integer.n = search rules in fits)) (c.random_number.ensures.row outside))

pub returns-in-Text-clause-row : goal.returns-in-Text-clause-row
returns-in-Text-clause-row g c = λ outside.
    rw c.in-Text.is (rw c.in-Text.is at (c.random_byte.ensures.row outside))

pub returns-in-Chars-clause-row : goal.returns-in-Chars-clause-row
returns-in-Chars-clause-row g c = λ outside.
    rw c.in-Chars.is (rw c.in-Chars.is at (c.random_byte-in-Chars.ensures.row outside))

pub returns-in-List-clause-row : goal.returns-in-List-clause-row
returns-in-List-clause-row g c = λ outside.
    rw c.in-List.is (c.random_item.ensures.row outside)

pub returns-in-Set-clause-row : goal.returns-in-Set-clause-row
returns-in-Set-clause-row g c = λ outside.
    rw c.in-Set.is (c.random_member.ensures.row outside)

pub returns-in-Table-clause-row : goal.returns-in-Table-clause-row
returns-in-Table-clause-row g c = λ outside.
    rw c.in-Table.is (c.random_value.ensures.row outside)

pub returns-in-Rec-clause-row : goal.returns-in-Rec-clause-row
returns-in-Rec-clause-row g c = λ outside.
    rw c.in-Rec.is (c.random_field.ensures.row outside)

pub returns-in_default-clause-row : goal.returns-in_default-clause-row
returns-in_default-clause-row g c = λ outside. no_random (extent_of c.args.w.now.heap) c.args.val (item_in (extent_of c.args.w.now.heap) c.args.x)
    (setting_of outside c.args.w.now (g.L.Locals.items c.args.l.now)) c.in_default.not-Integer c.in_default.not-Text c.in_default.not-Chars
    c.in_default.not-List c.in_default.not-Set c.in_default.not-Table c.in_default.not-Rec
