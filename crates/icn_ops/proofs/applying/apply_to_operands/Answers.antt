use Rattle.std.proofs.Common.{Ok, refl}
use Rattle.icn_defs.specs.Arithmetic.{add_row, divide_row, equal_row, greater_or_equal_row, greater_row, less_or_equal_row, less_row, multiply_row, negate_row, not_equal_row, number_row, power_row, remainder_row, subtract_row, to_by_row}
use Rattle.icn_defs.specs.Elements.{random_row}
use Rattle.icn_defs.specs.Operations.{complement_row, concatenate_lists_row, concatenate_row, dereference_row, difference_row, equivalent_row, intersection_row, is_not_null_row, is_null_row, lexically_equal_row, lexically_greater_or_equal_row, lexically_greater_row, lexically_less_or_equal_row, lexically_less_row, lexically_not_equal_row, not_equivalent_row, size_row, union_row}
use Rattle.icn_defs.specs.Scanning.{tab_match_row}
use Rattle.icn_defs.specs.Variables.{assign_row, reversible_assign_row, reversible_swap_row, section_minus_row, section_plus_row, section_row, subscript_row, swap_row}
use Rattle.icn_defs.specs.Rows.{fails}
use Rattle.icn_heap.specs.Heaps.{extent_of}
use Rattle.icn_vars.specs.Outcomes.{answer_of}
use Rattle.icn_vars.specs.Worlds.{item_in, reach_of}
use Rattle.icn_vars.specs.declared.outcome.Outcome.TheVariants.{Fails as FailsOutcome}
use Rattle.icn_vars.proofs.KeptItems.{keeps_items_refl}
use Rattle.icn_streams.proofs.QuietRows.{faultless_applies}
use Rattle.icn_ops.proofs.applying.apply_to_operands.Goals as goal

pub returns-in-IsNull : goal.returns-in-IsNull
returns-in-IsNull g c = rw c.in-IsNull.is
    (faultless_applies (is_null_row (item_in (extent_of c.args.w.now.heap) c.args.x)) c.args.w.now c.args.w.now (g.L.Locals.items c.args.l.now)
    (g.L.Locals.items c.args.l.now)
    (g.S.Streams.state c.args.streams.now) c.is_null_row.result (λ was. c.is_null_row.ensures.row was) c.is_null_row.ensures.live
    c.requires.live.locals (keeps_items_refl (reach_of c.args.w.now (g.L.Locals.items c.args.l.now))))

pub returns-in-IsNotNull : goal.returns-in-IsNotNull
returns-in-IsNotNull g c = rw c.in-IsNotNull.is
    (faultless_applies (is_not_null_row (item_in (extent_of c.args.w.now.heap) c.args.x)) c.args.w.now c.args.w.now (g.L.Locals.items c.args.l.now)
    (g.L.Locals.items c.args.l.now)
    (g.S.Streams.state c.args.streams.now) c.is_not_null_row.result (λ was. c.is_not_null_row.ensures.row was) c.is_not_null_row.ensures.live
    c.requires.live.locals (keeps_items_refl (reach_of c.args.w.now (g.L.Locals.items c.args.l.now))))

pub returns-in-Dereference : goal.returns-in-Dereference
returns-in-Dereference g c = rw c.in-Dereference.is
    (faultless_applies (dereference_row (item_in (extent_of c.args.w.now.heap) c.args.x)) c.args.w.now c.args.w.now (g.L.Locals.items c.args.l.now)
    (g.L.Locals.items c.args.l.now)
    (g.S.Streams.state c.args.streams.now) c.dereference_row.result (λ was. c.dereference_row.ensures.row was) c.dereference_row.ensures.live
    c.requires.live.locals (keeps_items_refl (reach_of c.args.w.now (g.L.Locals.items c.args.l.now))))

pub returns-in-Number : goal.returns-in-Number
returns-in-Number g c = rw c.in-Number.is
    (faultless_applies (number_row (item_in (extent_of c.args.w.now.heap) c.args.x)) c.args.w.now c.args.w.now (g.L.Locals.items c.args.l.now)
    (g.L.Locals.items c.args.l.now)
    (g.S.Streams.state c.args.streams.now) c.number_row.result (λ was. c.number_row.ensures.row was) c.number_row.ensures.live
    c.requires.live.locals (keeps_items_refl (reach_of c.args.w.now (g.L.Locals.items c.args.l.now))))

pub returns-in-Negate : goal.returns-in-Negate
returns-in-Negate g c = rw c.in-Negate.is
    (faultless_applies (negate_row (item_in (extent_of c.args.w.now.heap) c.args.x)) c.args.w.now c.args.w.now (g.L.Locals.items c.args.l.now)
    (g.L.Locals.items c.args.l.now)
    (g.S.Streams.state c.args.streams.now) c.negate_row.result (λ was. c.negate_row.ensures.row was) c.negate_row.ensures.live
    c.requires.live.locals (keeps_items_refl (reach_of c.args.w.now (g.L.Locals.items c.args.l.now))))

pub returns-in-Size : goal.returns-in-Size
returns-in-Size g c = rw c.in-Size.is
    (faultless_applies (size_row (item_in (extent_of c.args.w.now.heap) c.args.x)) c.args.w.now c.args.w.now (g.L.Locals.items c.args.l.now)
    (g.L.Locals.items c.args.l.now)
    (g.S.Streams.state c.args.streams.now) c.size_row.result (λ was. c.size_row.ensures.row was) c.size_row.ensures.live
    c.requires.live.locals (keeps_items_refl (reach_of c.args.w.now (g.L.Locals.items c.args.l.now))))

pub returns-in-Complement : goal.returns-in-Complement
returns-in-Complement g c = rw c.in-Complement.is
    (faultless_applies (complement_row (item_in (extent_of c.args.w.now.heap) c.args.x)) c.args.w.now c.args.w.now (g.L.Locals.items c.args.l.now)
    (g.L.Locals.items c.args.l.now)
    (g.S.Streams.state c.args.streams.now) c.complement_row.result (λ was. c.complement_row.ensures.row was) c.complement_row.ensures.live
    c.requires.live.locals (keeps_items_refl (reach_of c.args.w.now (g.L.Locals.items c.args.l.now))))

pub returns-in-Elements : goal.returns-in-Elements
returns-in-Elements g c = rw c.in-Elements.is c.elements_row.ensures

pub returns-in-Random : goal.returns-in-Random
returns-in-Random g c = rw c.in-Random.is
    (faultless_applies (random_row (item_in (extent_of c.args.w.now.heap) c.args.x)) c.args.w.now c.random_row.new.w (g.L.Locals.items c.args.l.now)
    (g.L.Locals.items c.args.l.now)
    (g.S.Streams.state c.args.streams.now) c.random_row.result (λ was. c.random_row.ensures.row was) c.random_row.ensures.live
    c.random_row.ensures.kept.locals c.random_row.ensures.kept.items)

pub returns-in-TabMatch : goal.returns-in-TabMatch
returns-in-TabMatch g c = rw c.in-TabMatch.is
    (faultless_applies (tab_match_row (item_in (extent_of c.args.w.now.heap) c.args.x)) c.args.w.now c.tab_match_row.new.w (g.L.Locals.items c.args.l.now)
    (g.L.Locals.items c.args.l.now)
    (g.S.Streams.state c.args.streams.now) c.tab_match_row.result (λ was. c.tab_match_row.ensures.row was) c.tab_match_row.ensures.live
    c.tab_match_row.ensures.kept.locals c.tab_match_row.ensures.kept.items)

pub returns-in-Refresh : goal.returns-in-Refresh
returns-in-Refresh g c = rw c.in-Refresh.is
    (faultless_applies fails c.args.w.now c.args.w.now (g.L.Locals.items c.args.l.now) (g.L.Locals.items c.args.l.now) (g.S.Streams.state c.args.streams.now)
    (Ok FailsOutcome) (λ was. refl) (record { live = tt }) c.requires.live.locals (keeps_items_refl (reach_of c.args.w.now (g.L.Locals.items c.args.l.now))))

pub returns-in-Add : goal.returns-in-Add
returns-in-Add g c = rw c.in-Add.is
    (faultless_applies (add_row (item_in (extent_of c.args.w.now.heap) c.args.x) (item_in (extent_of c.args.w.now.heap) c.args.y)) c.args.w.now c.args.w.now
    (g.L.Locals.items c.args.l.now) (g.L.Locals.items c.args.l.now)
    (g.S.Streams.state c.args.streams.now) c.add_row.result (λ was. c.add_row.ensures.row was) c.add_row.ensures.live
    c.requires.live.locals (keeps_items_refl (reach_of c.args.w.now (g.L.Locals.items c.args.l.now))))

pub returns-in-Subtract : goal.returns-in-Subtract
returns-in-Subtract g c = rw c.in-Subtract.is
    (faultless_applies (subtract_row (item_in (extent_of c.args.w.now.heap) c.args.x) (item_in (extent_of c.args.w.now.heap) c.args.y)) c.args.w.now
    c.args.w.now (g.L.Locals.items c.args.l.now) (g.L.Locals.items c.args.l.now)
    (g.S.Streams.state c.args.streams.now) c.subtract_row.result (λ was. c.subtract_row.ensures.row was) c.subtract_row.ensures.live
    c.requires.live.locals (keeps_items_refl (reach_of c.args.w.now (g.L.Locals.items c.args.l.now))))

pub returns-in-Multiply : goal.returns-in-Multiply
returns-in-Multiply g c = rw c.in-Multiply.is
    (faultless_applies (multiply_row (item_in (extent_of c.args.w.now.heap) c.args.x) (item_in (extent_of c.args.w.now.heap) c.args.y)) c.args.w.now
    c.args.w.now (g.L.Locals.items c.args.l.now) (g.L.Locals.items c.args.l.now)
    (g.S.Streams.state c.args.streams.now) c.multiply_row.result (λ was. c.multiply_row.ensures.row was) c.multiply_row.ensures.live
    c.requires.live.locals (keeps_items_refl (reach_of c.args.w.now (g.L.Locals.items c.args.l.now))))

pub returns-in-Divide : goal.returns-in-Divide
returns-in-Divide g c = rw c.in-Divide.is
    (faultless_applies (divide_row (item_in (extent_of c.args.w.now.heap) c.args.x) (item_in (extent_of c.args.w.now.heap) c.args.y)) c.args.w.now c.args.w.now
    (g.L.Locals.items c.args.l.now) (g.L.Locals.items c.args.l.now)
    (g.S.Streams.state c.args.streams.now) c.divide_row.result (λ was. c.divide_row.ensures.row was) c.divide_row.ensures.live
    c.requires.live.locals (keeps_items_refl (reach_of c.args.w.now (g.L.Locals.items c.args.l.now))))

pub returns-in-Remainder : goal.returns-in-Remainder
returns-in-Remainder g c = rw c.in-Remainder.is
    (faultless_applies (remainder_row (item_in (extent_of c.args.w.now.heap) c.args.x) (item_in (extent_of c.args.w.now.heap) c.args.y)) c.args.w.now
    c.args.w.now (g.L.Locals.items c.args.l.now) (g.L.Locals.items c.args.l.now)
    (g.S.Streams.state c.args.streams.now) c.remainder_row.result (λ was. c.remainder_row.ensures.row was) c.remainder_row.ensures.live
    c.requires.live.locals (keeps_items_refl (reach_of c.args.w.now (g.L.Locals.items c.args.l.now))))

pub returns-in-Power : goal.returns-in-Power
returns-in-Power g c = rw c.in-Power.is
    (faultless_applies (power_row (item_in (extent_of c.args.w.now.heap) c.args.x) (item_in (extent_of c.args.w.now.heap) c.args.y)) c.args.w.now c.args.w.now
    (g.L.Locals.items c.args.l.now) (g.L.Locals.items c.args.l.now)
    (g.S.Streams.state c.args.streams.now) c.power_row.result (λ was. c.power_row.ensures.row was) c.power_row.ensures.live
    c.requires.live.locals (keeps_items_refl (reach_of c.args.w.now (g.L.Locals.items c.args.l.now))))

pub returns-in-Less : goal.returns-in-Less
returns-in-Less g c = rw c.in-Less.is
    (faultless_applies (less_row (item_in (extent_of c.args.w.now.heap) c.args.x) (item_in (extent_of c.args.w.now.heap) c.args.y)) c.args.w.now c.args.w.now
    (g.L.Locals.items c.args.l.now) (g.L.Locals.items c.args.l.now)
    (g.S.Streams.state c.args.streams.now) c.less_row.result (λ was. c.less_row.ensures.row was) c.less_row.ensures.live
    c.requires.live.locals (keeps_items_refl (reach_of c.args.w.now (g.L.Locals.items c.args.l.now))))

pub returns-in-LessOrEqual : goal.returns-in-LessOrEqual
returns-in-LessOrEqual g c = rw c.in-LessOrEqual.is
    (faultless_applies (less_or_equal_row (item_in (extent_of c.args.w.now.heap) c.args.x) (item_in (extent_of c.args.w.now.heap) c.args.y)) c.args.w.now
    c.args.w.now (g.L.Locals.items c.args.l.now) (g.L.Locals.items c.args.l.now)
    (g.S.Streams.state c.args.streams.now) c.less_or_equal_row.result (λ was. c.less_or_equal_row.ensures.row was) c.less_or_equal_row.ensures.live
    c.requires.live.locals (keeps_items_refl (reach_of c.args.w.now (g.L.Locals.items c.args.l.now))))

pub returns-in-Equal : goal.returns-in-Equal
returns-in-Equal g c = rw c.in-Equal.is
    (faultless_applies (equal_row (item_in (extent_of c.args.w.now.heap) c.args.x) (item_in (extent_of c.args.w.now.heap) c.args.y)) c.args.w.now c.args.w.now
    (g.L.Locals.items c.args.l.now) (g.L.Locals.items c.args.l.now)
    (g.S.Streams.state c.args.streams.now) c.equal_row.result (λ was. c.equal_row.ensures.row was) c.equal_row.ensures.live
    c.requires.live.locals (keeps_items_refl (reach_of c.args.w.now (g.L.Locals.items c.args.l.now))))

pub returns-in-GreaterOrEqual : goal.returns-in-GreaterOrEqual
returns-in-GreaterOrEqual g c = rw c.in-GreaterOrEqual.is
    (faultless_applies (greater_or_equal_row (item_in (extent_of c.args.w.now.heap) c.args.x) (item_in (extent_of c.args.w.now.heap) c.args.y)) c.args.w.now
    c.args.w.now (g.L.Locals.items c.args.l.now) (g.L.Locals.items c.args.l.now)
    (g.S.Streams.state c.args.streams.now) c.greater_or_equal_row.result (λ was. c.greater_or_equal_row.ensures.row was) c.greater_or_equal_row.ensures.live
    c.requires.live.locals (keeps_items_refl (reach_of c.args.w.now (g.L.Locals.items c.args.l.now))))

pub returns-in-Greater : goal.returns-in-Greater
returns-in-Greater g c = rw c.in-Greater.is
    (faultless_applies (greater_row (item_in (extent_of c.args.w.now.heap) c.args.x) (item_in (extent_of c.args.w.now.heap) c.args.y)) c.args.w.now c.args.w.now
    (g.L.Locals.items c.args.l.now) (g.L.Locals.items c.args.l.now)
    (g.S.Streams.state c.args.streams.now) c.greater_row.result (λ was. c.greater_row.ensures.row was) c.greater_row.ensures.live
    c.requires.live.locals (keeps_items_refl (reach_of c.args.w.now (g.L.Locals.items c.args.l.now))))

pub returns-in-NotEqual : goal.returns-in-NotEqual
returns-in-NotEqual g c = rw c.in-NotEqual.is
    (faultless_applies (not_equal_row (item_in (extent_of c.args.w.now.heap) c.args.x) (item_in (extent_of c.args.w.now.heap) c.args.y)) c.args.w.now
    c.args.w.now (g.L.Locals.items c.args.l.now) (g.L.Locals.items c.args.l.now)
    (g.S.Streams.state c.args.streams.now) c.not_equal_row.result (λ was. c.not_equal_row.ensures.row was) c.not_equal_row.ensures.live
    c.requires.live.locals (keeps_items_refl (reach_of c.args.w.now (g.L.Locals.items c.args.l.now))))

pub returns-in-LexicallyLess : goal.returns-in-LexicallyLess
returns-in-LexicallyLess g c = rw c.in-LexicallyLess.is
    (faultless_applies (lexically_less_row (item_in (extent_of c.args.w.now.heap) c.args.x) (item_in (extent_of c.args.w.now.heap) c.args.y)) c.args.w.now
    c.lexically_less_row.new.w (g.L.Locals.items c.args.l.now) (g.L.Locals.items c.args.l.now)
    (g.S.Streams.state c.args.streams.now) c.lexically_less_row.result (λ was. c.lexically_less_row.ensures.row was) c.lexically_less_row.ensures.live
    c.lexically_less_row.ensures.kept.locals c.lexically_less_row.ensures.kept.items)

pub returns-in-LexicallyLessOrEqual : goal.returns-in-LexicallyLessOrEqual
returns-in-LexicallyLessOrEqual g c = rw c.in-LexicallyLessOrEqual.is
    (faultless_applies (lexically_less_or_equal_row (item_in (extent_of c.args.w.now.heap) c.args.x) (item_in (extent_of c.args.w.now.heap) c.args.y))
    c.args.w.now c.lexically_less_or_equal_row.new.w (g.L.Locals.items c.args.l.now) (g.L.Locals.items c.args.l.now)
    (g.S.Streams.state c.args.streams.now) c.lexically_less_or_equal_row.result
    (λ was. c.lexically_less_or_equal_row.ensures.row was) c.lexically_less_or_equal_row.ensures.live
    c.lexically_less_or_equal_row.ensures.kept.locals c.lexically_less_or_equal_row.ensures.kept.items)

pub returns-in-LexicallyEqual : goal.returns-in-LexicallyEqual
returns-in-LexicallyEqual g c = rw c.in-LexicallyEqual.is
    (faultless_applies (lexically_equal_row (item_in (extent_of c.args.w.now.heap) c.args.x) (item_in (extent_of c.args.w.now.heap) c.args.y)) c.args.w.now
    c.lexically_equal_row.new.w (g.L.Locals.items c.args.l.now) (g.L.Locals.items c.args.l.now)
    (g.S.Streams.state c.args.streams.now) c.lexically_equal_row.result (λ was. c.lexically_equal_row.ensures.row was) c.lexically_equal_row.ensures.live
    c.lexically_equal_row.ensures.kept.locals c.lexically_equal_row.ensures.kept.items)

pub returns-in-LexicallyGreaterOrEqual : goal.returns-in-LexicallyGreaterOrEqual
returns-in-LexicallyGreaterOrEqual g c = rw c.in-LexicallyGreaterOrEqual.is
    (faultless_applies (lexically_greater_or_equal_row (item_in (extent_of c.args.w.now.heap) c.args.x) (item_in (extent_of c.args.w.now.heap) c.args.y))
    c.args.w.now c.lexically_greater_or_equal_row.new.w (g.L.Locals.items c.args.l.now) (g.L.Locals.items c.args.l.now)
    (g.S.Streams.state c.args.streams.now) c.lexically_greater_or_equal_row.result
    (λ was. c.lexically_greater_or_equal_row.ensures.row was) c.lexically_greater_or_equal_row.ensures.live
    c.lexically_greater_or_equal_row.ensures.kept.locals c.lexically_greater_or_equal_row.ensures.kept.items)

pub returns-in-LexicallyGreater : goal.returns-in-LexicallyGreater
returns-in-LexicallyGreater g c = rw c.in-LexicallyGreater.is
    (faultless_applies (lexically_greater_row (item_in (extent_of c.args.w.now.heap) c.args.x) (item_in (extent_of c.args.w.now.heap) c.args.y)) c.args.w.now
    c.lexically_greater_row.new.w (g.L.Locals.items c.args.l.now) (g.L.Locals.items c.args.l.now)
    (g.S.Streams.state c.args.streams.now) c.lexically_greater_row.result (λ was. c.lexically_greater_row.ensures.row was) c.lexically_greater_row.ensures.live
    c.lexically_greater_row.ensures.kept.locals c.lexically_greater_row.ensures.kept.items)

pub returns-in-LexicallyNotEqual : goal.returns-in-LexicallyNotEqual
returns-in-LexicallyNotEqual g c = rw c.in-LexicallyNotEqual.is
    (faultless_applies (lexically_not_equal_row (item_in (extent_of c.args.w.now.heap) c.args.x) (item_in (extent_of c.args.w.now.heap) c.args.y)) c.args.w.now
    c.lexically_not_equal_row.new.w (g.L.Locals.items c.args.l.now) (g.L.Locals.items c.args.l.now)
    (g.S.Streams.state c.args.streams.now) c.lexically_not_equal_row.result
    (λ was. c.lexically_not_equal_row.ensures.row was) c.lexically_not_equal_row.ensures.live
    c.lexically_not_equal_row.ensures.kept.locals c.lexically_not_equal_row.ensures.kept.items)

pub returns-in-Equivalent : goal.returns-in-Equivalent
returns-in-Equivalent g c = rw c.in-Equivalent.is
    (faultless_applies (equivalent_row (item_in (extent_of c.args.w.now.heap) c.args.x) (item_in (extent_of c.args.w.now.heap) c.args.y)) c.args.w.now
    c.args.w.now (g.L.Locals.items c.args.l.now) (g.L.Locals.items c.args.l.now)
    (g.S.Streams.state c.args.streams.now) c.equivalent_row.result (λ was. c.equivalent_row.ensures.row was) c.equivalent_row.ensures.live
    c.requires.live.locals (keeps_items_refl (reach_of c.args.w.now (g.L.Locals.items c.args.l.now))))

pub returns-in-NotEquivalent : goal.returns-in-NotEquivalent
returns-in-NotEquivalent g c = rw c.in-NotEquivalent.is
    (faultless_applies (not_equivalent_row (item_in (extent_of c.args.w.now.heap) c.args.x) (item_in (extent_of c.args.w.now.heap) c.args.y)) c.args.w.now
    c.args.w.now (g.L.Locals.items c.args.l.now) (g.L.Locals.items c.args.l.now)
    (g.S.Streams.state c.args.streams.now) c.not_equivalent_row.result (λ was. c.not_equivalent_row.ensures.row was) c.not_equivalent_row.ensures.live
    c.requires.live.locals (keeps_items_refl (reach_of c.args.w.now (g.L.Locals.items c.args.l.now))))

pub returns-in-Concatenate : goal.returns-in-Concatenate
returns-in-Concatenate g c = rw (c.in-Concatenate.is, c.as_answer.ensures)
    (faultless_applies (concatenate_row (item_in (extent_of c.args.w.now.heap) c.args.x) (item_in (extent_of c.args.w.now.heap) c.args.y)) c.args.w.now
    c.concatenate_row.new.w (g.L.Locals.items c.args.l.now) (g.L.Locals.items c.args.l.now)
    (g.S.Streams.state c.args.streams.now) (answer_of c.concatenate_row.result) (λ was. c.concatenate_row.ensures.row was) c.concatenate_row.ensures.live
    c.concatenate_row.ensures.kept.locals c.concatenate_row.ensures.kept.items)

pub returns-in-ConcatenateLists : goal.returns-in-ConcatenateLists
returns-in-ConcatenateLists g c = rw c.in-ConcatenateLists.is
    (faultless_applies (concatenate_lists_row (item_in (extent_of c.args.w.now.heap) c.args.x) (item_in (extent_of c.args.w.now.heap) c.args.y)) c.args.w.now
    c.concatenate_lists_row.new.w (g.L.Locals.items c.args.l.now) (g.L.Locals.items c.args.l.now)
    (g.S.Streams.state c.args.streams.now) c.concatenate_lists_row.result (λ was. c.concatenate_lists_row.ensures.row was) c.concatenate_lists_row.ensures.live
    c.concatenate_lists_row.ensures.kept.locals c.concatenate_lists_row.ensures.kept.items)

pub returns-in-Union : goal.returns-in-Union
returns-in-Union g c = rw c.in-Union.is
    (faultless_applies (union_row (item_in (extent_of c.args.w.now.heap) c.args.x) (item_in (extent_of c.args.w.now.heap) c.args.y)) c.args.w.now
    c.union_row.new.w (g.L.Locals.items c.args.l.now) (g.L.Locals.items c.args.l.now)
    (g.S.Streams.state c.args.streams.now) c.union_row.result (λ was. c.union_row.ensures.row was) c.union_row.ensures.live
    c.union_row.ensures.kept.locals c.union_row.ensures.kept.items)

pub returns-in-Difference : goal.returns-in-Difference
returns-in-Difference g c = rw c.in-Difference.is
    (faultless_applies (difference_row (item_in (extent_of c.args.w.now.heap) c.args.x) (item_in (extent_of c.args.w.now.heap) c.args.y)) c.args.w.now
    c.difference_row.new.w (g.L.Locals.items c.args.l.now) (g.L.Locals.items c.args.l.now)
    (g.S.Streams.state c.args.streams.now) c.difference_row.result (λ was. c.difference_row.ensures.row was) c.difference_row.ensures.live
    c.difference_row.ensures.kept.locals c.difference_row.ensures.kept.items)

pub returns-in-Intersection : goal.returns-in-Intersection
returns-in-Intersection g c = rw c.in-Intersection.is
    (faultless_applies (intersection_row (item_in (extent_of c.args.w.now.heap) c.args.x) (item_in (extent_of c.args.w.now.heap) c.args.y)) c.args.w.now
    c.intersection_row.new.w (g.L.Locals.items c.args.l.now) (g.L.Locals.items c.args.l.now)
    (g.S.Streams.state c.args.streams.now) c.intersection_row.result (λ was. c.intersection_row.ensures.row was) c.intersection_row.ensures.live
    c.intersection_row.ensures.kept.locals c.intersection_row.ensures.kept.items)

pub returns-in-Assign : goal.returns-in-Assign
returns-in-Assign g c = rw c.in-Assign.is
    (faultless_applies (assign_row (item_in (extent_of c.args.w.now.heap) c.args.x) (item_in (extent_of c.args.w.now.heap) c.args.y)) c.args.w.now
    c.assign_row.new.w (g.L.Locals.items c.args.l.now) (g.L.Locals.items c.assign_row.new.l)
    (g.S.Streams.state c.args.streams.now) c.assign_row.result (λ was. c.assign_row.ensures.row was) c.assign_row.ensures.live
    c.assign_row.ensures.kept.locals c.assign_row.ensures.kept.items)

pub returns-in-Swap : goal.returns-in-Swap
returns-in-Swap g c = rw c.in-Swap.is
    (faultless_applies (swap_row (item_in (extent_of c.args.w.now.heap) c.args.x) (item_in (extent_of c.args.w.now.heap) c.args.y)) c.args.w.now
    c.swap_row.new.w (g.L.Locals.items c.args.l.now) (g.L.Locals.items c.swap_row.new.l)
    (g.S.Streams.state c.args.streams.now) c.swap_row.result (λ was. c.swap_row.ensures.row was) c.swap_row.ensures.live
    c.swap_row.ensures.kept.locals c.swap_row.ensures.kept.items)

pub returns-in-ReversibleAssign : goal.returns-in-ReversibleAssign
returns-in-ReversibleAssign g c = rw c.in-ReversibleAssign.is
    (faultless_applies (reversible_assign_row (item_in (extent_of c.args.w.now.heap) c.args.x) (item_in (extent_of c.args.w.now.heap) c.args.y)) c.args.w.now
    c.reversible_assign_row.new.w (g.L.Locals.items c.args.l.now) (g.L.Locals.items c.reversible_assign_row.new.l)
    (g.S.Streams.state c.args.streams.now) c.reversible_assign_row.result (λ was. c.reversible_assign_row.ensures.row was) c.reversible_assign_row.ensures.live
    c.reversible_assign_row.ensures.kept.locals c.reversible_assign_row.ensures.kept.items)

pub returns-in-ReversibleSwap : goal.returns-in-ReversibleSwap
returns-in-ReversibleSwap g c = rw c.in-ReversibleSwap.is
    (faultless_applies (reversible_swap_row (item_in (extent_of c.args.w.now.heap) c.args.x) (item_in (extent_of c.args.w.now.heap) c.args.y)) c.args.w.now
    c.reversible_swap_row.new.w (g.L.Locals.items c.args.l.now) (g.L.Locals.items c.reversible_swap_row.new.l)
    (g.S.Streams.state c.args.streams.now) c.reversible_swap_row.result (λ was. c.reversible_swap_row.ensures.row was) c.reversible_swap_row.ensures.live
    c.reversible_swap_row.ensures.kept.locals c.reversible_swap_row.ensures.kept.items)

pub returns-in-Subscript : goal.returns-in-Subscript
returns-in-Subscript g c = rw c.in-Subscript.is
    (faultless_applies (subscript_row (item_in (extent_of c.args.w.now.heap) c.args.x) (item_in (extent_of c.args.w.now.heap) c.args.y)) c.args.w.now
    c.subscript_row.new.w (g.L.Locals.items c.args.l.now) (g.L.Locals.items c.args.l.now)
    (g.S.Streams.state c.args.streams.now) c.subscript_row.result (λ was. c.subscript_row.ensures.row was) c.subscript_row.ensures.live
    c.subscript_row.ensures.kept.locals c.subscript_row.ensures.kept.items)

pub returns-in-Section : goal.returns-in-Section
returns-in-Section g c = rw c.in-Section.is
    (faultless_applies (section_row (item_in (extent_of c.args.w.now.heap) c.args.x) (item_in (extent_of c.args.w.now.heap) c.args.y)
    (item_in (extent_of c.args.w.now.heap) c.args.z)) c.args.w.now c.section_row.new.w (g.L.Locals.items c.args.l.now) (g.L.Locals.items c.args.l.now)
    (g.S.Streams.state c.args.streams.now) c.section_row.result (λ was. c.section_row.ensures.row was) c.section_row.ensures.live
    c.section_row.ensures.kept.locals c.section_row.ensures.kept.items)

pub returns-in-SectionPlus : goal.returns-in-SectionPlus
returns-in-SectionPlus g c = rw c.in-SectionPlus.is
    (faultless_applies (section_plus_row (item_in (extent_of c.args.w.now.heap) c.args.x) (item_in (extent_of c.args.w.now.heap) c.args.y)
    (item_in (extent_of c.args.w.now.heap) c.args.z)) c.args.w.now c.section_plus_row.new.w (g.L.Locals.items c.args.l.now) (g.L.Locals.items c.args.l.now)
    (g.S.Streams.state c.args.streams.now) c.section_plus_row.result (λ was. c.section_plus_row.ensures.row was) c.section_plus_row.ensures.live
    c.section_plus_row.ensures.kept.locals c.section_plus_row.ensures.kept.items)

pub returns-in-SectionMinus : goal.returns-in-SectionMinus
returns-in-SectionMinus g c = rw c.in-SectionMinus.is
    (faultless_applies (section_minus_row (item_in (extent_of c.args.w.now.heap) c.args.x) (item_in (extent_of c.args.w.now.heap) c.args.y)
    (item_in (extent_of c.args.w.now.heap) c.args.z)) c.args.w.now c.section_minus_row.new.w (g.L.Locals.items c.args.l.now) (g.L.Locals.items c.args.l.now)
    (g.S.Streams.state c.args.streams.now) c.section_minus_row.result (λ was. c.section_minus_row.ensures.row was) c.section_minus_row.ensures.live
    c.section_minus_row.ensures.kept.locals c.section_minus_row.ensures.kept.items)

pub returns-in-ToBy : goal.returns-in-ToBy
returns-in-ToBy g c = rw c.in-ToBy.is
    (faultless_applies (to_by_row (item_in (extent_of c.args.w.now.heap) c.args.x) (item_in (extent_of c.args.w.now.heap) c.args.y)
    (item_in (extent_of c.args.w.now.heap) c.args.z)) c.args.w.now c.args.w.now (g.L.Locals.items c.args.l.now) (g.L.Locals.items c.args.l.now)
    (g.S.Streams.state c.args.streams.now) c.to_by_row.result (λ was. c.to_by_row.ensures.row was) c.to_by_row.ensures.live
    c.requires.live.locals (keeps_items_refl (reach_of c.args.w.now (g.L.Locals.items c.args.l.now))))
