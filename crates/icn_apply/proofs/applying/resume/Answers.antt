use Rattle.std.proofs.Common.{◌≡◌, ◌+◌, FitsSigned, ℤ, Ok, of_z, rules, subst, to_z, w64}
use Rattle.std.proofs.lemmas.Int.{to_z-of_z}
use Rattle.icn_value.specs.Members.{members_of}
use Rattle.icn_value.specs.Store.{Outside}
use Rattle.icn_heap.specs.Extents.{text_in, value_in}
use Rattle.icn_heap.specs.Heaps.{extent_of}
use Rattle.icn_defs.specs.Arithmetic.{counting_again}
use Rattle.icn_defs.specs.Elements.{list_items_from, record_fields_from, set_members_from, table_values_from, text_bytes_from, variable_bytes_from}
use Rattle.icn_defs.specs.Scanning.{among_from, balanced_again, found_from, undo_position_again}
use Rattle.icn_defs.specs.Strings.{sequence_again}
use Rattle.icn_defs.specs.Structures.{table_keys_from}
use Rattle.icn_defs.specs.Variables.{undo_assign_again, undo_exchange_again}
use Rattle.icn_vars.specs.Outcomes.{ComesToAnswer, mover_of, outcome_in}
use Rattle.icn_vars.specs.Worlds.{reach_of, setting_of, variable_in}
use Rattle.icn_streams.proofs.QuietRows.{faultless_applies}
use Rattle.icn_streams.proofs.IdleCalls.{keeps_items_refl}
use Rattle.icn_apply.proofs.InPlace.{exchanged_in_place, never}
use Rattle.icn_apply.proofs.applying.resume.Goals as goal

pub returns-in-TableKeys-clause-applies : goal.returns-in-TableKeys-clause-applies
returns-in-TableKeys-clause-applies g c = rw c.in-TableKeys.is
    (faultless_applies (table_keys_from c.in-TableKeys.table c.in-TableKeys.place) c.args.w.now c.args.w.now
    (g.L.Locals.items c.args.l.now) (g.L.Locals.items c.args.l.now)
    (g.S.Streams.state c.args.streams.now)
    (Ok c.key_again.result) (λ was. c.key_again.ensures.row was) c.key_again.ensures.live c.requires.locals
    (keeps_items_refl (reach_of c.args.w.now (g.L.Locals.items c.args.l.now))))

pub returns-in-UndoAssign-clause-applies : goal.returns-in-UndoAssign-clause-applies
returns-in-UndoAssign-clause-applies g c = rw c.in-UndoAssign.is
    (faultless_applies (undo_assign_again (variable_in (extent_of c.args.w.now.heap) c.in-UndoAssign.variable)
    (value_in (extent_of c.args.w.now.heap) c.in-UndoAssign.old))
    c.args.w.now c.undo_assign_again.new.w (g.L.Locals.items c.args.l.now) (g.L.Locals.items c.undo_assign_again.new.l)
    (g.S.Streams.state c.args.streams.now)
    c.undo_assign_again.result
    (λ was. c.undo_assign_again.ensures.row was) c.undo_assign_again.ensures.live c.undo_assign_again.ensures.kept.locals
    c.undo_assign_again.ensures.kept.items)

pub returns-in-UndoAssign-clause-memory : goal.returns-in-UndoAssign-clause-memory
returns-in-UndoAssign-clause-memory g c = rw c.in-UndoAssign.is c.undo_assign_again.ensures.memory

pub returns-in-TextBytes-clause-applies : goal.returns-in-TextBytes-clause-applies
returns-in-TextBytes-clause-applies g c = rw c.in-TextBytes.is
    (faultless_applies (text_bytes_from (text_in (extent_of c.args.w.now.heap) c.in-TextBytes.text) c.in-TextBytes.place) c.args.w.now c.args.w.now
    (g.L.Locals.items c.args.l.now) (g.L.Locals.items c.args.l.now)
    (g.S.Streams.state c.args.streams.now) c.text_bytes_from.result (λ was. c.text_bytes_from.ensures.row was) c.text_bytes_from.ensures.live c.requires.locals
    (keeps_items_refl (reach_of c.args.w.now (g.L.Locals.items c.args.l.now))))

pub returns-in-VariableBytes-clause-applies : goal.returns-in-VariableBytes-clause-applies
returns-in-VariableBytes-clause-applies g c = rw c.in-VariableBytes.is
    (faultless_applies (variable_bytes_from (variable_in (extent_of c.args.w.now.heap) c.in-VariableBytes.variable) c.in-VariableBytes.place) c.args.w.now
    c.args.w.now (g.L.Locals.items c.args.l.now) (g.L.Locals.items c.args.l.now)
    (g.S.Streams.state c.args.streams.now) c.variable_bytes_from.result (λ was. c.variable_bytes_from.ensures.row was) c.variable_bytes_from.ensures.live
    c.requires.locals (keeps_items_refl (reach_of c.args.w.now (g.L.Locals.items c.args.l.now))))

pub returns-in-ListItems-clause-applies : goal.returns-in-ListItems-clause-applies
returns-in-ListItems-clause-applies g c = rw c.in-ListItems.is
    (faultless_applies (list_items_from c.in-ListItems.list c.in-ListItems.place) c.args.w.now c.args.w.now (g.L.Locals.items c.args.l.now)
    (g.L.Locals.items c.args.l.now)
    (g.S.Streams.state c.args.streams.now) c.list_items_from.result (λ was. c.list_items_from.ensures.row was) c.list_items_from.ensures.live c.requires.locals
    (keeps_items_refl (reach_of c.args.w.now (g.L.Locals.items c.args.l.now))))

pub returns-in-SetMembers-clause-applies : goal.returns-in-SetMembers-clause-applies
returns-in-SetMembers-clause-applies g c = rw c.in-SetMembers.is
    (faultless_applies (set_members_from c.in-SetMembers.set c.in-SetMembers.place) c.args.w.now c.args.w.now (g.L.Locals.items c.args.l.now)
    (g.L.Locals.items c.args.l.now)
    (g.S.Streams.state c.args.streams.now) c.set_members_from.result (λ was. c.set_members_from.ensures.row was) c.set_members_from.ensures.live
    c.requires.locals (keeps_items_refl (reach_of c.args.w.now (g.L.Locals.items c.args.l.now))))

pub returns-in-TableValues-clause-applies : goal.returns-in-TableValues-clause-applies
returns-in-TableValues-clause-applies g c = rw c.in-TableValues.is
    (faultless_applies (table_values_from c.in-TableValues.table c.in-TableValues.place) c.args.w.now c.args.w.now (g.L.Locals.items c.args.l.now)
    (g.L.Locals.items c.args.l.now)
    (g.S.Streams.state c.args.streams.now) c.table_values_from.result (λ was. c.table_values_from.ensures.row was) c.table_values_from.ensures.live
    c.requires.locals (keeps_items_refl (reach_of c.args.w.now (g.L.Locals.items c.args.l.now))))

pub returns-in-RecordFields-clause-applies : goal.returns-in-RecordFields-clause-applies
returns-in-RecordFields-clause-applies g c = rw c.in-RecordFields.is
    (faultless_applies (record_fields_from c.in-RecordFields.rec c.in-RecordFields.place) c.args.w.now c.args.w.now (g.L.Locals.items c.args.l.now)
    (g.L.Locals.items c.args.l.now)
    (g.S.Streams.state c.args.streams.now) c.record_fields_from.result (λ was. c.record_fields_from.ensures.row was) c.record_fields_from.ensures.live
    c.requires.locals (keeps_items_refl (reach_of c.args.w.now (g.L.Locals.items c.args.l.now))))

pub returns-in-FileLines-clause-applies : goal.returns-in-FileLines-clause-applies
returns-in-FileLines-clause-applies g c = rw c.in-FileLines.is c.lines.ensures.row

pub returns-in-UndoExchange-clause-applies : goal.returns-in-UndoExchange-clause-applies
returns-in-UndoExchange-clause-applies g c = rw c.in-UndoExchange.is
    (faultless_applies (undo_exchange_again (mover_of c.in-UndoExchange.mover) (variable_in (extent_of c.args.w.now.heap) c.in-UndoExchange.left)
    (variable_in (extent_of c.args.w.now.heap) c.in-UndoExchange.right) (value_in (extent_of c.args.w.now.heap) c.in-UndoExchange.old_left)
    (value_in (extent_of c.args.w.now.heap) c.in-UndoExchange.old_right))
    c.args.w.now c.undo_exchange_again.new.w (g.L.Locals.items c.args.l.now) (g.L.Locals.items c.undo_exchange_again.new.l)
    (g.S.Streams.state c.args.streams.now)
    c.undo_exchange_again.result
    (λ was. c.undo_exchange_again.ensures.row was) c.undo_exchange_again.ensures.live c.undo_exchange_again.ensures.kept.locals
    c.undo_exchange_again.ensures.kept.items)

pub returns-in-UndoPosition-clause-applies : goal.returns-in-UndoPosition-clause-applies
returns-in-UndoPosition-clause-applies g c = rw c.in-UndoPosition.is
    (faultless_applies (undo_position_again c.in-UndoPosition.old) c.args.w.now c.undo_position_again.new.w
    (g.L.Locals.items c.args.l.now) (g.L.Locals.items c.args.l.now)
    (g.S.Streams.state c.args.streams.now)
    c.undo_position_again.result
    (λ was. c.undo_position_again.ensures.row was) c.undo_position_again.ensures.live c.undo_position_again.ensures.kept.locals
    c.undo_position_again.ensures.kept.items)

pub returns-in-Counting-clause-applies : goal.returns-in-Counting-clause-applies
returns-in-Counting-clause-applies g c =
    let given = c.in-Counting.given in
    let last = c.in-Counting.last in
    let step = c.in-Counting.step in
    let first : FitsSigned w64 given = search rules in
    let second : FitsSigned w64 last = search rules in
    let third : FitsSigned w64 step = search rules in
    let comes : ℤ → ℤ → ℤ → Type 0 = λ m n k. (was : Outside) → counting_again m n k (setting_of was c.args.w.now (g.L.Locals.items c.args.l.now))
    ≡ outcome_in (extent_of c.args.w.now.heap) c.counting_again.result (setting_of was c.args.w.now (g.L.Locals.items c.args.l.now)) in
    rw c.in-Counting.is
    (faultless_applies (counting_again given last step) c.args.w.now c.args.w.now (g.L.Locals.items c.args.l.now) (g.L.Locals.items c.args.l.now)
    (g.S.Streams.state c.args.streams.now) (Ok c.counting_again.result)
    (subst (λ m. comes m last step) (to_z-of_z w64 given first) (subst (λ n. comes (to_z w64 (of_z w64 given)) n step) (to_z-of_z w64 last second)
    (subst (comes (to_z w64 (of_z w64 given)) (to_z w64 (of_z w64 last))) (to_z-of_z w64 step third)
    (λ was. c.counting_again.ensures.row (extent_of c.args.w.now.heap) (setting_of was c.args.w.now (g.L.Locals.items c.args.l.now))))))
    (c.counting_again.ensures.live (reach_of c.args.w.now (g.L.Locals.items c.args.l.now))) c.requires.locals
    (keeps_items_refl (reach_of c.args.w.now (g.L.Locals.items c.args.l.now))))

pub returns-in-Sequence-clause-applies : goal.returns-in-Sequence-clause-applies
returns-in-Sequence-clause-applies g c =
    let given = c.in-Sequence.given in
    let step = c.in-Sequence.step in
    let first : FitsSigned w64 given = search rules in
    let second : FitsSigned w64 step = search rules in
    let comes : ℤ → ℤ → Type 0 = λ m n. (was : Outside)
    → ComesToAnswer (extent_of c.args.w.now.heap) (sequence_again m n) (setting_of was c.args.w.now (g.L.Locals.items c.args.l.now))
    (setting_of was c.args.w.now (g.L.Locals.items c.args.l.now)) c.sequence_again.result in
    rw c.in-Sequence.is (faultless_applies (sequence_again given step) c.args.w.now c.args.w.now (g.L.Locals.items c.args.l.now) (g.L.Locals.items c.args.l.now)
    (g.S.Streams.state c.args.streams.now) c.sequence_again.result
    (subst (λ m. comes m step) (to_z-of_z w64 given first) (subst (comes (to_z w64 (of_z w64 given))) (to_z-of_z w64 step second)
    (λ was. c.sequence_again.ensures.row (extent_of c.args.w.now.heap) (setting_of was c.args.w.now (g.L.Locals.items c.args.l.now)))))
    (c.sequence_again.ensures.live (reach_of c.args.w.now (g.L.Locals.items c.args.l.now))) c.requires.locals
    (keeps_items_refl (reach_of c.args.w.now (g.L.Locals.items c.args.l.now))))

pub lines-requires-clause-live : goal.lines-requires-clause-live
lines-requires-clause-live g c = let rest = rw c.in-FileLines.is at c.requires.rest in rest.live

pub balanced_again-requires : goal.balanced_again-requires
balanced_again-requires g c = let rest = rw c.in-Balanced.is at c.requires.rest in rest.live

pub found_again-requires-clause-wanted : goal.found_again-requires-clause-wanted
found_again-requires-clause-wanted g c = let rest = rw c.in-Found.is at c.requires.rest in rest.live.0

pub found_again-requires-clause-search : goal.found_again-requires-clause-search
found_again-requires-clause-search g c = let rest = rw c.in-Found.is at c.requires.rest in rest.live.1

pub among_again-requires : goal.among_again-requires
among_again-requires g c = let rest = rw c.in-Among.is at c.requires.rest in rest.live

pub returns-in-Balanced-clause-applies : goal.returns-in-Balanced-clause-applies
returns-in-Balanced-clause-applies g c = rw c.in-Balanced.is
    (faultless_applies (balanced_again (members_of c.in-Balanced.wanted) (members_of c.in-Balanced.opening) (members_of c.in-Balanced.closing)
    (text_in (extent_of c.args.w.now.heap) c.in-Balanced.text)
    c.in-Balanced.place c.in-Balanced.last) c.args.w.now c.args.w.now (g.L.Locals.items c.args.l.now) (g.L.Locals.items c.args.l.now)
    (g.S.Streams.state c.args.streams.now) (Ok c.balanced_again.result) (λ was. c.balanced_again.ensures.row was) c.balanced_again.ensures.live
    c.requires.locals (keeps_items_refl (reach_of c.args.w.now (g.L.Locals.items c.args.l.now))))

pub returns-in-Found-clause-applies : goal.returns-in-Found-clause-applies
returns-in-Found-clause-applies g c = rw c.in-Found.is
    (faultless_applies (found_from (text_in (extent_of c.args.w.now.heap) c.in-Found.wanted) (text_in (extent_of c.args.w.now.heap) c.in-Found.text)
    (c.in-Found.place + 1) c.in-Found.last) c.args.w.now c.args.w.now (g.L.Locals.items c.args.l.now) (g.L.Locals.items c.args.l.now)
    (g.S.Streams.state c.args.streams.now) (Ok c.found_again.result) (λ was. c.found_again.ensures.row was) c.found_again.ensures.live c.requires.locals
    (keeps_items_refl (reach_of c.args.w.now (g.L.Locals.items c.args.l.now))))

pub returns-in-Among-clause-applies : goal.returns-in-Among-clause-applies
returns-in-Among-clause-applies g c = rw c.in-Among.is
    (faultless_applies (among_from (members_of c.in-Among.wanted) (text_in (extent_of c.args.w.now.heap) c.in-Among.text)
    (c.in-Among.place + 1) c.in-Among.last) c.args.w.now c.args.w.now (g.L.Locals.items c.args.l.now) (g.L.Locals.items c.args.l.now)
    (g.S.Streams.state c.args.streams.now) (Ok c.among_again.result) (λ was. c.among_again.ensures.row was) c.among_again.ensures.live c.requires.locals
    (keeps_items_refl (reach_of c.args.w.now (g.L.Locals.items c.args.l.now))))

pub returns-in-TableKeys-clause-memory : goal.returns-in-TableKeys-clause-memory
returns-in-TableKeys-clause-memory g c = rw c.in-TableKeys.is (λ in_place. never in_place)

pub returns-in-Sequence-clause-memory : goal.returns-in-Sequence-clause-memory
returns-in-Sequence-clause-memory g c = rw c.in-Sequence.is (λ in_place. never in_place)

pub returns-in-Balanced-clause-memory : goal.returns-in-Balanced-clause-memory
returns-in-Balanced-clause-memory g c = rw c.in-Balanced.is (λ in_place. never in_place)

pub returns-in-Found-clause-memory : goal.returns-in-Found-clause-memory
returns-in-Found-clause-memory g c = rw c.in-Found.is (λ in_place. never in_place)

pub returns-in-Among-clause-memory : goal.returns-in-Among-clause-memory
returns-in-Among-clause-memory g c = rw c.in-Among.is (λ in_place. never in_place)

pub returns-in-TextBytes-clause-memory : goal.returns-in-TextBytes-clause-memory
returns-in-TextBytes-clause-memory g c = rw c.in-TextBytes.is (λ in_place. never in_place)

pub returns-in-VariableBytes-clause-memory : goal.returns-in-VariableBytes-clause-memory
returns-in-VariableBytes-clause-memory g c = rw c.in-VariableBytes.is (λ in_place. never in_place)

pub returns-in-ListItems-clause-memory : goal.returns-in-ListItems-clause-memory
returns-in-ListItems-clause-memory g c = rw c.in-ListItems.is (λ in_place. never in_place)

pub returns-in-SetMembers-clause-memory : goal.returns-in-SetMembers-clause-memory
returns-in-SetMembers-clause-memory g c = rw c.in-SetMembers.is (λ in_place. never in_place)

pub returns-in-TableValues-clause-memory : goal.returns-in-TableValues-clause-memory
returns-in-TableValues-clause-memory g c = rw c.in-TableValues.is (λ in_place. never in_place)

pub returns-in-RecordFields-clause-memory : goal.returns-in-RecordFields-clause-memory
returns-in-RecordFields-clause-memory g c = rw c.in-RecordFields.is (λ in_place. never in_place)

pub returns-in-FileLines-clause-memory : goal.returns-in-FileLines-clause-memory
returns-in-FileLines-clause-memory g c = rw c.in-FileLines.is (λ in_place. never in_place)

pub returns-in-UndoExchange-clause-memory : goal.returns-in-UndoExchange-clause-memory
returns-in-UndoExchange-clause-memory g c = rw c.in-UndoExchange.is (λ in_place.
    exchanged_in_place c.in-UndoExchange.mover (variable_in (extent_of c.args.w.now.heap) c.in-UndoExchange.left)
    (variable_in (extent_of c.args.w.now.heap) c.in-UndoExchange.right) (value_in (extent_of c.args.w.now.heap) c.in-UndoExchange.old_left)
    (value_in (extent_of c.args.w.now.heap) c.in-UndoExchange.old_right) in_place c.undo_exchange_again.ensures.memory)

pub returns-in-UndoPosition-clause-memory : goal.returns-in-UndoPosition-clause-memory
returns-in-UndoPosition-clause-memory g c = rw c.in-UndoPosition.is (λ in_place. c.undo_position_again.ensures.memory)

pub returns-in-Counting-clause-memory : goal.returns-in-Counting-clause-memory
returns-in-Counting-clause-memory g c = rw c.in-Counting.is (λ in_place. never in_place)
