use Rattle.std.proofs.Common.{ap, arith, length, nat_lt, ◌+◌, ◌∙◌}
use Rattle.std.specs.Option.{option_map}
use Rattle.icn_defs.specs.Elements.{part_item, picks, text_variable}
use Rattle.icn_defs.specs.Rows.{costs_text, gives, fails_unless}
use Rattle.icn_heap.specs.Extents.{text_in, value_in}
use Rattle.icn_heap.specs.Heaps.{extent_of}
use Rattle.icn_vars.specs.Worlds.{item_in, reach_of, setting_of, variable_in}
use Rattle.icn_vars.proofs.KeptItems.{item_kept, item_stays}
use Rattle.icn_args.specs.RowWords.{the_text}
use Rattle.icn_args.proofs.RowAnswers.{row_stops_at, stop_lives}
use Rattle.icn_ops.proofs.RandomRows.{byte_lacking, byte_picked}
use Rattle.icn_ops.proofs.random.random_byte.Goals as goal

pub returns-in_err-text-clause-row : goal.returns-in_err-text-clause-row
returns-in_err-text-clause-row g c = λ outside.
    row_stops_at (extent_of c.text_of.new.w.heap) (costs_text (value_in (extent_of c.args.w.now.heap) c.args.val)) (fails_unless (nat_lt 0
    (length (the_text (value_in (extent_of c.args.w.now.heap) c.args.val)))) (picks (length (the_text (value_in (extent_of c.args.w.now.heap) c.args.val)))
    (λ place. gives (part_item (text_variable (item_in (extent_of c.args.w.now.heap) c.args.x) (value_in (extent_of c.args.w.now.heap) c.args.val))
    (the_text (value_in (extent_of c.args.w.now.heap) c.args.val)) (place + 1) 1))))
    (setting_of outside c.args.w.now (g.L.Locals.items c.args.l.now)) (setting_of outside c.text_of.new.w (g.L.Locals.items c.args.l.now))
    c.in_err-text.field-0.0 c.from_residual.result c.from_residual.ensures.1 (c.in_err-text.ensures.step outside)

pub returns-in_err-text-clause-live : goal.returns-in_err-text-clause-live
returns-in_err-text-clause-live g c =
    stop_lives (reach_of c.text_of.new.w (g.L.Locals.items c.args.l.now)) c.in_err-text.field-0.0 c.from_residual.result c.from_residual.ensures.1
    c.in_err-text.ensures.stops

pub returns-then-size-gt0-clause-row : goal.returns-then-size-gt0-clause-row
returns-then-size-gt0-clause-row g c = λ outside.
    c.in_ok-text.ensures.step outside (fails_unless (nat_lt 0 (length (the_text (value_in (extent_of c.args.w.now.heap) c.args.val))))
    (picks (length (the_text (value_in (extent_of c.args.w.now.heap) c.args.val)))
    (λ place. gives (part_item (text_variable (item_in (extent_of c.args.w.now.heap) c.args.x) (value_in (extent_of c.args.w.now.heap) c.args.val))
    (the_text (value_in (extent_of c.args.w.now.heap) c.args.val)) (place + 1) 1))))
    ∙ byte_picked (item_in (extent_of c.args.w.now.heap) c.args.x) (item_in (extent_of c.text_of.new.w.heap) c.args.x)
    (value_in (extent_of c.args.w.now.heap) c.args.val) (value_in (extent_of c.text_of.new.w.heap) c.args.val)
    (the_text (value_in (extent_of c.args.w.now.heap) c.args.val)) (text_in (extent_of c.text_of.new.w.heap) c.in_ok-text.text) c.text_length-size.result
    (setting_of outside c.text_of.new.w (g.L.Locals.items c.args.l.now)) (option_map (variable_in (extent_of c.text_of.new.w.heap)) c.text_holder-holder.result)
    (item_in (extent_of c.text_of.new.w.heap) c.part_item.result) c.pick-place.result c.random_step-w.result
    (c.text_length-size.ensures.count ∙ ap length c.in_ok-text.ensures.text) (omega arith) c.random_step-w.ensures.stepped c.pick-place.ensures.picked
    c.part_item.ensures.item (c.text_holder-holder.ensures.holder (extent_of c.text_of.new.w.heap))
    (item_kept c.text_of.ensures.kept.items c.args.x c.requires.item)
    (c.text_of.ensures.kept.items.extent.value c.args.val c.requires.val) c.in_ok-text.ensures.text

pub returns-else-size-gt0-clause-row : goal.returns-else-size-gt0-clause-row
returns-else-size-gt0-clause-row g c = λ outside.
    c.in_ok-text.ensures.step outside (fails_unless (nat_lt 0 (length (the_text (value_in (extent_of c.args.w.now.heap) c.args.val))))
    (picks (length (the_text (value_in (extent_of c.args.w.now.heap) c.args.val)))
    (λ place. gives (part_item (text_variable (item_in (extent_of c.args.w.now.heap) c.args.x) (value_in (extent_of c.args.w.now.heap) c.args.val))
    (the_text (value_in (extent_of c.args.w.now.heap) c.args.val)) (place + 1) 1))))
    ∙ byte_lacking (item_in (extent_of c.args.w.now.heap) c.args.x) (item_in (extent_of c.text_of.new.w.heap) c.args.x)
    (value_in (extent_of c.args.w.now.heap) c.args.val) (value_in (extent_of c.text_of.new.w.heap) c.args.val)
    (the_text (value_in (extent_of c.args.w.now.heap) c.args.val)) (text_in (extent_of c.text_of.new.w.heap) c.in_ok-text.text) c.text_length-size.result
    (setting_of outside c.text_of.new.w (g.L.Locals.items c.args.l.now)) (c.text_length-size.ensures.count ∙ ap length c.in_ok-text.ensures.text) (omega arith)

pub part_item-requires-clause-live : goal.part_item-requires-clause-live
part_item-requires-clause-live g c =
    c.text_holder-holder.ensures.live (reach_of c.text_of.new.w (g.L.Locals.items c.args.l.now))
    (item_stays c.text_of.ensures.kept.items c.args.x c.requires.item)

pub part_item-requires-clause-short : goal.part_item-requires-clause-short
part_item-requires-clause-short g c = c.text_holder-holder.ensures.short c.requires.short
