-- The row is checked and charged part by part, and what is left of it is answered.
use Rattle.std.proofs.Common.{◌∙◌, sym, subst, map}
use Rattle.icn_value.specs.Values.{Value}
use Rattle.icn_defs.specs.Calls.{Passes}
use Rattle.icn_defs.specs.Rows.{costs_text}
use Rattle.icn_heap.specs.Extents.{value_in, text_in}
use Rattle.icn_heap.specs.Heaps.{extent_of}
use Rattle.icn_vars.specs.Outcomes.{answer_of}
use Rattle.icn_vars.specs.Stops.{halt_of}
use Rattle.icn_args.proofs.RowAnswers.{same_halt}
use Rattle.icn_vars.specs.Stops.{StopsPassing}
use Rattle.icn_vars.specs.Worlds.{reach_of, setting_of}
use Rattle.icn_vars.proofs.KeptItems.{keeps_items_trans}
use Rattle.icn_args.specs.RowWords.{the_text}
use Rattle.icn_streams.specs.Answers.{call_state}
use Rattle.icn_streams.specs.Handed.{call_streams}
use Rattle.icn_filefn.proofs.OpenRows.{mode_refused, mode_stops, name_refused, name_stops, opened_then}
use Rattle.icn_filefn.proofs.opening.open_row.Goals as goal

pub returns-in_err-check_text : goal.returns-in_err-check_text
returns-in_err-check_text g c = λ left counts.
    name_refused (map (value_in (extent_of c.args.w.now.heap)) c.args.vals.now) (value_in (extent_of c.args.w.now.heap) c.arg-named.result)
    (value_in (extent_of c.args.w.now.heap) c.arg-said.result) (c.arg-named.ensures.value (extent_of c.args.w.now.heap))
    (c.arg-said.ensures.value (extent_of c.args.w.now.heap))
    (call_state c.args.w.now (g.L.Locals.items c.args.l.now)
    (call_streams (g.F.Files.state c.args.files.now) left counts (g.O.Sink.state c.args.out.now) (g.E.Sink.state c.args.err.now)))
    c.in_err-check_text.field-0.0 (answer_of c.from_residual.result)
    (same_halt (halt_of c.in_err-check_text.field-0.0) c.from_residual.result c.from_residual.ensures.1)
    (c.in_err-check_text.ensures.found (extent_of c.args.w.now.heap))
    (c.in_err-check_text.ensures.stops (extent_of c.args.w.now.heap) (c.arg-named.ensures.live (extent_of c.args.w.now.heap) c.requires.live))
    c.requires.locals

pub returns-in_err-mode : goal.returns-in_err-mode
returns-in_err-mode g c = λ left counts.
    mode_refused (map (value_in (extent_of c.args.w.now.heap)) c.args.vals.now) (value_in (extent_of c.args.w.now.heap) c.arg-named.result)
    (value_in (extent_of c.args.w.now.heap) c.arg-said.result) (c.arg-named.ensures.value (extent_of c.args.w.now.heap))
    (c.arg-said.ensures.value (extent_of c.args.w.now.heap)) (the_text (value_in (extent_of c.args.w.now.heap) c.arg-named.result))
    (c.in_ok-check_text.ensures.found (extent_of c.args.w.now.heap))
    (call_state c.args.w.now (g.L.Locals.items c.args.l.now)
    (call_streams (g.F.Files.state c.args.files.now) left counts (g.O.Sink.state c.args.out.now) (g.E.Sink.state c.args.err.now)))
    c.in_err-mode.field-0.0 (answer_of c.from_residual-in_err-mode.result)
    (same_halt (halt_of c.in_err-mode.field-0.0) c.from_residual-in_err-mode.result c.from_residual-in_err-mode.ensures.1) c.in_err-mode.ensures.found
    c.in_err-mode.ensures.stops c.requires.locals

pub returns-in_err-name : goal.returns-in_err-name
returns-in_err-name g c = λ left counts.
    name_stops (map (value_in (extent_of c.args.w.now.heap)) c.args.vals.now) (value_in (extent_of c.args.w.now.heap) c.arg-named.result)
    (value_in (extent_of c.args.w.now.heap) c.arg-said.result) (c.arg-named.ensures.value (extent_of c.args.w.now.heap))
    (c.arg-said.ensures.value (extent_of c.args.w.now.heap)) (the_text (value_in (extent_of c.args.w.now.heap) c.arg-named.result))
    (c.in_ok-check_text.ensures.found (extent_of c.args.w.now.heap)) c.in_ok-mode.mode c.in_ok-mode.ensures.found c.args.w.now c.text_of.new.w
    (g.L.Locals.items c.args.l.now)
    (call_streams (g.F.Files.state c.args.files.now) left counts (g.O.Sink.state c.args.out.now) (g.E.Sink.state c.args.err.now))
    c.in_err-name.field-0.0 (answer_of c.from_residual-in_err-name.result)
    (same_halt (halt_of c.in_err-name.field-0.0) c.from_residual-in_err-name.result c.from_residual-in_err-name.ensures.1) c.in_err-name.ensures.step
    c.in_err-name.ensures.stops c.text_of.ensures.kept.locals c.text_of.ensures.kept.items

pub returns-in_err-charge_mode : goal.returns-in_err-charge_mode
returns-in_err-charge_mode g c = λ left counts.
    mode_stops (map (value_in (extent_of c.args.w.now.heap)) c.args.vals.now) (value_in (extent_of c.args.w.now.heap) c.arg-named.result)
    (value_in (extent_of c.args.w.now.heap) c.arg-said.result) (c.arg-named.ensures.value (extent_of c.args.w.now.heap))
    (c.arg-said.ensures.value (extent_of c.args.w.now.heap)) (the_text (value_in (extent_of c.args.w.now.heap) c.arg-named.result))
    (c.in_ok-check_text.ensures.found (extent_of c.args.w.now.heap)) c.in_ok-mode.mode c.in_ok-mode.ensures.found c.args.w.now c.text_of.new.w
    (g.L.Locals.items c.args.l.now) c.in_ok-name.ensures.step c.charge_mode.new.w
    (call_streams (g.F.Files.state c.args.files.now) left counts (g.O.Sink.state c.args.out.now) (g.E.Sink.state c.args.err.now))
    c.in_err-charge_mode.field-0.0 (answer_of c.from_residual-in_err-charge_mode.result)
    (same_halt (halt_of c.in_err-charge_mode.field-0.0) c.from_residual-in_err-charge_mode.result c.from_residual-in_err-charge_mode.ensures.1)
    (λ was. subst (λ (value : Value). StopsPassing (extent_of c.charge_mode.new.w.heap) (costs_text value)
    (setting_of was c.text_of.new.w (g.L.Locals.items c.args.l.now)) (setting_of was c.charge_mode.new.w (g.L.Locals.items c.args.l.now))
    c.in_err-charge_mode.field-0.0)
    (c.text_of.ensures.kept.items.extent.value c.arg-said.result (c.arg-said.ensures.live (extent_of c.args.w.now.heap) c.requires.live))
    (c.in_err-charge_mode.ensures.step was))
    c.in_err-charge_mode.ensures.stops c.charge_mode.ensures.kept.locals
    (keeps_items_trans (reach_of c.args.w.now (g.L.Locals.items c.args.l.now)) (reach_of c.text_of.new.w (g.L.Locals.items c.args.l.now))
    (reach_of c.charge_mode.new.w (g.L.Locals.items c.args.l.now)) c.text_of.ensures.kept.items c.charge_mode.ensures.kept.items)

pub open_text-requires-clause-text : goal.open_text-requires-clause-text
open_text-requires-clause-text g c = c.charge_mode.ensures.kept.items.extent.text c.in_ok-name.name c.in_ok-name.ensures.live

pub returns : goal.returns
returns g c = λ left counts.
    opened_then (map (value_in (extent_of c.args.w.now.heap)) c.args.vals.now) (value_in (extent_of c.args.w.now.heap) c.arg-named.result)
    (value_in (extent_of c.args.w.now.heap) c.arg-said.result) (c.arg-named.ensures.value (extent_of c.args.w.now.heap))
    (c.arg-said.ensures.value (extent_of c.args.w.now.heap)) (the_text (value_in (extent_of c.args.w.now.heap) c.arg-named.result))
    (c.in_ok-check_text.ensures.found (extent_of c.args.w.now.heap)) c.in_ok-mode.mode c.in_ok-mode.ensures.found c.args.w.now c.text_of.new.w
    (g.L.Locals.items c.args.l.now) c.in_ok-name.ensures.step c.charge_mode.new.w (text_in (extent_of c.charge_mode.new.w.heap) c.in_ok-name.name)
    (sym (c.charge_mode.ensures.kept.items.extent.bytes c.in_ok-name.name c.in_ok-name.ensures.live ∙ c.in_ok-name.ensures.text))
    (λ was. subst (λ (value : Value). Passes (costs_text value) (setting_of was c.text_of.new.w (g.L.Locals.items c.args.l.now))
    (setting_of was c.charge_mode.new.w (g.L.Locals.items c.args.l.now)))
    (c.text_of.ensures.kept.items.extent.value c.arg-said.result (c.arg-said.ensures.live (extent_of c.args.w.now.heap) c.requires.live))
    (c.in_ok-charge_mode.ensures.step was))
    (keeps_items_trans (reach_of c.args.w.now (g.L.Locals.items c.args.l.now)) (reach_of c.text_of.new.w (g.L.Locals.items c.args.l.now))
    (reach_of c.charge_mode.new.w (g.L.Locals.items c.args.l.now)) c.text_of.ensures.kept.items c.charge_mode.ensures.kept.items)
    (call_streams (g.F.Files.state c.args.files.now) left counts (g.O.Sink.state c.args.out.now) (g.E.Sink.state c.args.err.now))
    (call_state c.open_text.new.w (g.L.Locals.items c.args.l.now)
    (call_streams (g.F.Files.state c.open_text.new.files) left counts (g.O.Sink.state c.open_text.new.out) (g.E.Sink.state c.open_text.new.err)))
    (answer_of c.open_text.result) (c.open_text.ensures left counts)
