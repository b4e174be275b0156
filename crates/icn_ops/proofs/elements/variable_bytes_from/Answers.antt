use Rattle.std.proofs.Common.{◌≡◌, ◌∙◌, ◌+◌, ◌<◌, ◌≤◌, ap, arith, length, nat_lt, rules, sym, None, Some}
use Rattle.icn_value.specs.Values.{Var}
use Rattle.icn_defs.specs.Conversions.{held_text}
use Rattle.icn_defs.specs.Elements.{part_of}
use Rattle.icn_defs.specs.ReadAndAssign.{reads}
use Rattle.icn_defs.specs.Rows.{Suspends, VariableBytes, fails_unless, present, suspends}
use Rattle.icn_heap.specs.Extents.{text_in, value_in}
use Rattle.icn_heap.specs.Heaps.{extent_of}
use Rattle.icn_vars.specs.Worlds.{reach_of, setting_of, variable_in}
use Rattle.icn_args.proofs.RowAnswers.{row_stops}
use Rattle.icn_ops.proofs.ElementRows.{variable_byte, variable_end, variable_other}
use Rattle.icn_ops.proofs.elements.variable_bytes_from.Goals as goal

pub returns-in_err-held-clause-row : goal.returns-in_err-held-clause-row
returns-in_err-held-clause-row g c = λ outside.
    row_stops (extent_of c.args.w.now.heap) (reads (variable_in (extent_of c.args.w.now.heap) c.args.variable)) (λ value. present (held_text value) 103
    (Some value) (λ text. fails_unless (nat_lt c.args.place (length text)) (suspends (Var (part_of (variable_in (extent_of c.args.w.now.heap) c.args.variable)
    (c.args.place + 1) 1)) (VariableBytes (variable_in (extent_of c.args.w.now.heap) c.args.variable) (c.args.place + 1)))))
    (setting_of outside c.args.w.now (g.L.Locals.items c.args.l.now)) (setting_of outside c.args.w.now (g.L.Locals.items c.args.l.now)) c.in_err-held.field-0.0
    c.from_residual.result c.from_residual.ensures.1 (c.in_err-held.ensures.value outside)

pub returns-then-place-size-clause-row : goal.returns-then-place-size-clause-row
returns-then-place-size-clause-row g c = λ outside.
    let same = ap length c.bytes.ensures in
    let place : c.args.place < length (text_in (extent_of c.args.w.now.heap) c.in-Text.text) = omega arith in
    variable_byte (variable_in (extent_of c.args.w.now.heap) c.args.variable) c.args.place (setting_of outside c.args.w.now (g.L.Locals.items c.args.l.now))
    (value_in (extent_of c.args.w.now.heap) c.in_ok-held.held) (text_in (extent_of c.args.w.now.heap) c.in-Text.text) (c.in_ok-held.ensures.value outside)
    (ap (value_in (extent_of c.args.w.now.heap)) c.in-Text.is) place
    ∙ ap (λ one. Suspends (Var one) (VariableBytes (variable_in (extent_of c.args.w.now.heap) c.args.variable) (c.args.place + 1))
    (setting_of outside c.args.w.now (g.L.Locals.items c.args.l.now))) (sym (c.part_of-byte.ensures.part (extent_of c.args.w.now.heap)))

pub returns-then-place-size-clause-live : goal.returns-then-place-size-clause-live
returns-then-place-size-clause-live g c = record {
  live = (
    record { live = c.part_of-byte.ensures.live (reach_of c.args.w.now (g.L.Locals.items c.args.l.now)) c.requires.variable },
    record { live = c.requires.variable },
  );
}

pub returns-else-place-size-clause-row : goal.returns-else-place-size-clause-row
returns-else-place-size-clause-row g c = λ outside.
    let same = ap length c.bytes.ensures in
    let place : length (text_in (extent_of c.args.w.now.heap) c.in-Text.text) ≤ c.args.place = omega arith in
    variable_end (variable_in (extent_of c.args.w.now.heap) c.args.variable) c.args.place (setting_of outside c.args.w.now (g.L.Locals.items c.args.l.now))
    (value_in (extent_of c.args.w.now.heap) c.in_ok-held.held) (text_in (extent_of c.args.w.now.heap) c.in-Text.text) (c.in_ok-held.ensures.value outside)
    (ap (value_in (extent_of c.args.w.now.heap)) c.in-Text.is) place

pub returns-in_default : goal.returns-in_default
returns-in_default g c = record {
  row = λ outside.
      let none : held_text (value_in (extent_of c.args.w.now.heap) c.in_ok-held.held) ≡ None = search rules in
      variable_other (variable_in (extent_of c.args.w.now.heap) c.args.variable) c.args.place (setting_of outside c.args.w.now (g.L.Locals.items c.args.l.now))
      (value_in (extent_of c.args.w.now.heap) c.in_ok-held.held) (c.in_ok-held.ensures.value outside) none;
  live = c.in_ok-held.ensures.live;
}
