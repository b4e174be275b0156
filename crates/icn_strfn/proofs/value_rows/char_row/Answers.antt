use Rattle.std.proofs.Common.{FitsSigned, w64, rules, ◌∙◌, sym, [], ◌∷◌, map}
use Rattle.std.proofs.lemmas.Int.{to_z-of_z}
use Rattle.icn_value.specs.Values.{Text}
use Rattle.icn_defs.specs.Rows.{gives_value}
use Rattle.icn_heap.specs.Extents.{value_in}
use Rattle.icn_heap.specs.Heaps.{extent_of}
use Rattle.icn_vars.specs.Worlds.{setting_of}
use Rattle.icn_strfn.proofs.RowAnswers.{row_goes_on}
use Rattle.icn_strfn.proofs.CheckedRows as steps
use Rattle.icn_defs.specs.Strings.{char_row}
use Rattle.icn_strfn.proofs.value_rows.char_row.Goals as goal

pub returns-in_default-clause-row : goal.returns-in_default-clause-row
returns-in_default-clause-row g c = λ outside. steps.char_no_integer (map (value_in (extent_of c.args.w.now.heap)) c.args.args.now)
    (value_in (extent_of c.args.w.now.heap) c.arg-val.result) (setting_of outside c.args.w.now (g.L.Locals.items c.args.l.now))
    (c.arg-val.ensures.value (extent_of c.args.w.now.heap)) (sym c.to_integer.ensures ∙ c.in_default.is)

pub returns-in_default-natural_number-clause-row : goal.returns-in_default-natural_number-clause-row
returns-in_default-natural_number-clause-row g c = λ outside. steps.char_below (map (value_in (extent_of c.args.w.now.heap)) c.args.args.now)
    (value_in (extent_of c.args.w.now.heap) c.arg-val.result) (setting_of outside c.args.w.now (g.L.Locals.items c.args.l.now))
    (c.arg-val.ensures.value (extent_of c.args.w.now.heap)) c.in-Some.n (sym c.to_integer.ensures ∙ c.in-Some.is)
    (let fits : FitsSigned w64 c.in-Some.n = search rules in
    rw (to_z-of_z w64 c.in-Some.n fits) at (sym c.natural_number.ensures ∙ c.in_default-natural_number.is))

pub returns-then-byte-ge256-clause-row : goal.returns-then-byte-ge256-clause-row
returns-then-byte-ge256-clause-row g c =
    λ outside. steps.char_above (map (value_in (extent_of c.args.w.now.heap)) c.args.args.now) (value_in (extent_of c.args.w.now.heap) c.arg-val.result)
    (setting_of outside c.args.w.now (g.L.Locals.items c.args.l.now))
    (c.arg-val.ensures.value (extent_of c.args.w.now.heap)) c.in-Some.n c.in-Some-natural_number.byte
    (sym c.to_integer.ensures ∙ c.in-Some.is) (let fits : FitsSigned w64 c.in-Some.n = search rules in
    rw (to_z-of_z w64 c.in-Some.n fits) at (sym c.natural_number.ensures ∙ c.in-Some-natural_number.is)) c.if-byte-ge256.true

pub returns-clause-row : goal.returns-clause-row
returns-clause-row g c = λ outside.
    row_goes_on (extent_of c.hold_text.new.w.heap) (char_row (map (value_in (extent_of c.args.w.now.heap)) c.args.args.now))
    (gives_value (Text (c.in-Some-natural_number.byte ∷ []))) (setting_of outside c.args.w.now (g.L.Locals.items c.args.l.now))
    (setting_of outside c.args.w.now (g.L.Locals.items c.args.l.now)) (setting_of outside c.hold_text.new.w (g.L.Locals.items c.args.l.now)) c.hold_text.result
    (steps.char_left (map (value_in (extent_of c.args.w.now.heap)) c.args.args.now) (value_in (extent_of c.args.w.now.heap) c.arg-val.result)
    (setting_of outside c.args.w.now (g.L.Locals.items c.args.l.now))
    (c.arg-val.ensures.value (extent_of c.args.w.now.heap)) c.in-Some.n c.in-Some-natural_number.byte
    (sym c.to_integer.ensures ∙ c.in-Some.is) (let fits : FitsSigned w64 c.in-Some.n = search rules in
    rw (to_z-of_z w64 c.in-Some.n fits) at (sym c.natural_number.ensures ∙ c.in-Some-natural_number.is)) c.if-byte-ge256.false)
    (c.hold_text.ensures.row outside)

pub returns-in_default-natural_number-clause-live : goal.returns-in_default-natural_number-clause-live
returns-in_default-natural_number-clause-live g c = c.arg-val.ensures.live _ c.requires.live.args
