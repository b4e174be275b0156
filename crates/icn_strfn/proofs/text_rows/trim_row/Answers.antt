use Rattle.std.proofs.Common.{◌∙◌, sym, ap, ◌-◌, length, map, take, Option, codes}
use Rattle.std.specs.List.{suffix_len}
use Rattle.icn_value.specs.Members.{contains, members_of}
use Rattle.std.specs.Option.{option_map}
use Rattle.icn_value.specs.declared.cset.Cset.{Cset}
use Rattle.icn_defs.specs.Arguments.{value_or}
use Rattle.icn_value.specs.Values.{Text, Chars}
use Rattle.icn_defs.specs.Rows.{costs_text, gives_value}
use Rattle.icn_defs.specs.Strings.{trim_row}
use Rattle.icn_heap.specs.Extents.{text_in, value_in}
use Rattle.icn_heap.specs.Heaps.{extent_of}
use Rattle.icn_vars.specs.Worlds.{setting_of}
use Rattle.icn_args.specs.RowWords.{the_text}
use Rattle.icn_strfn.proofs.RowAnswers.{gives_text, row_stops_at}
use Rattle.icn_strfn.proofs.CheckedRows as steps
use Rattle.icn_strfn.proofs.text_rows.trim_row.Goals as goal

pub to_cset-requires : goal.to_cset-requires
to_cset-requires g c = c.or_blank-set.ensures.live _ (c.arg.ensures.live _ c.requires.live.args)

pub returns-in_default-clause-row : goal.returns-in_default-clause-row
returns-in_default-clause-row g c = λ outside. steps.trim_no_cset (map (value_in (extent_of c.args.w.now.heap)) c.args.args.now)
    (value_in (extent_of c.args.w.now.heap) c.arg-val.result) (value_in (extent_of c.args.w.now.heap) c.or_blank-set.result)
    (setting_of outside c.args.w.now (g.L.Locals.items c.args.l.now)) (c.arg-val.ensures.value (extent_of c.args.w.now.heap))
    (c.or_blank-set.ensures.value (extent_of c.args.w.now.heap) ∙ ap (λ v. value_or (Chars (codes " ")) v) (c.arg.ensures.value (extent_of c.args.w.now.heap)))
    (c.if-lacks_text.ensures (extent_of c.args.w.now.heap)) (sym c.to_cset.ensures ∙ ap (λ (found : Option Cset). option_map members_of found) c.in_default.is)

pub returns-in_default-clause-live : goal.returns-in_default-clause-live
returns-in_default-clause-live g c = c.or_blank-set.ensures.live _ (c.arg.ensures.live _ c.requires.live.args)

pub text_of-requires-clause-live : goal.text_of-requires-clause-live
text_of-requires-clause-live g c = c.arg-val.ensures.live _ c.requires.live.args

pub returns-in_err-span-clause-row : goal.returns-in_err-span-clause-row
returns-in_err-span-clause-row g c = λ outside.
    row_stops_at (extent_of c.text_of.new.w.heap) (trim_row (map (value_in (extent_of c.args.w.now.heap)) c.args.args.now))
    (costs_text (value_in (extent_of c.args.w.now.heap) c.arg-val.result))
    (gives_value (Text (take (length (the_text (value_in (extent_of c.args.w.now.heap) c.arg-val.result)) - suffix_len (contains (members_of c.in-Some.bytes))
    (the_text (value_in (extent_of c.args.w.now.heap) c.arg-val.result))) (the_text (value_in (extent_of c.args.w.now.heap) c.arg-val.result)))))
    (setting_of outside c.args.w.now (g.L.Locals.items c.args.l.now)) (setting_of outside c.args.w.now (g.L.Locals.items c.args.l.now))
    (setting_of outside c.text_of.new.w (g.L.Locals.items c.args.l.now)) c.in_err-span.field-0.0 c.from_residual.result
    (steps.trim_left (map (value_in (extent_of c.args.w.now.heap)) c.args.args.now)
    (value_in (extent_of c.args.w.now.heap) c.arg-val.result) (value_in (extent_of c.args.w.now.heap) c.or_blank-set.result)
    (members_of c.in-Some.bytes) (setting_of outside c.args.w.now (g.L.Locals.items c.args.l.now)) (c.arg-val.ensures.value (extent_of c.args.w.now.heap))
    (c.or_blank-set.ensures.value (extent_of c.args.w.now.heap) ∙ ap (λ v. value_or (Chars (codes " ")) v) (c.arg.ensures.value (extent_of c.args.w.now.heap)))
    (c.if-lacks_text.ensures (extent_of c.args.w.now.heap)) (sym c.to_cset.ensures ∙ ap (λ (found : Option Cset). option_map members_of found) c.in-Some.is))
    c.from_residual.ensures.1 (c.in_err-span.ensures.step outside)

pub returns-clause-row : goal.returns-clause-row
returns-clause-row g c = λ outside.
    rw c.text.ensures
    (gives_text (trim_row (map (value_in (extent_of c.args.w.now.heap)) c.args.args.now)) (setting_of outside c.args.w.now (g.L.Locals.items c.args.l.now))
    (setting_of outside c.text_of.new.w (g.L.Locals.items c.args.l.now)) (take (length (the_text (value_in (extent_of c.args.w.now.heap) c.arg-val.result))
    - suffix_len (contains (members_of c.in-Some.bytes)) (the_text (value_in (extent_of c.args.w.now.heap) c.arg-val.result)))
    (the_text (value_in (extent_of c.args.w.now.heap) c.arg-val.result))) (text_in (extent_of c.text_of.new.w.heap) c.part.result)
    (steps.trim_left (map (value_in (extent_of c.args.w.now.heap)) c.args.args.now)
    (value_in (extent_of c.args.w.now.heap) c.arg-val.result) (value_in (extent_of c.args.w.now.heap) c.or_blank-set.result)
    (members_of c.in-Some.bytes) (setting_of outside c.args.w.now (g.L.Locals.items c.args.l.now)) (c.arg-val.ensures.value (extent_of c.args.w.now.heap))
    (c.or_blank-set.ensures.value (extent_of c.args.w.now.heap) ∙ ap (λ v. value_or (Chars (codes " ")) v) (c.arg.ensures.value (extent_of c.args.w.now.heap)))
    (c.if-lacks_text.ensures (extent_of c.args.w.now.heap)) (sym c.to_cset.ensures ∙ ap (λ (found : Option Cset). option_map members_of found) c.in-Some.is)
    ∙ c.in_ok-span.ensures.step outside
    (gives_value (Text (take (length (the_text (value_in (extent_of c.args.w.now.heap) c.arg-val.result)) - suffix_len (contains (members_of c.in-Some.bytes))
    (the_text (value_in (extent_of c.args.w.now.heap) c.arg-val.result))) (the_text (value_in (extent_of c.args.w.now.heap) c.arg-val.result))))))
    (c.part.ensures.bytes ∙ (ap (λ n. take n (text_in (extent_of c.text_of.new.w.heap) c.in_ok-span.span)) (c.trimmed_len-len.ensures.value
    ∙ ap (λ bytes. length bytes - suffix_len (contains (members_of c.in-Some.bytes)) bytes) c.bytes.ensures)
    ∙ ap (λ bytes. take (length bytes - suffix_len (contains (members_of c.in-Some.bytes)) bytes) bytes) c.in_ok-span.ensures.text)))
