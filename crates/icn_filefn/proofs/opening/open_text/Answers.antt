-- A name that is no UTF-8 is none.
use Rattle.std.proofs.Common.{◌≡◌, ◌∙◌, sym, ap, is_some, ℕ, List, Ok, true, string_bytes}
use Rattle.std.specs.Str.{is_utf8}
use Rattle.icn_heap.specs.Extents.{text_in}
use Rattle.icn_heap.specs.Heaps.{extent_of}
use Rattle.icn_vars.specs.Outcomes.{answer_of}
use Rattle.icn_vars.specs.Stops.{halt_of}
use Rattle.icn_args.proofs.RowAnswers.{same_halt}
use Rattle.icn_vars.specs.Worlds.{setting_of}
use Rattle.icn_vars.specs.declared.outcome.Outcome.TheVariants.{Fails as HeldFails}
use Rattle.icn_streams.specs.Answers.{call_state}
use Rattle.icn_streams.specs.Handed.{call_streams}
use Rattle.icn_streams.proofs.IdleCalls.{keeps_items_refl}
use Rattle.icn_streams.proofs.NextRead.{if_some_elim}
use Rattle.icn_streams.proofs.QuietRows.{faultless_applies}
use Rattle.icn_streams.proofs.RowAnswers.{applies_same}
use Rattle.icn_filefn.specs.OpenParts.{opens_named, opens_text}
use Rattle.icn_filefn.proofs.NamedTexts.{nothing_begun, opens_not, opens_when}
use Rattle.icn_filefn.proofs.opening.open_text.Goals as goal

pub returns-in_err-name : goal.returns-in_err-name
returns-in_err-name g c = λ left counts.
    nothing_begun (opens_text (text_in (extent_of c.args.w.now.heap) c.args.text) c.args.mode) (call_state c.args.w.now (g.L.Locals.items c.args.l.now)
    (call_streams (g.F.Files.state c.args.files.now) left counts (g.O.Sink.state c.args.out.now) (g.E.Sink.state c.args.err.now))) c.requires.locals
    c.in_err-name.field-0.0 c.in_err-name.ensures.want (answer_of c.from_residual.result)
    (same_halt (halt_of c.in_err-name.field-0.0) c.from_residual.result c.from_residual.ensures.1)

pub returns-in-Some : goal.returns-in-Some
returns-in-Some g c = λ left counts.
    let text : is_utf8 (text_in (extent_of c.args.w.now.heap) c.args.text) ≡ true
    = ap is_utf8 (sym c.bytes.ensures) ∙ sym c.in_ok-name.ensures.text ∙ ap is_some c.in-Some.is in
    let same : string_bytes c.in-Some.name ≡ (text_in (extent_of c.args.w.now.heap) c.args.text)
    = if_some_elim c.in_ok-name.field-0 c.in-Some.name (λ name. string_bytes name ≡ c.bytes.result.now) c.in-Some.is c.in_ok-name.ensures.name
    ∙ c.bytes.ensures in
    applies_same (opens_text (text_in (extent_of c.args.w.now.heap) c.args.text) c.args.mode) (opens_named (string_bytes c.in-Some.name) c.args.mode)
    (call_state c.args.w.now (g.L.Locals.items c.args.l.now) (call_streams (g.F.Files.state c.args.files.now) left counts (g.O.Sink.state c.args.out.now)
    (g.E.Sink.state c.args.err.now)))
    (call_state c.open_named.new.w (g.L.Locals.items c.args.l.now)
    (call_streams (g.F.Files.state c.open_named.new.files) left counts (g.O.Sink.state c.open_named.new.out) (g.E.Sink.state c.open_named.new.err)))
    (answer_of c.open_named.result)
    (λ was. opens_when (text_in (extent_of c.args.w.now.heap) c.args.text) c.args.mode (setting_of was c.args.w.now (g.L.Locals.items c.args.l.now)) text
    ∙ ap (λ (name : List ℕ). opens_named name c.args.mode (setting_of was c.args.w.now (g.L.Locals.items c.args.l.now))) (sym same))
    (c.open_named.ensures left counts)

pub returns-in-None : goal.returns-in-None
returns-in-None g c = λ left counts.
    faultless_applies (opens_text (text_in (extent_of c.args.w.now.heap) c.args.text) c.args.mode) c.args.w.now c.args.w.now (g.L.Locals.items c.args.l.now)
    (g.L.Locals.items c.args.l.now) (call_streams (g.F.Files.state c.args.files.now) left counts (g.O.Sink.state c.args.out.now)
    (g.E.Sink.state c.args.err.now)) (Ok HeldFails)
    (λ outside. opens_not (text_in (extent_of c.args.w.now.heap) c.args.text) c.args.mode (setting_of outside c.args.w.now (g.L.Locals.items c.args.l.now))
    (ap is_utf8 (sym c.bytes.ensures) ∙ sym c.in_ok-name.ensures.text ∙ ap is_some c.in-None.is))
    (record { live = tt }) c.requires.locals (keeps_items_refl _)
