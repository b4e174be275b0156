-- A file of which the lines may be read is the input or an opened one; else it is an error.
use Rattle.std.proofs.Common.{◌≡◌, ◌∙◌, sym, ap, subst, Some, Err}
use Rattle.icn_value.specs.Values.{File}
use Rattle.icn_value.specs.declared.val.File.{File as HeldFile}
use Rattle.icn_value.specs.declared.val.Val.TheVariants.{Std}
use Rattle.icn_defs.specs.Lines.{lines_row}
use Rattle.icn_defs.specs.OpenFiles.{FromInput, FromOpened, readable_of}
use Rattle.icn_heap.specs.Heaps.{extent_of, heap_of}
use Rattle.icn_heap.specs.Keys.{file_of}
use Rattle.icn_vars.specs.Worlds.{setting_of}
use Rattle.icn_vars.specs.declared.outcome.Halt.TheVariants.{Error}
use Rattle.icn_streams.specs.Answers.{call_state}
use Rattle.icn_streams.specs.Applies.{Applies}
use Rattle.icn_streams.specs.Handed.{call_streams}
use Rattle.icn_streams.specs.Readings.{IsOpenFrom, lines_from, readable_in}
use Rattle.icn_streams.specs.declared.access.ReadFrom.{ReadFrom}
use Rattle.icn_streams.proofs.IdleCalls.{keeps_items_refl}
use Rattle.icn_streams.proofs.QuietRows.{faultless_applies}
use Rattle.icn_streams.proofs.ReadableFiles.{lines_closed, lines_when, no_input, nothing_found, of_input, of_opened}
use Rattle.icn_streams.proofs.RowAnswers.{applies_same}
use Rattle.icn_streams.proofs.lines.lines_row.Goals as goal

pub returns-in-Some-Input-clause-row : goal.returns-in-Some-Input-clause-row
returns-in-Some-Input-clause-row g c = λ files.
    let is : readable_of (heap_of c.args.w.now.heap) (file_of c.args.file) ≡ Some FromInput
    = sym c.in-Some-Input.ensures.found ∙ ap (λ (from : ReadFrom). Some (readable_in from)) c.in-Some-Input.field-0-is in
    subst (λ (file : File). Applies (lines_row file) (call_state c.args.w.now (g.L.Locals.items c.args.l.now)
    (call_streams files (g.I.Source.left c.args.input.now) (g.I.Source.counts c.args.input.now) (g.O.Sink.state c.args.out.now)
    (g.E.Sink.state c.args.err.now)))
    (call_state c.input_lines.new.w (g.L.Locals.items c.args.l.now)
    (call_streams files (g.I.Source.left c.input_lines.new.input) (g.I.Source.counts c.input_lines.new.input)
    (g.O.Sink.state c.input_lines.new.out) (g.E.Sink.state c.input_lines.new.err))) c.input_lines.result)
    (sym (of_input (heap_of c.args.w.now.heap) (file_of c.args.file) is)) (c.input_lines.ensures.row files)

pub returns-in-Some-Input-clause-settled : goal.returns-in-Some-Input-clause-settled
returns-in-Some-Input-clause-settled g c = λ same. c.input_lines.ensures.settled

pub opened_lines-requires-clause-file : goal.opened_lines-requires-clause-file
opened_lines-requires-clause-file g c =
    rw c.in-Some-Opened.field-0-is (subst (IsOpenFrom (extent_of c.args.w.now.heap)) c.in-Some-Opened.field-0-is c.in-Some-Opened.ensures.live)

pub returns-in-Some-Opened-clause-row : goal.returns-in-Some-Opened-clause-row
returns-in-Some-Opened-clause-row g c = λ files.
    let is : readable_of (heap_of c.args.w.now.heap) (file_of c.args.file) ≡ Some (FromOpened c.in-Some-Opened.number)
    = sym c.in-Some-Opened.ensures.found ∙ ap (λ (from : ReadFrom). Some (readable_in from)) c.in-Some-Opened.field-0-is in
    applies_same (lines_row (file_of c.args.file)) (lines_from c.in-Some-Opened.number)
    (call_state c.args.w.now (g.L.Locals.items c.args.l.now)
    (call_streams files (g.I.Source.left c.args.input.now) (g.I.Source.counts c.args.input.now) (g.O.Sink.state c.args.out.now)
    (g.E.Sink.state c.args.err.now)))
    (call_state c.opened_lines.new.w (g.L.Locals.items c.args.l.now)
    (call_streams files (g.I.Source.left c.args.input.now) (g.I.Source.counts c.args.input.now) (g.O.Sink.state c.args.out.now)
    (g.E.Sink.state c.args.err.now))) c.opened_lines.result
    (λ was. lines_when (file_of c.args.file) c.in-Some-Opened.number (setting_of was c.args.w.now (g.L.Locals.items c.args.l.now)) is)
    (rw c.in-Some-Opened.field-0-is at (c.opened_lines.ensures
    (call_streams files (g.I.Source.left c.args.input.now) (g.I.Source.counts c.args.input.now) (g.O.Sink.state c.args.out.now)
    (g.E.Sink.state c.args.err.now))))

pub returns-in-Some-Opened-clause-settled : goal.returns-in-Some-Opened-clause-settled
returns-in-Some-Opened-clause-settled g c = λ same.
    let is : readable_of (heap_of c.args.w.now.heap) (file_of c.args.file) ≡ Some (FromOpened c.in-Some-Opened.number)
    = sym c.in-Some-Opened.ensures.found ∙ ap (λ (from : ReadFrom). Some (readable_in from)) c.in-Some-Opened.field-0-is in
    absurd (no_input c.in-Some-Opened.number (sym (ap file_of same)
    ∙ of_opened (heap_of c.args.w.now.heap) (file_of c.args.file) c.in-Some-Opened.number is))

pub returns-in-None-clause-row : goal.returns-in-None-clause-row
returns-in-None-clause-row g c = λ files.
    faultless_applies (lines_row (file_of c.args.file)) c.args.w.now c.args.w.now (g.L.Locals.items c.args.l.now) (g.L.Locals.items c.args.l.now)
    (call_streams files (g.I.Source.left c.args.input.now) (g.I.Source.counts c.args.input.now) (g.O.Sink.state c.args.out.now)
    (g.E.Sink.state c.args.err.now)) (Err (Error 212 (Some (Std c.args.file))))
    (λ outside. lines_closed (file_of c.args.file) (setting_of outside c.args.w.now (g.L.Locals.items c.args.l.now)) (sym c.in-None.ensures.found))
    c.requires.live c.requires.locals (keeps_items_refl _)

pub returns-in-None-clause-settled : goal.returns-in-None-clause-settled
returns-in-None-clause-settled g c = λ same.
    absurd (nothing_found FromInput (c.in-None.ensures.found ∙ ap (λ (file : HeldFile). readable_of (heap_of c.args.w.now.heap) (file_of file)) same))
