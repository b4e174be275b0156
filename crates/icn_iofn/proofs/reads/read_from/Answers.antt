-- What is read is the input or an opened file; a file that is not open for reading is an error.
use Rattle.std.proofs.Common.{◌≡◌, ◌∙◌, sym, ap, subst, Some, Err}
use Rattle.icn_value.specs.declared.val.File.{File as HeldFile}
use Rattle.icn_defs.specs.OpenFiles.{FromInput, FromOpened, readable_of}
use Rattle.icn_heap.specs.Extents.{value_in}
use Rattle.icn_heap.specs.Heaps.{extent_of, heap_of}
use Rattle.icn_heap.specs.Keys.{file_of}
use Rattle.icn_vars.specs.Outcomes.{answer_of}
use Rattle.icn_vars.specs.Worlds.{setting_of}
use Rattle.icn_vars.specs.declared.outcome.Halt.TheVariants.{Error}
use Rattle.icn_streams.specs.Answers.{call_state}
use Rattle.icn_streams.specs.Handed.{call_streams}
use Rattle.icn_streams.specs.Readings.{IsOpenFrom, asked_in, readable_in}
use Rattle.icn_streams.specs.declared.access.ReadFrom.{ReadFrom}
use Rattle.icn_streams.proofs.IdleCalls.{keeps_items_refl}
use Rattle.icn_streams.proofs.QuietRows.{faultless_applies}
use Rattle.icn_streams.proofs.ReadableFiles.{no_input, nothing_found, of_opened}
use Rattle.icn_streams.proofs.RowAnswers.{applies_same}
use Rattle.icn_iofn.specs.ReadParts.{read_from, reads_input, reads_opened}
use Rattle.icn_iofn.proofs.ReadSteps.{reading_refused, reads_when}
use Rattle.icn_iofn.proofs.reads.read_from.Goals as goal

pub returns-in-Some-Input-clause-row : goal.returns-in-Some-Input-clause-row
returns-in-Some-Input-clause-row g c = λ files.
    let is : readable_of (heap_of c.args.w.now.heap) (file_of c.args.file) ≡ Some FromInput
    = sym c.in-Some-Input.ensures.found ∙ ap (λ (from : ReadFrom). Some (readable_in from)) c.in-Some-Input.field-0-is in
    applies_same (read_from (asked_in c.args.ask) (file_of c.args.file) (value_in (extent_of c.args.w.now.heap) c.args.named))
    (reads_input (asked_in c.args.ask))
    (call_state c.args.w.now (g.L.Locals.items c.args.l.now)
    (call_streams files (g.I.Source.left c.args.input.now) (g.I.Source.counts c.args.input.now) (g.O.Sink.state c.args.out.now)
    (g.E.Sink.state c.args.err.now)))
    (call_state c.read_input.new.w (g.L.Locals.items c.args.l.now)
    (call_streams files (g.I.Source.left c.read_input.new.input) (g.I.Source.counts c.read_input.new.input)
    (g.O.Sink.state c.read_input.new.out) (g.E.Sink.state c.read_input.new.err))) (answer_of c.read_input.result)
    (λ was. reads_when (asked_in c.args.ask) (file_of c.args.file) (value_in (extent_of c.args.w.now.heap) c.args.named) FromInput
    (setting_of was c.args.w.now (g.L.Locals.items c.args.l.now)) is)
    (c.read_input.ensures.row files)

pub returns-in-Some-Input-clause-settled : goal.returns-in-Some-Input-clause-settled
returns-in-Some-Input-clause-settled g c = λ same. c.read_input.ensures.settled

pub give_opened-requires-clause-file : goal.give_opened-requires-clause-file
give_opened-requires-clause-file g c =
    rw c.in-Some-Opened.field-0-is (subst (IsOpenFrom (extent_of c.args.w.now.heap)) c.in-Some-Opened.field-0-is c.in-Some-Opened.ensures.live)

pub returns-in-Some-Opened-clause-row : goal.returns-in-Some-Opened-clause-row
returns-in-Some-Opened-clause-row g c = λ files.
    let is : readable_of (heap_of c.args.w.now.heap) (file_of c.args.file) ≡ Some (FromOpened c.in-Some-Opened.number)
    = sym c.in-Some-Opened.ensures.found ∙ ap (λ (from : ReadFrom). Some (readable_in from)) c.in-Some-Opened.field-0-is in
    applies_same (read_from (asked_in c.args.ask) (file_of c.args.file) (value_in (extent_of c.args.w.now.heap) c.args.named))
    (reads_opened (asked_in c.args.ask) c.in-Some-Opened.number)
    (call_state c.args.w.now (g.L.Locals.items c.args.l.now)
    (call_streams files (g.I.Source.left c.args.input.now) (g.I.Source.counts c.args.input.now) (g.O.Sink.state c.args.out.now)
    (g.E.Sink.state c.args.err.now)))
    (call_state c.give_opened.new.w (g.L.Locals.items c.args.l.now)
    (call_streams files (g.I.Source.left c.args.input.now) (g.I.Source.counts c.args.input.now) (g.O.Sink.state c.args.out.now)
    (g.E.Sink.state c.args.err.now))) (answer_of c.give_opened.result)
    (λ was. reads_when (asked_in c.args.ask) (file_of c.args.file) (value_in (extent_of c.args.w.now.heap) c.args.named)
    (FromOpened c.in-Some-Opened.number) (setting_of was c.args.w.now (g.L.Locals.items c.args.l.now)) is)
    (rw c.in-Some-Opened.field-0-is at (c.give_opened.ensures
    (call_streams files (g.I.Source.left c.args.input.now) (g.I.Source.counts c.args.input.now) (g.O.Sink.state c.args.out.now)
    (g.E.Sink.state c.args.err.now))))

pub returns-in-Some-Opened-clause-settled : goal.returns-in-Some-Opened-clause-settled
returns-in-Some-Opened-clause-settled g c = λ same.
    let is : readable_of (heap_of c.args.w.now.heap) (file_of c.args.file) ≡ Some (FromOpened c.in-Some-Opened.number)
    = sym c.in-Some-Opened.ensures.found ∙ ap (λ (from : ReadFrom). Some (readable_in from)) c.in-Some-Opened.field-0-is in
    absurd (no_input c.in-Some-Opened.number (sym (ap file_of same)
    ∙ of_opened (heap_of c.args.w.now.heap) (file_of c.args.file) c.in-Some-Opened.number is))

pub returns-in-None-clause-row : goal.returns-in-None-clause-row
returns-in-None-clause-row g c = λ files.
    faultless_applies (read_from (asked_in c.args.ask) (file_of c.args.file) (value_in (extent_of c.args.w.now.heap) c.args.named)) c.args.w.now c.args.w.now
    (g.L.Locals.items c.args.l.now) (g.L.Locals.items c.args.l.now)
    (call_streams files (g.I.Source.left c.args.input.now) (g.I.Source.counts c.args.input.now) (g.O.Sink.state c.args.out.now)
    (g.E.Sink.state c.args.err.now)) (Err (Error 212 (Some c.args.named)))
    (λ outside. reading_refused (asked_in c.args.ask) (file_of c.args.file) (value_in (extent_of c.args.w.now.heap) c.args.named)
    (setting_of outside c.args.w.now (g.L.Locals.items c.args.l.now)) (sym c.in-None.ensures.found))
    c.requires.live c.requires.locals (keeps_items_refl _)

pub returns-in-None-clause-settled : goal.returns-in-None-clause-settled
returns-in-None-clause-settled g c = λ same.
    absurd (nothing_found FromInput (c.in-None.ensures.found ∙ ap (λ (file : HeldFile). readable_of (heap_of c.args.w.now.heap) (file_of file)) same))
