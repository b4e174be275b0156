-- What was read and charged is what the row reads.
use Rattle.std.proofs.Common.{refl}
use Rattle.icn_defs.specs.Interruptions.{after_reading}
use Rattle.icn_streams.specs.Answers.{call_state}
use Rattle.icn_streams.specs.Handed.{call_streams}
use Rattle.icn_streams.specs.Readings.{Fills, asked_in}
use Rattle.icn_streams.proofs.NextRead.{if_some_elim, reads_err, reads_none, reads_some}
use Rattle.icn_streams.proofs.InputCounts.{read_failed, read_ok, read_stopped, read_wanted}
use Rattle.icn_streams.proofs.SomeInput.{fills_so, loses_so, some_err, some_fault, some_none, some_text, some_want}
use Rattle.icn_streams.proofs.reading.read_text.Goals as goal

pub returns-in_err-text_of-in-Ok-true-clause-reads : goal.returns-in_err-text_of-in-Ok-true-clause-reads
returns-in_err-text_of-in-Ok-true-clause-reads g c = λ was files output errors told.
    reads_err (asked_in c.args.ask) was
    (call_state c.args.w.now (g.L.Locals.items c.args.l.now)
    (call_streams files (g.I.Source.left c.args.input.now) (g.I.Source.counts c.args.input.now) output errors))
    (call_state c.text_of.new.w (g.L.Locals.items c.args.l.now)
    (call_streams files (g.I.Source.left c.fill.new.input) (g.I.Source.counts c.fill.new.input) output errors))
    c.in-Ok-true.field-0 c.fill.new.buffer.items c.deref.result.now c.in_err-text_of-in-Ok-true.field-0.0 c.from_residual.result
    (if_some_elim (g.I.Source.left c.args.input.now) was.left
    (λ left. Fills (asked_in c.args.ask) left c.in-Ok-true.field-0 c.fill.new.buffer.items (g.I.Source.left c.fill.new.input)) told c.in-Ok-true.ensures.ok)
    c.in-Ok-true.field-0-test c.deref.ensures.value
    (c.in_err-text_of-in-Ok-true.ensures.step (after_reading (asked_in c.args.ask) was)) c.from_residual.ensures.1

pub returns-in_ok-text_of-in-Ok-true-clause-reads : goal.returns-in_ok-text_of-in-Ok-true-clause-reads
returns-in_ok-text_of-in-Ok-true-clause-reads g c = λ was files output errors told.
    reads_some (asked_in c.args.ask) was
    (call_state c.args.w.now (g.L.Locals.items c.args.l.now)
    (call_streams files (g.I.Source.left c.args.input.now) (g.I.Source.counts c.args.input.now) output errors))
    (call_state c.text_of.new.w (g.L.Locals.items c.args.l.now)
    (call_streams files (g.I.Source.left c.fill.new.input) (g.I.Source.counts c.fill.new.input) output errors))
    c.in-Ok-true.field-0 c.fill.new.buffer.items c.deref.result.now c.in_ok-text_of-in-Ok-true.field-0
    (if_some_elim (g.I.Source.left c.args.input.now) was.left
    (λ left. Fills (asked_in c.args.ask) left c.in-Ok-true.field-0 c.fill.new.buffer.items (g.I.Source.left c.fill.new.input)) told c.in-Ok-true.ensures.ok)
    c.in-Ok-true.field-0-test c.deref.ensures.value c.in_ok-text_of-in-Ok-true.ensures.text
    (c.in_ok-text_of-in-Ok-true.ensures.step (after_reading (asked_in c.args.ask) was))

pub returns-in-Ok-false-clause-reads : goal.returns-in-Ok-false-clause-reads
returns-in-Ok-false-clause-reads g c = λ was files output errors told.
    reads_none (asked_in c.args.ask) was
    (call_state c.args.w.now (g.L.Locals.items c.args.l.now)
    (call_streams files (g.I.Source.left c.args.input.now) (g.I.Source.counts c.args.input.now) output errors))
    (call_state c.args.w.now (g.L.Locals.items c.args.l.now)
    (call_streams files (g.I.Source.left c.fill.new.input) (g.I.Source.counts c.fill.new.input) output errors))
    c.in-Ok-false.field-0 c.fill.new.buffer.items
    (if_some_elim (g.I.Source.left c.args.input.now) was.left
    (λ left. Fills (asked_in c.args.ask) left c.in-Ok-false.field-0 c.fill.new.buffer.items (g.I.Source.left c.fill.new.input)) told c.in-Ok-false.ensures.ok)
    c.in-Ok-false.field-0-test refl

pub returns-in_err-text_of-in-Ok-true-clause-some : goal.returns-in_err-text_of-in-Ok-true-clause-some
returns-in_err-text_of-in-Ok-true-clause-some g c = λ files output errors.
    some_err (asked_in c.args.ask) (call_state c.args.w.now (g.L.Locals.items c.args.l.now)
    (call_streams files (g.I.Source.left c.args.input.now) (g.I.Source.counts c.args.input.now) output errors))
    (call_state c.text_of.new.w (g.L.Locals.items c.args.l.now)
    (call_streams files (g.I.Source.left c.fill.new.input) (g.I.Source.counts c.fill.new.input) output errors))
    refl c.in-Ok-true.field-0 c.fill.new.buffer.items c.deref.result.now
    (fills_so (asked_in c.args.ask) c.in-Ok-true.field-0 c.fill.new.buffer.items (g.I.Source.left c.args.input.now) (g.I.Source.left c.fill.new.input)
    c.in-Ok-true.ensures.ok
    c.in-Ok-true.ensures.some)
    c.in_err-text_of-in-Ok-true.field-0.0 c.from_residual.result
    c.in-Ok-true.field-0-test c.deref.ensures.value c.in_err-text_of-in-Ok-true.ensures.step c.from_residual.ensures.1

pub returns-in_ok-text_of-in-Ok-true-clause-some : goal.returns-in_ok-text_of-in-Ok-true-clause-some
returns-in_ok-text_of-in-Ok-true-clause-some g c = λ files output errors.
    some_text (asked_in c.args.ask) (call_state c.args.w.now (g.L.Locals.items c.args.l.now)
    (call_streams files (g.I.Source.left c.args.input.now) (g.I.Source.counts c.args.input.now) output errors))
    (call_state c.text_of.new.w (g.L.Locals.items c.args.l.now)
    (call_streams files (g.I.Source.left c.fill.new.input) (g.I.Source.counts c.fill.new.input) output errors))
    refl c.in-Ok-true.field-0 c.fill.new.buffer.items c.deref.result.now
    (fills_so (asked_in c.args.ask) c.in-Ok-true.field-0 c.fill.new.buffer.items (g.I.Source.left c.args.input.now) (g.I.Source.left c.fill.new.input)
    c.in-Ok-true.ensures.ok
    c.in-Ok-true.ensures.some)
    c.in_ok-text_of-in-Ok-true.field-0
    c.in-Ok-true.field-0-test c.deref.ensures.value c.in_ok-text_of-in-Ok-true.ensures.text c.in_ok-text_of-in-Ok-true.ensures.step

pub returns-in-Ok-false-clause-some : goal.returns-in-Ok-false-clause-some
returns-in-Ok-false-clause-some g c = λ files output errors.
    some_none (asked_in c.args.ask) (call_state c.args.w.now (g.L.Locals.items c.args.l.now)
    (call_streams files (g.I.Source.left c.args.input.now) (g.I.Source.counts c.args.input.now) output errors))
    (call_state c.args.w.now (g.L.Locals.items c.args.l.now)
    (call_streams files (g.I.Source.left c.fill.new.input) (g.I.Source.counts c.fill.new.input) output errors))
    refl c.in-Ok-false.field-0 c.fill.new.buffer.items c.fill.new.buffer.items
    (fills_so (asked_in c.args.ask) c.in-Ok-false.field-0 c.fill.new.buffer.items (g.I.Source.left c.args.input.now) (g.I.Source.left c.fill.new.input)
    c.in-Ok-false.ensures.ok
    c.in-Ok-false.ensures.some)
    c.in-Ok-false.field-0-test (λ outside. refl)

pub returns-in-Err-Failed-clause-some : goal.returns-in-Err-Failed-clause-some
returns-in-Err-Failed-clause-some g c = λ files output errors.
    some_fault (asked_in c.args.ask) (call_state c.args.w.now (g.L.Locals.items c.args.l.now)
    (call_streams files (g.I.Source.left c.args.input.now) (g.I.Source.counts c.args.input.now) output errors))
    (call_state c.args.w.now (g.L.Locals.items c.args.l.now)
    (call_streams files (g.I.Source.left c.fill.new.input) (g.I.Source.counts c.fill.new.input) output errors))
    refl (loses_so (asked_in c.args.ask) (g.I.Source.left c.args.input.now) (g.I.Source.left c.fill.new.input) c.in-Err-Failed.ensures.err)

pub returns-in-Err-NoMemory-clause-some : goal.returns-in-Err-NoMemory-clause-some
returns-in-Err-NoMemory-clause-some g c = λ files output errors.
    some_want (asked_in c.args.ask) (call_state c.args.w.now (g.L.Locals.items c.args.l.now)
    (call_streams files (g.I.Source.left c.args.input.now) (g.I.Source.counts c.args.input.now) output errors))
    (call_state c.args.w.now (g.L.Locals.items c.args.l.now)
    (call_streams files (g.I.Source.left c.fill.new.input) (g.I.Source.counts c.fill.new.input) output errors))
    refl (loses_so (asked_in c.args.ask) (g.I.Source.left c.args.input.now) (g.I.Source.left c.fill.new.input) c.in-Err-NoMemory.ensures.err)

pub returns-in_err-text_of-in-Ok-true-clause-cause : goal.returns-in_err-text_of-in-Ok-true-clause-cause
returns-in_err-text_of-in-Ok-true-clause-cause g c =
    read_stopped c.in-Ok-true.field-0 (g.I.Source.counts c.args.input.now) (g.I.Source.counts c.fill.new.input)
    c.in_err-text_of-in-Ok-true.field-0.0 c.from_residual.result c.in-Ok-true.ensures.cause c.in-Ok-true.ensures.want c.from_residual.ensures.1

pub returns-in_ok-text_of-in-Ok-true-clause-cause : goal.returns-in_ok-text_of-in-Ok-true-clause-cause
returns-in_ok-text_of-in-Ok-true-clause-cause g c =
    read_ok c.in-Ok-true.field-0 (g.I.Source.counts c.args.input.now) (g.I.Source.counts c.fill.new.input)
    c.in-Ok-true.ensures.cause c.in-Ok-true.ensures.want

pub returns-in-Ok-false-clause-cause : goal.returns-in-Ok-false-clause-cause
returns-in-Ok-false-clause-cause g c =
    read_ok c.in-Ok-false.field-0 (g.I.Source.counts c.args.input.now) (g.I.Source.counts c.fill.new.input)
    c.in-Ok-false.ensures.cause c.in-Ok-false.ensures.want

pub returns-in-Err-Failed-clause-cause : goal.returns-in-Err-Failed-clause-cause
returns-in-Err-Failed-clause-cause g c =
    read_failed c.in-Err-Failed.field-0 (g.I.Source.counts c.args.input.now) (g.I.Source.counts c.fill.new.input)
    c.in-Err-Failed.field-0-is c.in-Err-Failed.ensures.cause c.in-Err-Failed.ensures.want

pub returns-in-Err-NoMemory-clause-cause : goal.returns-in-Err-NoMemory-clause-cause
returns-in-Err-NoMemory-clause-cause g c =
    read_wanted c.in-Err-NoMemory.field-0 (g.I.Source.counts c.args.input.now) (g.I.Source.counts c.fill.new.input)
    c.in-Err-NoMemory.field-0-is c.in-Err-NoMemory.ensures.cause c.in-Err-NoMemory.ensures.want
