-- What `write` puts is put from the error output on, and the program ends.
use Rattle.std.proofs.Common.{map, refl, subst, true}
use Rattle.icn_heap.specs.Extents.{value_in}
use Rattle.icn_heap.specs.Heaps.{extent_of, heap_of}
use Rattle.icn_value.specs.Values.{Errout}
use Rattle.icn_defs.specs.InputOutput.{line_put, newline, pieces, stop_row}
use Rattle.icn_defs.specs.Rows.{changes, ends}
use Rattle.icn_vars.specs.Outcomes.{answer_of}
use Rattle.icn_vars.specs.Stops.{halt_of}
use Rattle.icn_args.proofs.RowAnswers.{same_halt}
use Rattle.icn_vars.specs.Worlds.{setting_of}
use Rattle.icn_streams.specs.Answers.{call_state}
use Rattle.icn_streams.specs.Handed.{call_streams}
use Rattle.icn_streams.proofs.RowAnswers.{applies_same, stops_there}
use Rattle.icn_iofn.specs.PutPieces.{BrokenBy, outputs}
use Rattle.icn_iofn.proofs.WriteRows.{write_fails, write_wants, wrote_ends}
use Rattle.icn_iofn.proofs.writes.stop.Goals as goal

pub put_line-requires-clause-file : goal.put_line-requires-clause-file
put_line-requires-clause-file g c = record { live = tt }

pub returns-in_err-check_pieces : goal.returns-in_err-check_pieces
returns-in_err-check_pieces g c = λ files left counts.
    applies_same (stop_row (map (value_in (extent_of c.args.w.now.heap)) c.args.vals.now))
    (pieces (heap_of c.args.w.now.heap) (map (value_in (extent_of c.args.w.now.heap)) c.args.vals.now) (λ parts. changes (line_put newline true parts Errout)
    (ends 1)))
    (call_state c.args.w.now (g.L.Locals.items c.args.l.now)
    (call_streams files left counts (g.O.Sink.state c.args.out.now) (g.E.Sink.state c.args.err.now)))
    (call_state c.args.w.now (g.L.Locals.items c.args.l.now)
    (call_streams files left counts (g.O.Sink.state c.args.out.now) (g.E.Sink.state c.args.err.now)))
    (answer_of c.from_residual.result) (λ was. refl)
    (stops_there (pieces (heap_of c.args.w.now.heap) (map (value_in (extent_of c.args.w.now.heap)) c.args.vals.now))
    (λ parts. changes (line_put newline true parts Errout) (ends 1))
    (call_state c.args.w.now (g.L.Locals.items c.args.l.now)
    (call_streams files left counts (g.O.Sink.state c.args.out.now) (g.E.Sink.state c.args.err.now)))
    c.in_err-check_pieces.field-0.0 (answer_of c.from_residual.result)
    (same_halt (halt_of c.in_err-check_pieces.field-0.0) c.from_residual.result c.from_residual.ensures.1)
    (λ was. c.in_err-check_pieces.ensures.found (setting_of was c.args.w.now (g.L.Locals.items c.args.l.now)))
    c.in_err-check_pieces.ensures.stops c.requires.locals)

pub returns-in-Ok : goal.returns-in-Ok
returns-in-Ok g c = λ files left counts.
    wrote_ends newline Errout (map (value_in (extent_of c.args.w.now.heap)) c.args.vals.now)
    (ends 1) (λ s. refl) c.args.w.now c.put_line.new.w (g.L.Locals.items c.args.l.now)
    c.in_ok-check_pieces.ensures.found files left counts
    (g.O.Sink.state c.args.out.now) (g.O.Sink.state c.put_line.new.out) (g.E.Sink.state c.args.err.now) (g.E.Sink.state c.put_line.new.err)
    c.put_line.ensures.kept.locals c.put_line.ensures.kept.items
    c.in-Ok.ensures.ok c.in-Ok.ensures.counts 1 (λ s. refl)

pub returns-in-Err-Failed : goal.returns-in-Err-Failed
returns-in-Err-Failed g c = λ files left counts.
    write_fails newline Errout (map (value_in (extent_of c.args.w.now.heap)) c.args.vals.now)
    (ends 1) (λ s. refl) c.args.w.now c.put_line.new.w (g.L.Locals.items c.args.l.now)
    c.in_ok-check_pieces.ensures.found files left counts
    (g.O.Sink.state c.args.out.now) (g.O.Sink.state c.put_line.new.out) (g.E.Sink.state c.args.err.now) (g.E.Sink.state c.put_line.new.err)
    c.put_line.ensures.kept.locals c.put_line.ensures.kept.items
    c.in-Err-Failed.ensures.err (subst (BrokenBy (outputs (g.O.Sink.state c.args.out.now) (g.E.Sink.state c.args.err.now))
    (outputs (g.O.Sink.state c.put_line.new.out) (g.E.Sink.state c.put_line.new.err))) c.in-Err-Failed.field-0-is c.in-Err-Failed.ensures.cause)

pub returns-in-Err-NoMemory : goal.returns-in-Err-NoMemory
returns-in-Err-NoMemory g c = λ files left counts.
    write_wants newline Errout (map (value_in (extent_of c.args.w.now.heap)) c.args.vals.now)
    (ends 1) (λ s. refl) c.args.w.now c.put_line.new.w (g.L.Locals.items c.args.l.now)
    c.in_ok-check_pieces.ensures.found files left counts
    (g.O.Sink.state c.args.out.now) (g.O.Sink.state c.put_line.new.out) (g.E.Sink.state c.args.err.now) (g.E.Sink.state c.put_line.new.err)
    c.put_line.ensures.kept.locals c.put_line.ensures.kept.items
    c.in-Err-NoMemory.ensures.err (subst (BrokenBy (outputs (g.O.Sink.state c.args.out.now) (g.E.Sink.state c.args.err.now))
    (outputs (g.O.Sink.state c.put_line.new.out) (g.E.Sink.state c.put_line.new.err))) c.in-Err-NoMemory.field-0-is c.in-Err-NoMemory.ensures.cause)
