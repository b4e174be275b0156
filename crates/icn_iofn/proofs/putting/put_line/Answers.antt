-- The line as far as its pieces have come, and where it is broken off.
use Rattle.std.proofs.Common.{◌≡◌, ◌∙◌, refl, [], ◌∷◌}
use Rattle.icn_heap.specs.Heaps.{extent_of}
use Rattle.icn_heap.specs.Keys.{file_of}
use Rattle.icn_host.specs.declared.fault.Fault.TheVariants.{NoMemory}
use Rattle.icn_vars.proofs.KeptItems.{keeps_items_trans}
use Rattle.icn_vars.specs.Worlds.{reach_of}
use Rattle.icn_streams.proofs.IdleCalls.{keeps_items_refl}
use Rattle.icn_iofn.specs.PutPieces.{outputs, put_state, uncounted}
use Rattle.icn_iofn.proofs.PutSteps.{both_then, broken_then, first_lives, first_same, if_err_known, if_err_map, line_at, line_begins, line_breaks, line_ends, line_goes_on, line_stops, line_wants, nothing_left, on_err_map, on_ok_map, said_again, stopped_again}
use Rattle.icn_iofn.proofs.putting.put_line.Goals as goal

pub loop-first-init : goal.loop-first-init
loop-first-init g c = record {
  line =
      line_begins (extent_of c.args.w.now.heap) c.args.vals.now c.args.ends (file_of c.args.file) c.clear.new.self.items
      (put_state c.args.w.now (g.L.Locals.items c.args.l.now) (outputs (g.O.Sink.state c.args.out.now) (g.E.Sink.state c.args.err.now))) c.clear.ensures.items
      c.requires.live;
  file = c.requires.file;
  locals = c.requires.locals;
  kept = keeps_items_refl (reach_of c.args.w.now (g.L.Locals.items c.args.l.now));
  one = λ one. one;
}

pub put_piece-requires-clause-live : goal.put_piece-requires-clause-live
put_piece-requires-clause-live g c =
    first_lives (extent_of c.args.w.now.heap) (extent_of c.loop-first.w.heap) c.loop-first.rest.now c.in-Some.first.now c.in-Some.others.now
    c.in-Some.ensures.cases.0
    c.loop-first.invariant.line.live c.loop-first.invariant.kept.extent

pub returns-in_err-selected-clause-err : goal.returns-in_err-selected-clause-err
returns-in_err-selected-clause-err g c =
    on_err_map c.from_residual.result
    (if_err_known c.from_residual.result (λ fault. fault ≡ c.in_err-selected.field-0.0) c.in_err-selected.field-0.0 c.from_residual.ensures.1 refl)
    (λ fault same. line_stops (extent_of c.args.w.now.heap) c.args.vals.now c.in-Some.first.now c.in-Some.others.now c.args.ends c.loop-first.is_first
    (file_of c.args.file) (file_of c.loop-first.selected) c.loop-first.buffer.items
    (put_state c.args.w.now (g.L.Locals.items c.args.l.now) (outputs (g.O.Sink.state c.args.out.now) (g.E.Sink.state c.args.err.now)))
    (put_state c.loop-first.w (g.L.Locals.items c.args.l.now) (outputs (g.O.Sink.state c.loop-first.out) (g.E.Sink.state c.loop-first.err)))
    c.ends_line.result c.ends_line.ensures
    (line_at (extent_of c.args.w.now.heap) c.args.vals.now c.loop-first.rest.now (c.in-Some.first.now ∷ c.in-Some.others.now) c.args.ends c.loop-first.is_first
    (file_of c.args.file) (file_of c.loop-first.selected) c.loop-first.buffer.items
    (put_state c.args.w.now (g.L.Locals.items c.args.l.now) (outputs (g.O.Sink.state c.args.out.now) (g.E.Sink.state c.args.err.now)))
    (put_state c.loop-first.w (g.L.Locals.items c.args.l.now) (outputs (g.O.Sink.state c.loop-first.out) (g.E.Sink.state c.loop-first.err)))
    c.in-Some.ensures.cases.0 c.loop-first.invariant.line)
    (outputs (g.O.Sink.state c.put_piece.new.out) (g.E.Sink.state c.put_piece.new.err)) c.in_err-selected.field-0.0
    (stopped_again (extent_of c.args.w.now.heap) (extent_of c.loop-first.w.heap) c.loop-first.rest.now c.in-Some.first.now c.in-Some.others.now
    c.in-Some.ensures.cases.0
    c.loop-first.invariant.line.live c.loop-first.invariant.kept.extent (file_of c.loop-first.selected) c.loop-first.buffer.items
    (put_state c.loop-first.w (g.L.Locals.items c.args.l.now) (outputs (g.O.Sink.state c.loop-first.out) (g.E.Sink.state c.loop-first.err))) c.ends_line.result
    (outputs (g.O.Sink.state c.put_piece.new.out) (g.E.Sink.state c.put_piece.new.err)) c.in_err-selected.field-0.0
    c.in_err-selected.ensures.err))

pub returns-in_err-selected-clause-cause : goal.returns-in_err-selected-clause-cause
returns-in_err-selected-clause-cause g c =
    if_err_known c.from_residual.result _ c.in_err-selected.field-0.0 c.from_residual.ensures.1
    (broken_then c.in_err-selected.field-0.0 c.loop-first.invariant.line.counts c.in_err-selected.ensures.err.cause)

pub returns-in_err-selected-clause-kept : goal.returns-in_err-selected-clause-kept
returns-in_err-selected-clause-kept g c = record {
  locals = c.put_piece.ensures.kept.locals;
  items = keeps_items_trans _ _ _ c.loop-first.invariant.kept c.put_piece.ensures.kept.items;
}

pub loop-first-preserved : goal.loop-first-preserved
loop-first-preserved g c = record {
  line =
      line_goes_on (extent_of c.args.w.now.heap) c.args.vals.now c.in-Some.first.now c.in-Some.others.now c.args.ends c.loop-first.is_first
      (file_of c.args.file) (file_of c.loop-first.selected) c.loop-first.buffer.items
      (put_state c.args.w.now (g.L.Locals.items c.args.l.now) (outputs (g.O.Sink.state c.args.out.now) (g.E.Sink.state c.args.err.now)))
      (put_state c.loop-first.w (g.L.Locals.items c.args.l.now) (outputs (g.O.Sink.state c.loop-first.out) (g.E.Sink.state c.loop-first.err)))
      c.ends_line.result c.ends_line.ensures
      (line_at (extent_of c.args.w.now.heap) c.args.vals.now c.loop-first.rest.now (c.in-Some.first.now ∷ c.in-Some.others.now) c.args.ends
      c.loop-first.is_first
      (file_of c.args.file) (file_of c.loop-first.selected) c.loop-first.buffer.items
      (put_state c.args.w.now (g.L.Locals.items c.args.l.now) (outputs (g.O.Sink.state c.args.out.now) (g.E.Sink.state c.args.err.now)))
      (put_state c.loop-first.w (g.L.Locals.items c.args.l.now) (outputs (g.O.Sink.state c.loop-first.out) (g.E.Sink.state c.loop-first.err)))
      c.in-Some.ensures.cases.0 c.loop-first.invariant.line)
      (file_of c.in_ok-selected.selected) c.put_piece.new.buffer.items (put_state c.put_piece.new.w (g.L.Locals.items c.args.l.now)
      (outputs (g.O.Sink.state c.put_piece.new.out) (g.E.Sink.state c.put_piece.new.err)))
      (said_again (extent_of c.args.w.now.heap) (extent_of c.loop-first.w.heap) c.loop-first.rest.now c.in-Some.first.now c.in-Some.others.now
      c.in-Some.ensures.cases.0
      c.loop-first.invariant.line.live c.loop-first.invariant.kept.extent (file_of c.loop-first.selected) c.loop-first.buffer.items
      (put_state c.loop-first.w (g.L.Locals.items c.args.l.now) (outputs (g.O.Sink.state c.loop-first.out) (g.E.Sink.state c.loop-first.err)))
      c.ends_line.result (file_of c.in_ok-selected.selected) c.put_piece.new.buffer.items
      (put_state c.put_piece.new.w (g.L.Locals.items c.args.l.now) (outputs (g.O.Sink.state c.put_piece.new.out) (g.E.Sink.state c.put_piece.new.err)))
      c.in_ok-selected.ensures.ok)
      (first_same (extent_of c.args.w.now.heap) (extent_of c.loop-first.w.heap) c.loop-first.rest.now c.in-Some.first.now c.in-Some.others.now
      c.in-Some.ensures.cases.0
      c.loop-first.invariant.line.live c.loop-first.invariant.kept.extent (file_of c.loop-first.selected) (file_of c.in_ok-selected.selected)
      c.in_ok-selected.ensures.file);
  file = c.in_ok-selected.ensures.live;
  locals = c.put_piece.ensures.kept.locals;
  kept = keeps_items_trans _ _ _ c.loop-first.invariant.kept c.put_piece.ensures.kept.items;
  one = λ one. c.put_piece.ensures.one_settled (c.loop-first.invariant.one one);
}

pub returns-in_err-end_line-clause-err : goal.returns-in_err-end_line-clause-err
returns-in_err-end_line-clause-err g c =
    on_err_map c.from_residual-in_err-end_line.result
    (if_err_known c.from_residual-in_err-end_line.result (λ fault. fault ≡ NoMemory) NoMemory c.from_residual-in_err-end_line.ensures.1 refl)
    (λ fault same. line_wants (extent_of c.args.w.now.heap) c.args.vals.now c.args.ends c.loop-first.is_first (file_of c.args.file)
    (file_of c.loop-first.selected) c.loop-first.buffer.items
    (put_state c.args.w.now (g.L.Locals.items c.args.l.now) (outputs (g.O.Sink.state c.args.out.now) (g.E.Sink.state c.args.err.now)))
    (put_state c.loop-first.w (g.L.Locals.items c.args.l.now) (outputs (g.O.Sink.state c.loop-first.out) (g.E.Sink.state c.loop-first.err)))
    (line_at (extent_of c.args.w.now.heap) c.args.vals.now c.loop-first.rest.now [] c.args.ends c.loop-first.is_first (file_of c.args.file)
    (file_of c.loop-first.selected) c.loop-first.buffer.items
    (put_state c.args.w.now (g.L.Locals.items c.args.l.now) (outputs (g.O.Sink.state c.args.out.now) (g.E.Sink.state c.args.err.now)))
    (put_state c.loop-first.w (g.L.Locals.items c.args.l.now) (outputs (g.O.Sink.state c.loop-first.out) (g.E.Sink.state c.loop-first.err)))
    (nothing_left c.loop-first.rest.now c.in_default.ensures.cases) c.loop-first.invariant.line))

pub returns-in_err-end_line-clause-kept : goal.returns-in_err-end_line-clause-kept
returns-in_err-end_line-clause-kept g c = record { locals = c.loop-first.invariant.locals; items = c.loop-first.invariant.kept }

pub returns-in_err-end_line-clause-cause : goal.returns-in_err-end_line-clause-cause
returns-in_err-end_line-clause-cause g c =
    if_err_known c.from_residual-in_err-end_line.result _ NoMemory c.from_residual-in_err-end_line.ensures.1 (uncounted c.loop-first.invariant.line.counts)

pub returns-clause-ok : goal.returns-clause-ok
returns-clause-ok g c =
    on_ok_map c.flush.result c.flush.ensures.ok
    (λ puts. line_ends (extent_of c.args.w.now.heap) c.args.vals.now c.args.ends c.loop-first.is_first (file_of c.args.file) (file_of c.loop-first.selected)
    c.loop-first.buffer.items
    (put_state c.args.w.now (g.L.Locals.items c.args.l.now) (outputs (g.O.Sink.state c.args.out.now) (g.E.Sink.state c.args.err.now)))
    (put_state c.loop-first.w (g.L.Locals.items c.args.l.now) (outputs (g.O.Sink.state c.loop-first.out) (g.E.Sink.state c.loop-first.err)))
    (line_at (extent_of c.args.w.now.heap) c.args.vals.now c.loop-first.rest.now [] c.args.ends c.loop-first.is_first (file_of c.args.file)
    (file_of c.loop-first.selected) c.loop-first.buffer.items
    (put_state c.args.w.now (g.L.Locals.items c.args.l.now) (outputs (g.O.Sink.state c.args.out.now) (g.E.Sink.state c.args.err.now)))
    (put_state c.loop-first.w (g.L.Locals.items c.args.l.now) (outputs (g.O.Sink.state c.loop-first.out) (g.E.Sink.state c.loop-first.err)))
    (nothing_left c.loop-first.rest.now c.in_default.ensures.cases) c.loop-first.invariant.line)
    c.deref.result.now (put_state c.flush.new.w (g.L.Locals.items c.args.l.now) (outputs (g.O.Sink.state c.flush.new.out) (g.E.Sink.state c.flush.new.err)))
    (c.deref.ensures.value ∙ c.in_ok-end_line.ensures) puts)

pub returns-clause-counts : goal.returns-clause-counts
returns-clause-counts g c = on_ok_map c.flush.result c.flush.ensures.counts (λ counts. both_then c.loop-first.invariant.line.counts counts)

pub returns-clause-err : goal.returns-clause-err
returns-clause-err g c =
    on_err_map c.flush.result c.flush.ensures.err
    (λ fault puts. line_breaks (extent_of c.args.w.now.heap) c.args.vals.now c.args.ends c.loop-first.is_first (file_of c.args.file)
    (file_of c.loop-first.selected) c.loop-first.buffer.items
    (put_state c.args.w.now (g.L.Locals.items c.args.l.now) (outputs (g.O.Sink.state c.args.out.now) (g.E.Sink.state c.args.err.now)))
    (put_state c.loop-first.w (g.L.Locals.items c.args.l.now) (outputs (g.O.Sink.state c.loop-first.out) (g.E.Sink.state c.loop-first.err)))
    (line_at (extent_of c.args.w.now.heap) c.args.vals.now c.loop-first.rest.now [] c.args.ends c.loop-first.is_first (file_of c.args.file)
    (file_of c.loop-first.selected) c.loop-first.buffer.items
    (put_state c.args.w.now (g.L.Locals.items c.args.l.now) (outputs (g.O.Sink.state c.args.out.now) (g.E.Sink.state c.args.err.now)))
    (put_state c.loop-first.w (g.L.Locals.items c.args.l.now) (outputs (g.O.Sink.state c.loop-first.out) (g.E.Sink.state c.loop-first.err)))
    (nothing_left c.loop-first.rest.now c.in_default.ensures.cases) c.loop-first.invariant.line)
    c.deref.result.now (outputs (g.O.Sink.state c.flush.new.out) (g.E.Sink.state c.flush.new.err)) fault
    (c.deref.ensures.value ∙ c.in_ok-end_line.ensures) puts)

pub returns-clause-cause : goal.returns-clause-cause
returns-clause-cause g c = if_err_map c.flush.result c.flush.ensures.err (λ fault puts. broken_then fault c.loop-first.invariant.line.counts puts.cause)

pub returns-clause-kept : goal.returns-clause-kept
returns-clause-kept g c = record {
  locals = c.flush.ensures.kept.locals;
  items = keeps_items_trans _ _ _ c.loop-first.invariant.kept c.flush.ensures.kept.items;
}

pub returns-in_err-selected-clause-one_settled : goal.returns-in_err-selected-clause-one_settled
returns-in_err-selected-clause-one_settled g c = λ one. c.put_piece.ensures.one_settled (c.loop-first.invariant.one one)

pub returns-in_err-end_line-clause-one_settled : goal.returns-in_err-end_line-clause-one_settled
returns-in_err-end_line-clause-one_settled g c = c.loop-first.invariant.one

pub returns-clause-one_settled : goal.returns-clause-one_settled
returns-clause-one_settled g c = λ one. c.flush.ensures.one_settled (c.loop-first.invariant.one one)
