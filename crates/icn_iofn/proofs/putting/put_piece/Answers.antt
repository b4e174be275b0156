-- A text waits; a file is selected.
use Rattle.std.proofs.Common.{ap, refl, sym, subst}
use Rattle.std.specs.Prelude.{not}
use Rattle.icn_defs.specs.InputOutput.{newline, put_on}
use Rattle.icn_heap.specs.Extents.{IsLive, value_in}
use Rattle.icn_heap.specs.Heaps.{extent_of}
use Rattle.icn_heap.specs.Keys.{file_of}
use Rattle.icn_args.specs.RowWords.{the_text}
use Rattle.icn_host.specs.declared.fault.Fault.TheVariants.{NoMemory}
use Rattle.icn_vars.specs.Worlds.{reach_of}
use Rattle.icn_streams.proofs.IdleCalls.{keeps_items_refl}
use Rattle.icn_iofn.specs.PutPieces.{HasEffect, file_after, outputs, piece_in, put_state, text_of_piece, waiting_text}
use Rattle.icn_iofn.proofs.PutSteps.{if_err_known, if_ok_of_error, selected_lives, stops_idle, text_piece, waits_more}
use Rattle.icn_iofn.proofs.putting.put_piece.Goals as goal

pub select-requires-clause-other : goal.select-requires-clause-other
select-requires-clause-other g c = subst (IsLive (extent_of c.args.w.now.heap)) c.in-Std.is c.requires.live

pub returns-in-Std-clause-live : goal.returns-in-Std-clause-live
returns-in-Std-clause-live g c =
    selected_lives (extent_of c.args.w.now.heap) (extent_of c.select.new.w.heap) c.select.ensures.kept.items.extent c.args.val c.in-Std.other c.select.result
    c.in-Std.is c.requires.live c.select.ensures.file

pub returns-in_err-push_text-in_default : goal.returns-in_err-push_text-in_default
returns-in_err-push_text-in_default g c = record {
  ok = if_ok_of_error c.from_residual.result _ _ c.from_residual.ensures.1;
  file = if_ok_of_error c.from_residual.result _ _ c.from_residual.ensures.1;
  live = if_ok_of_error c.from_residual.result _ _ c.from_residual.ensures.1;
  err =
      if_err_known c.from_residual.result _ NoMemory c.from_residual.ensures.1
      (stops_idle (file_of c.args.file) c.args.buffer.now.items
      (text_of_piece newline (not c.args.ends) (piece_in (value_in (extent_of c.args.w.now.heap) c.args.val)))
      (put_state c.args.w.now (g.L.Locals.items c.args.l.now) (outputs (g.O.Sink.state c.args.out.now) (g.E.Sink.state c.args.err.now))) NoMemory refl);
  kept = record { locals = c.requires.locals; items = keeps_items_refl (reach_of c.args.w.now (g.L.Locals.items c.args.l.now)) };
  one_settled = λ one. one;
}

pub returns-in_ok-push_text-in_default : goal.returns-in_ok-push_text-in_default
returns-in_ok-push_text-in_default g c = record {
  ok =
      subst
      (λ p. HasEffect (waiting_text (file_of c.args.file) c.args.buffer.now.items (put_state c.args.w.now (g.L.Locals.items c.args.l.now)
      (outputs (g.O.Sink.state c.args.out.now) (g.E.Sink.state c.args.err.now))))
      (waiting_text (file_of c.args.file) c.push_text.new.buffer.items (put_state c.args.w.now (g.L.Locals.items c.args.l.now)
      (outputs (g.O.Sink.state c.args.out.now) (g.E.Sink.state c.args.err.now))))
      (put_on (file_of c.args.file) (text_of_piece newline (not c.args.ends) p)))
      (sym (text_piece (extent_of c.args.w.now.heap) c.args.val c.in_default.not-Std))
      (waits_more (file_of c.args.file) (file_of c.args.file) c.args.buffer.now.items
      (the_text (value_in (extent_of c.args.w.now.heap) c.args.val)) c.push_text.new.buffer.items
      (put_state c.args.w.now (g.L.Locals.items c.args.l.now) (outputs (g.O.Sink.state c.args.out.now) (g.E.Sink.state c.args.err.now))) refl
      c.in_ok-push_text-in_default.ensures);
  file = sym (ap (file_after (file_of c.args.file)) (text_piece (extent_of c.args.w.now.heap) c.args.val c.in_default.not-Std));
  live = c.requires.file;
  err = tt;
  kept = record { locals = c.requires.locals; items = keeps_items_refl (reach_of c.args.w.now (g.L.Locals.items c.args.l.now)) };
  one_settled = λ one. one;
}
