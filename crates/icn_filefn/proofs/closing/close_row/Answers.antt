-- The argument is a file, which is closed if the program opened it.
use Rattle.std.proofs.Common.{◌∙◌, sym, ap, map, subst, Ok}
use Rattle.icn_value.specs.Values.{Std, Value}
use Rattle.icn_value.specs.declared.val.File.{File as HeldFile}
use Rattle.icn_value.specs.declared.item.Item.TheVariants.{Val as HeldVal}
use Rattle.icn_value.specs.declared.val.Val.TheVariants.{Std as HeldStd}
use Rattle.icn_defs.specs.Arguments.{file}
use Rattle.icn_defs.specs.Files.{close_row}
use Rattle.icn_defs.specs.OpenFiles.{closed_in}
use Rattle.icn_defs.specs.Rows.{changes, gives_value}
use Rattle.icn_heap.specs.Extents.{IsLive, value_in}
use Rattle.icn_heap.specs.Heaps.{extent_of}
use Rattle.icn_heap.specs.Keys.{file_of}
use Rattle.icn_vars.specs.Outcomes.{answer_of}
use Rattle.icn_vars.specs.Stops.{halt_of}
use Rattle.icn_args.proofs.RowAnswers.{same_halt}
use Rattle.icn_vars.specs.Worlds.{setting_of}
use Rattle.icn_vars.specs.declared.outcome.Outcome.TheVariants.{Gives as HeldGives}
use Rattle.icn_streams.specs.Answers.{call_state}
use Rattle.icn_streams.specs.Handed.{call_streams}
use Rattle.icn_streams.proofs.IdleCalls.{keeps_items_refl}
use Rattle.icn_streams.proofs.QuietRows.{faultless_applies}
use Rattle.icn_streams.proofs.RowAnswers.{applies_same, stops_there}
use Rattle.icn_filefn.specs.OpenParts.{closes_then}
use Rattle.icn_filefn.proofs.CloseSteps.{closes_standard}
use Rattle.icn_filefn.proofs.closing.close_row.Goals as goal

pub returns-in_err-file : goal.returns-in_err-file
returns-in_err-file g c = λ left counts.
    applies_same (close_row (map (value_in (extent_of c.args.w.now.heap)) c.args.vals.now)) (file (value_in (extent_of c.args.w.now.heap) c.arg.result)
    (λ closed. changes (closed_in closed) (gives_value (Std closed))))
    (call_state c.args.w.now (g.L.Locals.items c.args.l.now) (call_streams (g.F.Files.state c.args.files.now) left counts (g.O.Sink.state c.args.out.now)
    (g.E.Sink.state c.args.err.now)))
    (call_state c.args.w.now (g.L.Locals.items c.args.l.now) (call_streams (g.F.Files.state c.args.files.now) left counts (g.O.Sink.state c.args.out.now)
    (g.E.Sink.state c.args.err.now))) (answer_of c.from_residual.result)
    (λ was. ap (λ (value : Value). file value (λ closed. changes (closed_in closed) (gives_value (Std closed))) (setting_of was c.args.w.now
    (g.L.Locals.items c.args.l.now))) (sym (c.arg.ensures.value (extent_of c.args.w.now.heap))))
    (stops_there (file (value_in (extent_of c.args.w.now.heap) c.arg.result)) (λ closed. changes (closed_in closed) (gives_value (Std closed)))
    (call_state c.args.w.now (g.L.Locals.items c.args.l.now) (call_streams (g.F.Files.state c.args.files.now) left counts (g.O.Sink.state c.args.out.now)
    (g.E.Sink.state c.args.err.now)))
    c.in_err-file.field-0.0 (answer_of c.from_residual.result) (same_halt (halt_of c.in_err-file.field-0.0) c.from_residual.result c.from_residual.ensures.1)
    (λ was. c.in_err-file.ensures.found (extent_of c.args.w.now.heap) (setting_of was c.args.w.now (g.L.Locals.items c.args.l.now)))
    (c.in_err-file.ensures.stops (extent_of c.args.w.now.heap) (c.arg.ensures.live (extent_of c.args.w.now.heap) c.requires.live)) c.requires.locals)

pub returns-in-Opened : goal.returns-in-Opened
returns-in-Opened g c = λ left counts.
    applies_same (close_row (map (value_in (extent_of c.args.w.now.heap)) c.args.vals.now)) (closes_then (file_of c.in_ok-file.file))
    (call_state c.args.w.now (g.L.Locals.items c.args.l.now) (call_streams (g.F.Files.state c.args.files.now) left counts (g.O.Sink.state c.args.out.now)
    (g.E.Sink.state c.args.err.now)))
    (call_state c.close_opened.new.w (g.L.Locals.items c.args.l.now)
    (call_streams (g.F.Files.state c.close_opened.new.files) left counts (g.O.Sink.state c.close_opened.new.out) (g.E.Sink.state c.close_opened.new.err)))
    (answer_of c.close_opened.result)
    (λ was. ap (λ (value : Value). file value (λ closed. changes (closed_in closed) (gives_value (Std closed))) (setting_of was c.args.w.now
    (g.L.Locals.items c.args.l.now))) (sym (c.arg.ensures.value (extent_of c.args.w.now.heap)))
    ∙ c.in_ok-file.ensures.found (extent_of c.args.w.now.heap) (setting_of was c.args.w.now (g.L.Locals.items c.args.l.now))
    (λ closed. changes (closed_in closed) (gives_value (Std closed))))
    (rw c.in-Opened.is (c.close_opened.ensures.applies left counts))

pub returns-in_default : goal.returns-in_default
returns-in_default g c = λ left counts.
    applies_same (close_row (map (value_in (extent_of c.args.w.now.heap)) c.args.vals.now)) (closes_then (file_of c.in_ok-file.file))
    (call_state c.args.w.now (g.L.Locals.items c.args.l.now) (call_streams (g.F.Files.state c.args.files.now) left counts (g.O.Sink.state c.args.out.now)
    (g.E.Sink.state c.args.err.now)))
    (call_state c.args.w.now (g.L.Locals.items c.args.l.now) (call_streams (g.F.Files.state c.args.files.now) left counts (g.O.Sink.state c.args.out.now)
    (g.E.Sink.state c.args.err.now))) (Ok (HeldGives (HeldVal (HeldStd c.in_ok-file.file))))
    (λ was. ap (λ (value : Value). file value (λ closed. changes (closed_in closed) (gives_value (Std closed))) (setting_of was c.args.w.now
    (g.L.Locals.items c.args.l.now))) (sym (c.arg.ensures.value (extent_of c.args.w.now.heap)))
    ∙ c.in_ok-file.ensures.found (extent_of c.args.w.now.heap) (setting_of was c.args.w.now (g.L.Locals.items c.args.l.now))
    (λ closed. changes (closed_in closed) (gives_value (Std closed))))
    (faultless_applies (closes_then (file_of c.in_ok-file.file)) c.args.w.now c.args.w.now (g.L.Locals.items c.args.l.now) (g.L.Locals.items c.args.l.now)
    (call_streams (g.F.Files.state c.args.files.now) left counts (g.O.Sink.state c.args.out.now) (g.E.Sink.state c.args.err.now))
    (Ok (HeldGives (HeldVal (HeldStd c.in_ok-file.file))))
    (λ outside. closes_standard c.in_ok-file.file (setting_of outside c.args.w.now (g.L.Locals.items c.args.l.now)) c.in_default.not-Opened)
    (record {
      live = record {
        live = c.in_ok-file.ensures.live (extent_of c.args.w.now.heap) (c.arg.ensures.live (extent_of c.args.w.now.heap) c.requires.live);
      };
    })
    c.requires.locals (keeps_items_refl _))

pub close_opened-requires-clause-file : goal.close_opened-requires-clause-file
close_opened-requires-clause-file g c =
    subst (λ (file : HeldFile). IsLive (extent_of c.args.w.now.heap) (HeldStd file)) c.in-Opened.is
    (c.in_ok-file.ensures.live (extent_of c.args.w.now.heap) (c.arg.ensures.live (extent_of c.args.w.now.heap) c.requires.live))
