use Rattle.std.proofs.Common.{[], Ok, Err, refl}
use Rattle.icn_value.specs.declared.val.Val.TheVariants.{Text as TextVal}
use Rattle.icn_defs.specs.StepRows.{text_row}
use Rattle.icn_heap.specs.Extents.{value_in}
use Rattle.icn_heap.specs.Heaps.{extent_of}
use Rattle.icn_vars.proofs.KeptItems.{keeps_items_refl}
use Rattle.icn_vars.specs.Stops.{IsLiveStop}
use Rattle.icn_vars.specs.Worlds.{reach_of}
use Rattle.icn_frames.specs.Stacks as held
use Rattle.icn_control.specs.TakenOperands.{KeepsCounts, MakesValue}
use Rattle.icn_control.proofs.Halts.{unless_found}
use Rattle.icn_control.proofs.OperandValues.{live_locals}
use Rattle.icn_control.proofs.OpenedScans.{match_stop, stop_live, text_counted, text_result, text_unfit}
use Rattle.icn_control.proofs.TakenOperandSteps.{keeps_without_locals}
use Rattle.icn_control.proofs.opening.subject_of.Goals as goal

pub returns-in_err-check_text-clause-kept : goal.returns-in_err-check_text-clause-kept
returns-in_err-check_text-clause-kept g c = keeps_items_refl (reach_of c.args.world.now [])

pub returns-in_err-check_text-clause-made : goal.returns-in_err-check_text-clause-made
returns-in_err-check_text-clause-made g c =
    let w = c.args.world.now in
    let m = c.args.frames.now.flat in
    let row = text_row (value_in (extent_of w.heap) c.args.v) in
    match_stop c.from_residual.result c.in_err-check_text.field-0.0 (λ span. MakesValue row w m w (Ok (TextVal span)))
    (λ stop. MakesValue row w m w (Err stop)) c.from_residual.ensures.1
    (text_unfit c.requires.stack.0 w m c.args.v c.in_err-check_text.field-0.0 c.requires.stack.1 c.local_count.ensures.same
    (c.in_err-check_text.ensures.found (extent_of w.heap)))

pub returns-in_err-check_text-clause-counts : goal.returns-in_err-check_text-clause-counts
returns-in_err-check_text-clause-counts g c = unless_found c.from_residual.result (KeepsCounts c.args.world.now c.args.world.now)
    (record { bounds = refl; coexps = refl })

pub text_of-requires-clause-locals : goal.text_of-requires-clause-locals
text_of-requires-clause-locals g c = live_locals c.requires.stack.0 _ c.args.frames.now.flat c.requires.stack.1

pub returns-clause-kept : goal.returns-clause-kept
returns-clause-kept g c = keeps_without_locals c.args.world.now c.text_of.new.w (held.locals c.args.frames.now.flat) c.text_of.ensures.kept.items

pub returns-clause-counts : goal.returns-clause-counts
returns-clause-counts g c = text_counted c.args.world.now c.text_of.new.w (held.locals c.args.frames.now.flat) c.args.v c.text_of.result
    (c.in_ok-check_text.ensures.found (extent_of c.args.world.now.heap)) c.text_of.ensures.step

pub returns-clause-made : goal.returns-clause-made
returns-clause-made g c =
    text_result c.requires.stack.0 c.args.world.now c.text_of.new.w c.args.frames.now.flat c.args.v c.text_of.result c.text_of.ensures.kept.items
    c.requires.stack.1
    c.local_count.ensures.same (c.in_ok-check_text.ensures.found (extent_of c.args.world.now.heap)) c.text_of.ensures.step
    c.text_of.ensures.text

pub returns-in_err-check_text-clause-stops : goal.returns-in_err-check_text-clause-stops
returns-in_err-check_text-clause-stops g c =
    stop_live c.from_residual.result c.in_err-check_text.field-0.0 (IsLiveStop (extent_of c.args.world.now.heap)) c.from_residual.ensures.1
    (c.in_err-check_text.ensures.stops (extent_of c.args.world.now.heap) c.requires.value)
