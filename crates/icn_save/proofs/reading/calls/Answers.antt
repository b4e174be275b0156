-- Each is taken, or the first whose name is no text is the fault of all.
use Rattle.std.proofs.lemmas.Result.{err_from_is_err_and}
use Rattle.icn_save.specs.Reading.{has_text_name}
use Rattle.icn_save.specs.Saves.{call_of}
use Rattle.icn_save.specs.Slices.{call_in}
use Rattle.icn_save.proofs.Judging.{element_refused, one_more_taken}
use Rattle.icn_save.proofs.reading.calls.Goals as goal

pub returns-in_err-call : goal.returns-in_err-call
returns-in_err-call c =
    let p = err_from_is_err_and c.from_residual.result c.from_residual.ensures.1 in
    rw (p.1, p.2)
    (element_refused {A = Unit {0}} {D = Unit {0}} has_text_name call_in (λ u. Unit {0}) (λ u. Unit {0}) c.args.slices.now c.loop-slice.slice-index _
    c.in_err-call.field-0.0 c.loop-slice-test.true c.in_err-call.ensures)

pub loop-slice-preserved : goal.loop-slice-preserved
loop-slice-preserved c =
    one_more_taken has_text_name call_of call_in c.loop-slice.calls.items c.push.new.self.items c.in_ok-call.field-0 c.args.slices.now
    c.loop-slice.slice-index _ c.loop-slice-test.true c.loop-slice.invariant c.in_ok-call.ensures.0 c.in_ok-call.ensures.1 c.in_ok-push.ensures.items
