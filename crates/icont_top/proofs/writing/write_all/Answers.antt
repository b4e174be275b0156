use Rattle.std.proofs.Common.{◌∙◌}
use Rattle.icn_host.proofs.SinkSteps.{on_err_always}
use Rattle.icont_top.proofs.WrittenTexts.{text_more, text_part}
use Rattle.icont_top.proofs.writing.write_all.Goals as goal

pub returns-in_err-write-clause-part : goal.returns-in_err-write-clause-part
returns-in_err-write-clause-part g c =
    on_err_always
    _ (text_part c.in-Some.text.now c.in-Some.others.now c.loop-text.rest.now c.deref.result.now c.deref-in-Some.result.now c.loop-text.invariant.some
    c.in-Some.ensures.cases.0 c.deref.ensures c.deref-in-Some.ensures.value c.in_err-write.ensures.err)

pub loop-text-preserved : goal.loop-text-preserved
loop-text-preserved g c = record {
  some = text_more c.in-Some.text.now c.in-Some.others.now c.loop-text.rest.now c.deref.result.now c.deref-in-Some.result.now c.loop-text.invariant.some
      c.in-Some.ensures.cases.0 c.deref.ensures c.deref-in-Some.ensures.value c.in_ok-write.ensures.ok;
  faults = c.in_ok-write.ensures.cause.stayed (λ e. cc) ∙ c.loop-text.invariant.faults;
  wants = c.in_ok-write.ensures.want.stayed (λ e. cc) ∙ c.loop-text.invariant.wants;
  absences = c.in_ok-write.ensures.absences ∙ c.loop-text.invariant.absences;
}
