use Rattle.test_rows.proofs.operations.outcome.show_all.Goals as goal

pub loop-preserved : goal.loop-preserved
loop-preserved c = record {
  answer = c.resume_residual-answer.ensures.live;
  locals = c.resume_residual-answer.ensures.locals;
}
