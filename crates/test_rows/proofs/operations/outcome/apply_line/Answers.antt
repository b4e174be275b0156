use Rattle.test_rows.proofs.operations.outcome.apply_line.Goals as goal

pub show_all-requires-clause-answer : goal.show_all-requires-clause-answer
show_all-requires-clause-answer c = c.apply_operation-answer.ensures.live

pub show_all-requires-clause-locals : goal.show_all-requires-clause-locals
show_all-requires-clause-locals c = c.apply_operation-answer.ensures.locals
