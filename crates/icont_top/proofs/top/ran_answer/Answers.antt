use Rattle.std.proofs.Common.{◌∙◌, sym}
use Rattle.icont_top.proofs.SizesLine.{done_no_fault, over_undone, ran_alone, ran_undone, sizes_end, sizes_reports, sizes_over, sizes_run}
use Rattle.icont_top.proofs.top.ran_answer.Goals as goal

pub returns-in-None-clause-ran : goal.returns-in-None-clause-ran
returns-in-None-clause-ran g c left held told = rw c.in-None.is (ran_alone (c.run_answer-answer.ensures.ran left held told))

pub returns-then-is_done-clause-ran : goal.returns-then-is_done-clause-ran
returns-then-is_done-clause-ran g c left held told =
    rw c.in-Some.is (sizes_run c.in-Some.number c.run_answer-answer.result c.sizes_answer.result (sym c.is_done.ensures ∙ c.if-is_done.true)
    (c.run_answer-answer.ensures.ran left held told) c.run_answer-answer.ensures.causes c.sizes_answer.ensures.puts)

pub returns-then-is_done-clause-reported : goal.returns-then-is_done-clause-reported
returns-then-is_done-clause-reported g c =
    sizes_reports c.in-Some.number c.run_answer-answer.result c.sizes_answer.result (sym c.is_done.ensures ∙ c.if-is_done.true)
    c.run_answer-answer.ensures.causes c.run_answer-answer.ensures.reported
    c.sizes_answer.ensures.puts

pub returns-else-is_done-clause-ran : goal.returns-else-is_done-clause-ran
returns-else-is_done-clause-ran g c left held told =
    rw c.in-Some.is (ran_undone c.in-Some.number (sym c.is_done.ensures ∙ c.if-is_done.false) (c.run_answer-answer.ensures.ran left held told))

pub returns-in-None-clause-settled : goal.returns-in-None-clause-settled
returns-in-None-clause-settled g c = c.run_answer-answer.ensures.settled

pub returns-then-is_done-clause-settled : goal.returns-then-is_done-clause-settled
returns-then-is_done-clause-settled g c o e n = c.sizes_answer.ensures.settled
    (c.run_answer-answer.ensures.settled o e (done_no_fault c.run_answer-answer.result (sym c.is_done.ensures ∙ c.if-is_done.true))).1 n

pub returns-else-is_done-clause-settled : goal.returns-else-is_done-clause-settled
returns-else-is_done-clause-settled g c = c.run_answer-answer.ensures.settled

pub returns-then-is_done-clause-causes : goal.returns-then-is_done-clause-causes
returns-then-is_done-clause-causes g c = sizes_end c.in-Some.number c.run_answer-answer.result c.sizes_answer.result
    (sym c.is_done.ensures ∙ c.if-is_done.true) c.run_answer-answer.ensures.causes c.sizes_answer.ensures.puts

pub returns-in-None-clause-over : goal.returns-in-None-clause-over
returns-in-None-clause-over g c held = rw c.in-None.is (c.run_answer-answer.ensures.over held)

pub returns-then-is_done-clause-over : goal.returns-then-is_done-clause-over
returns-then-is_done-clause-over g c held =
    rw c.in-Some.is (sizes_over _ _ _ _ _ _ c.in-Some.number c.run_answer-answer.result c.sizes_answer.result (sym c.is_done.ensures ∙ c.if-is_done.true)
    (c.run_answer-answer.ensures.over held) c.sizes_answer.ensures.puts)

pub returns-else-is_done-clause-over : goal.returns-else-is_done-clause-over
returns-else-is_done-clause-over g c held =
    rw c.in-Some.is (over_undone _ _ _ _ c.in-Some.number c.run_answer-answer.result (sym c.is_done.ensures ∙ c.if-is_done.false)
    (c.run_answer-answer.ensures.over held))

pub returns-in-None-clause-taken : goal.returns-in-None-clause-taken
returns-in-None-clause-taken g c = c.run_answer-answer.ensures.taken

pub returns-then-is_done-clause-taken : goal.returns-then-is_done-clause-taken
returns-then-is_done-clause-taken g c = c.run_answer-answer.ensures.taken

pub returns-else-is_done-clause-taken : goal.returns-else-is_done-clause-taken
returns-else-is_done-clause-taken g c = c.run_answer-answer.ensures.taken
