use Rattle.std.proofs.Common.{None, ap}
use Rattle.icn_host.specs.FileMaps.{store_counts, store_state}
use Rattle.icn_host.specs.Sources.{source_counts}
use Rattle.icn_value.specs.Store.{no_files}
use Rattle.icn_value.specs.Limited.{Bounds, limits_of}
use Rattle.icn_code.specs.CodeTables.{tables_of}
use Rattle.icn_running.specs.Reported.{ending_seen}
use Rattle.icn_run_answer.proofs.CountCauses.{broken_counts, ran_counts}
use Rattle.icn_run_answer.proofs.Reports.{fault_reports, is_run_fault, ran_reports, some_put}
use Rattle.icont_words.specs.Asking.{run_seen}
use Rattle.icont_top.proofs.RunsUnder.{never_over, run_broken, run_ended, run_over, run_reported}
use Rattle.icont_top.proofs.top.run_answer.Goals as goal

pub returns-in-Ok-clause-ran : goal.returns-in-Ok-clause-ran
returns-in-Ok-clause-ran g c left held told =
    run_ended (tables_of c.args.code.now.code) (run_seen c.args.asked) left held _ c.in-Ok.ending
    (ap (λ (bounds : Bounds). record bounds { turns = c.args.asked.turns }) c.standard-standard.ensures) (c.in-Ok.ensures.ends left held told)

pub returns-in-Err-clause-ran : goal.returns-in-Err-clause-ran
returns-in-Err-clause-ran g c left held told =
    rw c.broken_answer.ensures.answer (run_broken (tables_of c.args.code.now.code) (run_seen c.args.asked) left held _ c.in-Err.fault
    (ap (λ (bounds : Bounds). record bounds { turns = c.args.asked.turns }) c.standard-standard.ensures) c.in-Err.ensures.first_fault
    (c.in-Err.ensures.breaks left held told) (c.broken_answer.ensures.behind _ _ _))

pub returns-in-Ok-clause-reported : goal.returns-in-Ok-clause-reported
returns-in-Ok-clause-reported g c =
    ran_reports c.in-Ok.ending (run_reported (tables_of c.args.code.now.code) (run_seen c.args.asked) no_files
    (record (limits_of c.standard-standard.result) { turns = c.args.asked.turns }) c.in-Ok.ending (c.in-Ok.ensures.reported no_files).report)

pub returns-in-Err-clause-reported : goal.returns-in-Err-clause-reported
returns-in-Err-clause-reported g c =
    rw c.broken_answer.ensures.answer (fault_reports _ _ _ c.in-Err.fault c.in-Err.ensures.first_fault (some_put (c.in-Err.ensures.reported no_files))
    (c.broken_answer.ensures.behind (store_state None (store_counts 0 0 0)) None (source_counts 0 0 0)).own_line)

pub returns-in-Ok-clause-causes : goal.returns-in-Ok-clause-causes
returns-in-Ok-clause-causes g c = ran_counts c.in-Ok.ending c.in-Ok.ensures.first_fault

pub returns-in-Err-clause-causes : goal.returns-in-Err-clause-causes
returns-in-Err-clause-causes g c =
    rw c.broken_answer.ensures.answer (broken_counts c.in-Err.fault c.in-Err.ensures.first_fault (c.broken_answer.ensures.behind _ _ _))

pub returns-in-Ok-clause-settled : goal.returns-in-Ok-clause-settled
returns-in-Ok-clause-settled g c o e n = c.in-Ok.ensures.settled o e

pub returns-in-Err-clause-settled : goal.returns-in-Err-clause-settled
returns-in-Err-clause-settled g c o e n = absurd (n (rw c.broken_answer.ensures.answer (is_run_fault c.in-Err.fault)))

pub returns-in-Ok-clause-over : goal.returns-in-Ok-clause-over
returns-in-Ok-clause-over g c held =
    run_over (tables_of c.args.code.now.code) (run_seen c.args.asked) held _ (ending_seen c.in-Ok.ending)
    (ap (λ (bounds : Bounds). record bounds { turns = c.args.asked.turns }) c.standard-standard.ensures) (c.in-Ok.ensures.reported held)

pub returns-in-Err-clause-over : goal.returns-in-Err-clause-over
returns-in-Err-clause-over g c held = rw c.broken_answer.ensures.answer (never_over _ _ _ _ _ c.in-Err.fault)

pub returns-in-Ok-clause-taken : goal.returns-in-Ok-clause-taken
returns-in-Ok-clause-taken g c = c.in-Ok.ensures.taken

pub returns-in-Err-clause-taken : goal.returns-in-Err-clause-taken
returns-in-Err-clause-taken g c = c.in-Err.ensures.taken
