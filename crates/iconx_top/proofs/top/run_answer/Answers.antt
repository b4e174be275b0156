use Rattle.std.proofs.Common.{[], None, refl}
use Rattle.icn_host.specs.FileMaps.{store_counts, store_state}
use Rattle.icn_host.specs.Sources.{source_counts}
use Rattle.icn_value.specs.Store.{no_files, outside_of}
use Rattle.icn_code.specs.CodeTables.{tables_of}
use Rattle.icn_machine.specs.Starting.{launch_with}
use Rattle.icn_run_answer.proofs.CountCauses.{broken_counts, ran_counts}
use Rattle.icn_run_answer.proofs.Reports.{fault_reports, is_run_fault, ran_reports, some_put}
use Rattle.icn_answer.proofs.ToldContent.{if_some_intro}
use Rattle.iconx_top.proofs.CallOutcomes.{broke_outcome, ran_outcome, run_asked, tells_all}
use Rattle.iconx_top.proofs.AskedRuns.{run_asks, runs_broken}
use Rattle.iconx_top.proofs.top.run_answer.Goals as goal

pub returns-in-Ok-clause-outcome : goal.returns-in-Ok-clause-outcome
returns-in-Ok-clause-outcome g c words held asks loaded e =
    if_some_intro (g.I.Source.left c.args.input.now) _ (λ left d.
    let launch = launch_with c.args.asked.arguments.now c.args.asked.limits (outside_of left held) in
    ran_outcome (tables_of c.args.code.now.code) launch c.in-Ok.ending (run_asked left launch c.args.asked.image.now c.args.code.now asks refl loaded)
    (c.in-Ok.ensures.ends left held (record { left = d; files = tells_all e })))

pub returns-in-Err-clause-outcome : goal.returns-in-Err-clause-outcome
returns-in-Err-clause-outcome g c words held asks loaded e =
    if_some_intro (g.I.Source.left c.args.input.now) _ (λ left d.
    let launch = launch_with c.args.asked.arguments.now c.args.asked.limits (outside_of left held) in
    rw c.broken_answer.ensures.answer (broke_outcome (tables_of c.args.code.now.code) launch c.in-Err.fault
    (run_asked left launch c.args.asked.image.now c.args.code.now asks refl loaded)
    c.in-Err.ensures.first_fault (c.in-Err.ensures.breaks left held (record { left = d; files = tells_all e })) (c.broken_answer.ensures.behind _ _ _)))

pub returns-in-Ok-clause-reported : goal.returns-in-Ok-clause-reported
returns-in-Ok-clause-reported g c name =
    ran_reports c.in-Ok.ending (
      tables_of c.args.code.now.code,
      (
        launch_with c.args.asked.arguments.now c.args.asked.limits (outside_of [] no_files),
        (c.in-Ok.ensures.reported no_files).report,
      ),
    )

pub returns-in-Err-clause-reported : goal.returns-in-Err-clause-reported
returns-in-Err-clause-reported g c name =
    rw c.broken_answer.ensures.answer (fault_reports _ _ _ c.in-Err.fault c.in-Err.ensures.first_fault (some_put (c.in-Err.ensures.reported no_files))
    (c.broken_answer.ensures.behind (store_state None (store_counts 0 0 0)) None (source_counts 0 0 0)).own_line)

pub returns-in-Ok-clause-causes : goal.returns-in-Ok-clause-causes
returns-in-Ok-clause-causes g c = ran_counts c.in-Ok.ending c.in-Ok.ensures.first_fault

pub returns-in-Err-clause-causes : goal.returns-in-Err-clause-causes
returns-in-Err-clause-causes g c =
    rw c.broken_answer.ensures.answer (broken_counts c.in-Err.fault c.in-Err.ensures.first_fault (c.broken_answer.ensures.behind _ _ _))

pub returns-in-Ok-clause-input : goal.returns-in-Ok-clause-input
returns-in-Ok-clause-input g c = c.in-Ok.ensures.taken

pub returns-in-Err-clause-input : goal.returns-in-Err-clause-input
returns-in-Err-clause-input g c = c.in-Err.ensures.taken

pub returns-in-Ok-clause-settled : goal.returns-in-Ok-clause-settled
returns-in-Ok-clause-settled g c o e n = c.in-Ok.ensures.settled o e

pub returns-in-Err-clause-settled : goal.returns-in-Err-clause-settled
returns-in-Err-clause-settled g c o e n = absurd (n (rw c.broken_answer.ensures.answer (is_run_fault c.in-Err.fault)))

-- the run that words and files ask for

pub returns-in-Ok-clause-ran : goal.returns-in-Ok-clause-ran
returns-in-Ok-clause-ran g c words held asks loaded =
    run_asks (launch_with c.args.asked.arguments.now c.args.asked.limits (outside_of [] held)) c.args.asked.image.now c.args.code.now c.in-Ok.ending asks refl
    loaded (c.in-Ok.ensures.reported held)

pub returns-in-Err-clause-ran : goal.returns-in-Err-clause-ran
returns-in-Err-clause-ran g c words held asks loaded = rw c.broken_answer.ensures.answer (runs_broken words held _ _ c.in-Err.fault)
