use Rattle.std.proofs.Common.{inl, [], map, refl, subst, sym, inr}
use Rattle.std.specs.Prelude.{string_bytes}
use Rattle.icn_answer.specs.declared.answer.Answer.TheVariants.{Command}
use Rattle.icn_answer.proofs.ToldContent.{if_some_elim, if_some_intro}
use Rattle.icn_run_answer.proofs.CountCauses.{faultless_of}
use Rattle.icn_run_answer.proofs.Reports.{line_of_reports, reports_of}
use Rattle.iconx_top.specs.Job.{wrong_words}
use Rattle.iconx_top.specs.Answered.{wrong_words as by_words}
use Rattle.iconx_top.specs.Commanded.{IsCommanded}
use Rattle.iconx_top.specs.Outcomes.{left_alone}
use Rattle.iconx_top.specs.Words.{words_reading}
use Rattle.iconx_top.proofs.AskedAnswers.{answer_put}
use Rattle.iconx_top.proofs.CallOutcomes.{command_ends, command_no_read, command_no_write, command_unrun, command_unwritten, refused}
use Rattle.iconx_top.proofs.Migrations.{asks_to_write, migration_read, migration_writes, refused_unwritten, run_read, run_writes_none, told_input, written_of}
use Rattle.iconx_top.proofs.ReportLines.{asked_reports}
use Rattle.iconx_top.proofs.Absences.{refused_absences}
use Rattle.iconx_top.proofs.AskedRuns.{migration_unrun, refusal_unrun, runs_refused, runs_unless}
use Rattle.iconx_top.proofs.top.iconx_main.Goals as goal

-- A run

pub returns-in-Ok-Run-clause-outcome : goal.returns-in-Ok-Run-clause-outcome
returns-in-Ok-Run-clause-outcome g c =
    c.image_answer.ensures.outcome (map string_bytes c.args.words.now)
    (run_read c.in-Ok-Run.field-0 c.in-Ok-Run.asked _ c.in-Ok-Run.ensures c.in-Ok-Run.field-0-is)

pub returns-in-Ok-Run-clause-answered : goal.returns-in-Ok-Run-clause-answered
returns-in-Ok-Run-clause-answered g c =
    c.image_answer.ensures.answered (map string_bytes c.args.words.now)
    (run_read c.in-Ok-Run.field-0 c.in-Ok-Run.asked _ c.in-Ok-Run.ensures c.in-Ok-Run.field-0-is)

pub returns-in-Ok-Run-clause-line : goal.returns-in-Ok-Run-clause-line
returns-in-Ok-Run-clause-line g c =
    line_of_reports (asked_reports _ _ (sym (run_read c.in-Ok-Run.field-0 c.in-Ok-Run.asked _ c.in-Ok-Run.ensures c.in-Ok-Run.field-0-is))
    c.image_answer.ensures.reported)

pub returns-in-Ok-Run-clause-fault_line : goal.returns-in-Ok-Run-clause-fault_line
returns-in-Ok-Run-clause-fault_line g c =
    asked_reports _ _ (sym (run_read c.in-Ok-Run.field-0 c.in-Ok-Run.asked _ c.in-Ok-Run.ensures c.in-Ok-Run.field-0-is))
    c.image_answer.ensures.reported

pub returns-in-Ok-Run-clause-command : goal.returns-in-Ok-Run-clause-command
returns-in-Ok-Run-clause-command g c =
    subst (λ read. IsCommanded read c.image_answer.result)
    (sym (run_read c.in-Ok-Run.field-0 c.in-Ok-Run.asked _ c.in-Ok-Run.ensures c.in-Ok-Run.field-0-is)) c.image_answer.ensures.command

pub returns-in-Ok-Run-clause-faultless : goal.returns-in-Ok-Run-clause-faultless
returns-in-Ok-Run-clause-faultless g c = faultless_of c.image_answer.result c.image_answer.ensures.leaves.causes

pub returns-in-Ok-Run-clause-causes : goal.returns-in-Ok-Run-clause-causes
returns-in-Ok-Run-clause-causes g c = c.image_answer.ensures.leaves.causes

pub returns-in-Ok-Run-clause-input : goal.returns-in-Ok-Run-clause-input
returns-in-Ok-Run-clause-input g c = c.image_answer.ensures.leaves.input

pub returns-in-Ok-Run-clause-refused : goal.returns-in-Ok-Run-clause-refused
returns-in-Ok-Run-clause-refused g c = c.image_answer.ensures.leaves.refused

pub returns-in-Ok-Run-clause-unread : goal.returns-in-Ok-Run-clause-unread
returns-in-Ok-Run-clause-unread g c = c.image_answer.ensures.leaves.unread

pub returns-in-Ok-Run-clause-uncalled : goal.returns-in-Ok-Run-clause-uncalled
returns-in-Ok-Run-clause-uncalled g c = c.image_answer.ensures.leaves.uncalled

pub returns-in-Ok-Run-clause-leaves : goal.returns-in-Ok-Run-clause-leaves
returns-in-Ok-Run-clause-leaves g c =
    c.image_answer.ensures.written (map string_bytes c.args.words.now)
    (run_read c.in-Ok-Run.field-0 c.in-Ok-Run.asked _ c.in-Ok-Run.ensures c.in-Ok-Run.field-0-is)

pub returns-in-Ok-Run-clause-files : goal.returns-in-Ok-Run-clause-files
returns-in-Ok-Run-clause-files g c none unrun = c.image_answer.ensures.files unrun

pub returns-in-Ok-Run-clause-unwritten : goal.returns-in-Ok-Run-clause-unwritten
returns-in-Ok-Run-clause-unwritten g c is = c.image_answer.ensures.files (refusal_unrun c.image_answer.result is)

pub returns-in-Ok-Run-clause-absences : goal.returns-in-Ok-Run-clause-absences
returns-in-Ok-Run-clause-absences g c unrun = c.image_answer.ensures.absences unrun

pub returns-in-Ok-Run-clause-written : goal.returns-in-Ok-Run-clause-written
returns-in-Ok-Run-clause-written g c =
    let asks = run_read c.in-Ok-Run.field-0 c.in-Ok-Run.asked _ c.in-Ok-Run.ensures c.in-Ok-Run.field-0-is in
    if_some_intro (g.F.Files.state c.args.files.now).held _ (λ held e wrote. absurd (run_writes_none (words_reading (map string_bytes c.args.words.now))
    c.in-Ok-Run.asked asks
    (asks_to_write c.image_answer.result
    (if_some_elim _ (g.F.Files.state c.args.files.now).held held e (c.image_answer.ensures.answered (map string_bytes c.args.words.now) asks)) wrote)))

-- A migration

pub returns-in-Ok-Migration-clause-outcome : goal.returns-in-Ok-Migration-clause-outcome
returns-in-Ok-Migration-clause-outcome g c =
    if_some_intro (g.F.Files.state c.args.files.now).held _ (λ held e. if_some_intro (g.I.Source.left c.args.input.now) _ (λ left d.
    told_input (g.I.Source.left c.args.input.now) d (if_some_elim _ (g.F.Files.state c.args.files.now).held held e
    (c.migration_answer.ensures.outcome (map string_bytes c.args.words.now) left (g.I.Source.counts c.args.input.now) (g.O.Sink.state c.args.out.now)
    (migration_read c.in-Ok-Migration.field-0 c.in-Ok-Migration.asked _ c.in-Ok-Migration.ensures c.in-Ok-Migration.field-0-is)))))

pub returns-in-Ok-Migration-clause-answered : goal.returns-in-Ok-Migration-clause-answered
returns-in-Ok-Migration-clause-answered g c =
    c.migration_answer.ensures.answered (map string_bytes c.args.words.now)
    (migration_read c.in-Ok-Migration.field-0 c.in-Ok-Migration.asked _ c.in-Ok-Migration.ensures c.in-Ok-Migration.field-0-is)

pub returns-in-Ok-Migration-clause-line : goal.returns-in-Ok-Migration-clause-line
returns-in-Ok-Migration-clause-line g c =
    line_of_reports (asked_reports _ _
    (sym (migration_read c.in-Ok-Migration.field-0 c.in-Ok-Migration.asked _ c.in-Ok-Migration.ensures c.in-Ok-Migration.field-0-is))
    c.migration_answer.ensures.reported)

pub returns-in-Ok-Migration-clause-fault_line : goal.returns-in-Ok-Migration-clause-fault_line
returns-in-Ok-Migration-clause-fault_line g c =
    asked_reports _ _ (sym (migration_read c.in-Ok-Migration.field-0 c.in-Ok-Migration.asked _ c.in-Ok-Migration.ensures c.in-Ok-Migration.field-0-is))
    c.migration_answer.ensures.reported

pub returns-in-Ok-Migration-clause-command : goal.returns-in-Ok-Migration-clause-command
returns-in-Ok-Migration-clause-command g c =
    subst (λ read. IsCommanded read c.migration_answer.result)
    (sym (migration_read c.in-Ok-Migration.field-0 c.in-Ok-Migration.asked _ c.in-Ok-Migration.ensures c.in-Ok-Migration.field-0-is))
    c.migration_answer.ensures.command

pub returns-in-Ok-Migration-clause-faultless : goal.returns-in-Ok-Migration-clause-faultless
returns-in-Ok-Migration-clause-faultless g c =
    faultless_of c.migration_answer.result (c.migration_answer.ensures.causes (g.I.Source.left c.args.input.now) (g.I.Source.counts c.args.input.now)
    (g.O.Sink.state c.args.out.now))

pub returns-in-Ok-Migration-clause-causes : goal.returns-in-Ok-Migration-clause-causes
returns-in-Ok-Migration-clause-causes g c =
    c.migration_answer.ensures.causes (g.I.Source.left c.args.input.now) (g.I.Source.counts c.args.input.now) (g.O.Sink.state c.args.out.now)

pub returns-in-Ok-Migration-clause-input : goal.returns-in-Ok-Migration-clause-input
returns-in-Ok-Migration-clause-input g c = if_some_intro (g.I.Source.left c.args.input.now) _ (λ left d. (0, d))

pub returns-in-Ok-Migration-clause-files : goal.returns-in-Ok-Migration-clause-files
returns-in-Ok-Migration-clause-files g c none unrun =
    absurd (none (migration_writes (words_reading (map string_bytes c.args.words.now)) c.in-Ok-Migration.asked
    (migration_read c.in-Ok-Migration.field-0 c.in-Ok-Migration.asked _ c.in-Ok-Migration.ensures c.in-Ok-Migration.field-0-is)))

pub returns-in-Ok-Migration-clause-leaves : goal.returns-in-Ok-Migration-clause-leaves
returns-in-Ok-Migration-clause-leaves g c =
    c.migration_answer.ensures.leaves (map string_bytes c.args.words.now)
    (migration_read c.in-Ok-Migration.field-0 c.in-Ok-Migration.asked _ c.in-Ok-Migration.ensures c.in-Ok-Migration.field-0-is)

pub returns-in-Ok-Migration-clause-written : goal.returns-in-Ok-Migration-clause-written
returns-in-Ok-Migration-clause-written g c =
    if_some_intro (g.F.Files.state c.args.files.now).held _ (λ held e. written_of
    (if_some_elim _ (g.F.Files.state c.args.files.now).held held e (c.migration_answer.ensures.leaves (map string_bytes c.args.words.now)
    (migration_read c.in-Ok-Migration.field-0 c.in-Ok-Migration.asked _ c.in-Ok-Migration.ensures c.in-Ok-Migration.field-0-is))))

-- Faulty words

pub returns-in-Err-clause-outcome : goal.returns-in-Err-clause-outcome
returns-in-Err-clause-outcome g c =
    if_some_intro (g.F.Files.state c.args.files.now).held _ (λ held e. if_some_intro (g.I.Source.left c.args.input.now) _ (λ left d.
    refused [] (Command c.in-Err.kind) c.refuse.result _ _ _ _ _ _ _ (inr (wrong_words c.in-Err.kind (sym c.in-Err.ensures)))
    (command_no_write c.in-Err.kind) (command_no_read c.in-Err.kind) refl e d c.refuse.ensures.line))

pub returns-in-Err-clause-line : goal.returns-in-Err-clause-line
returns-in-Err-clause-line g c = line_of_reports (asked_reports _ _ c.in-Err.ensures (reports_of (command_unrun c.in-Err.kind) c.refuse.ensures.line))

pub returns-in-Err-clause-fault_line : goal.returns-in-Err-clause-fault_line
returns-in-Err-clause-fault_line g c = asked_reports _ _ c.in-Err.ensures (reports_of (command_unrun c.in-Err.kind) c.refuse.ensures.line)

pub returns-in-Err-clause-answered : goal.returns-in-Err-clause-answered
returns-in-Err-clause-answered g c =
    if_some_intro (g.F.Files.state c.args.files.now).held
    _ (λ held e. answer_put (Command c.in-Err.kind) c.refuse.result (by_words c.in-Err.kind (sym c.in-Err.ensures)) c.refuse.ensures.line)

pub returns-in-Err-clause-causes : goal.returns-in-Err-clause-causes
returns-in-Err-clause-causes g c = command_ends c.in-Err.kind c.refuse.result c.refuse.ensures.line

pub returns-in-Err-clause-faultless : goal.returns-in-Err-clause-faultless
returns-in-Err-clause-faultless g c = faultless_of c.refuse.result (command_ends {held = g.F.Files.state c.args.files.now}
    {input = g.I.Source.counts c.args.input.now}
    {left = g.I.Source.left c.args.input.now}
    {out = g.O.Sink.state c.args.out.now} c.in-Err.kind c.refuse.result c.refuse.ensures.line)

pub returns-in-Err-clause-input : goal.returns-in-Err-clause-input
returns-in-Err-clause-input g c = if_some_intro (g.I.Source.left c.args.input.now) _ (λ left d. (0, d))

pub returns-in-Err-clause-written : goal.returns-in-Err-clause-written
returns-in-Err-clause-written g c =
    if_some_intro (g.F.Files.state c.args.files.now).held _ (λ held e wrote.
    absurd (refused_unwritten (Command c.in-Err.kind) c.refuse.result (command_unwritten c.in-Err.kind) c.refuse.ensures.line wrote))

pub returns-in-Err-clause-leaves : goal.returns-in-Err-clause-leaves
returns-in-Err-clause-leaves g c =
    if_some_intro (g.F.Files.state c.args.files.now).held _ (λ held e. left_alone
    (refused_unwritten (Command c.in-Err.kind) c.refuse.result (command_unwritten c.in-Err.kind) c.refuse.ensures.line) refl)

pub returns-in-Ok-Run-clause-settled : goal.returns-in-Ok-Run-clause-settled
returns-in-Ok-Run-clause-settled g c = c.image_answer.ensures.settled

pub returns-in-Ok-Migration-clause-settled : goal.returns-in-Ok-Migration-clause-settled
returns-in-Ok-Migration-clause-settled g c = c.migration_answer.ensures.settled (g.O.Sink.pending c.args.out.now)

pub returns-in-Err-clause-settled : goal.returns-in-Err-clause-settled
returns-in-Err-clause-settled g c o e n = (o, c.refuse.ensures.settled n)

pub returns-in-Err-clause-absences : goal.returns-in-Err-clause-absences
returns-in-Err-clause-absences g c unrun =
    refused_absences (Command c.in-Err.kind) c.refuse.result c.refuse.ensures.line (inl (refl, λ absent. absent))

-- the run that words and files ask for

pub returns-in-Ok-Run-clause-ran : goal.returns-in-Ok-Run-clause-ran
returns-in-Ok-Run-clause-ran g c =
    c.image_answer.ensures.ran (map string_bytes c.args.words.now)
    (run_read c.in-Ok-Run.field-0 c.in-Ok-Run.asked _ c.in-Ok-Run.ensures c.in-Ok-Run.field-0-is)

pub returns-in-Ok-Migration-clause-ran : goal.returns-in-Ok-Migration-clause-ran
returns-in-Ok-Migration-clause-ran g c =
    let asks = migration_read c.in-Ok-Migration.field-0 c.in-Ok-Migration.asked _ c.in-Ok-Migration.ensures c.in-Ok-Migration.field-0-is in
    if_some_intro (g.F.Files.state c.args.files.now).held _ (λ held e. runs_unless _ held _ _ c.migration_answer.result
    (migration_unrun c.in-Ok-Migration.asked.new_name.now c.in-Ok-Migration.asked.image.now asks
    (if_some_elim _ (g.F.Files.state c.args.files.now).held held e (c.migration_answer.ensures.answered (map string_bytes c.args.words.now) asks))))

pub returns-in-Err-clause-ran : goal.returns-in-Err-clause-ran
returns-in-Err-clause-ran g c =
    if_some_intro (g.F.Files.state c.args.files.now).held _ (λ held e.
    runs_refused _ held _ _ (Command c.in-Err.kind) c.refuse.result (command_unrun c.in-Err.kind) c.refuse.ensures.line)
