use Rattle.std.proofs.Common.{◌+◌, ◌∙◌, ap, drop, le_trans}
use Rattle.std.proofs.lemmas.List.{drop_all}
use Rattle.icont_units.specs.FetchedFiles.{files_seen}
use Rattle.icn_answer.proofs.ToldContent.{if_some_elim, if_some_intro}
use Rattle.icont_units.proofs.NamedMembers.{came_all, came_more, came_refused, come_passed, files_from}
use Rattle.icont_units.proofs.members.load_named.Goals as goal

pub returns-in_err-add_file-clause-come : goal.returns-in_err-add_file-clause-come
returns-in_err-add_file-clause-come g c =
    if_some_intro (g.F.Files.state c.args.files.now).held _ (λ held e.
    let so = c.loop-file.invariant.came held e in
    let read = if_some_elim _ (g.F.Files.state c.loop-file.files).held held (c.loop-file.invariant.same ∙ e)
    c.in_err-add_file.ensures.read in
    come_passed held (files_seen c.args.named.now) c.in_err-add_file.field-0.0 _ c.from_residual.ensures.1
    (came_refused held (files_seen c.args.named.now) (files_seen (drop c.loop-file.file-index c.args.named.now))
    (files_seen (drop (c.loop-file.file-index + 1) c.args.named.now))
    _ c.loop-file.members c.in_err-add_file.field-0.0 so
    (files_from c.args.named.now c.loop-file.file-index _ c.loop-file-test.true) (read so.members so.stands)))

pub loop-file-preserved : goal.loop-file-preserved
loop-file-preserved g c = record {
  came = λ held e.
      let so = c.loop-file.invariant.came held e in
      let read = if_some_elim _ (g.F.Files.state c.loop-file.files).held held (c.loop-file.invariant.same ∙ e)
      c.in_ok-add_file.ensures.read in
      came_more held (files_seen c.args.named.now) (files_seen (drop c.loop-file.file-index c.args.named.now))
      (files_seen (drop (c.loop-file.file-index + 1) c.args.named.now))
      _ c.loop-file.members c.add_file.new.members so
      (files_from c.args.named.now c.loop-file.file-index _ c.loop-file-test.true) (read so.members so.stands);
  sound = c.in_ok-add_file.ensures.sound c.loop-file.invariant.sound;
  same = c.in_ok-add_file.ensures.reads.files ∙ c.loop-file.invariant.same;
  faults = c.in_ok-add_file.ensures.reads.file_fault.stayed (λ is. cc) ∙ c.loop-file.invariant.faults;
  wants = c.in_ok-add_file.ensures.reads.file_want.stayed (λ is. cc) ∙ c.loop-file.invariant.wants;
  absences = le_trans c.loop-file.invariant.absences c.in_ok-add_file.ensures.reads.absence.later;
}

pub returns-clause-come : goal.returns-clause-come
returns-clause-come g c =
    if_some_intro (g.F.Files.state c.args.files.now).held _ (λ held e.
    came_all held (files_seen c.args.named.now) (files_seen (drop c.loop-file.file-index c.args.named.now))
    c.loop-file.members (c.loop-file.invariant.came held e)
    (ap files_seen (drop_all c.loop-file.file-index c.args.named.now c.loop-file-test.false)))
