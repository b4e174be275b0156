use Rattle.std.proofs.Common.{rules, []}
use Rattle.icn_running.proofs.Starts.{start_kept}
use Rattle.icn_running.proofs.verified_run_laws.runs_hold.Goals as goal

pub returns : goal.returns
returns c = λ tables rules verified launch. record {
  kept = start_kept tables launch (c.never_stuck_over_any_outside.ensures.verified tables rules verified launch) c.variables_stay.ensures
      (c.cases_stand.ensures.verified tables rules verified launch) (c.start_is_named.ensures tables launch rules) (c.start_is_sized.ensures tables launch);
  falls = c.each_step_falls.ensures.verified tables rules verified launch;
  ends = (c.runs_end.ensures.verified tables rules verified).flat [] launch;
}
