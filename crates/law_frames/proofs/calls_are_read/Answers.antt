use Rattle.std.proofs.Common.{refl}
use Rattle.law_frames.proofs.CallsRead.{begin_read, proc_read, level_read, is_base_read, locals_read, set_locals_read, pop_read, below_read, open_mark_read, open_limit_read, relabel_read, count_down_read}
use Rattle.law_frames.proofs.ScansRead.{swap_newest_read, swap_oldest_read, unmark_read, suspend_read, suspend_mark_read, suspend_proc_read, resume_read, enter_read, leave_read}
use Rattle.law_frames.proofs.DropsRead.{drop_read, drop_none_read}
use Rattle.law_frames.proofs.calls_are_read.Goals as goal

pub returns-clause-begins : goal.returns-clause-begins
returns-clause-begins c = begin_read

pub returns-clause-reads : goal.returns-clause-reads
returns-clause-reads c read m = record {
  proc = proc_read read m;
  level = level_read read m;
  is_base = is_base_read read m;
  locals = locals_read read m;
  below = below_read read m;
}

pub returns-clause-calls : goal.returns-clause-calls
returns-clause-calls c read m = record {
  set_locals = λ values. set_locals_read read values m;
  go = λ place. refl;
  push = λ item. refl;
  pop = pop_read read m;
  open_mark = λ label. open_mark_read read label m;
  open_limit = λ label count. open_limit_read read label count m;
  relabel = λ label. relabel_read read label m;
  count_down = count_down_read read m;
  unmark = unmark_read read m;
  drop_mark = drop_read read m;
  drop_none = drop_none_read read m;
  suspend = λ why. suspend_read read why m;
  suspend_mark = suspend_mark_read read m;
  suspend_proc = suspend_proc_read read m;
  resume = resume_read read m;
  swap_newest = λ pair. swap_newest_read read pair m;
  swap_oldest = λ pair. swap_oldest_read read pair m;
  enter = λ proc values. enter_read read proc values m;
  leave = leave_read read m;
}
