use Rattle.icn_frames.specs.Slots.{why_counting}
use Rattle.icn_control.specs.declared.machine.RunState.TheVariants as RunStates
use Rattle.icn_control.proofs.FailingStackSteps.{came_back}
use Rattle.icn_control.proofs.LiveFrames.{live_resume}
use Rattle.icn_machine.proofs.CountSteps.{count_given, count_in_turn, count_live, counts_over}
use Rattle.icn_machine.proofs.counts.count_again.Goals as goal

pub returns-in_default-next_count-clause-counts : goal.returns-in_default-next_count-clause-counts
returns-in_default-next_count-clause-counts g c =
    let m = c.args.frames.now.flat in
    let k = c.resume_newest.new.self.flat in
    let count = c.in-Some.count in
    let e = came_back m k (why_counting count.given count.last count.step) c.in-Some.ensures c.resume_newest.ensures.flat in
    count_in_turn m k k count RunStates.Failing e c.local_count.ensures.same (c.next_count.ensures.over c.in_default-next_count.is k)

pub returns-in_default-next_count-clause-live : goal.returns-in_default-next_count-clause-live
returns-in_default-next_count-clause-live g c t reach l =
    let m = c.args.frames.now.flat in
    let k = c.resume_newest.new.self.flat in
    let count = c.in-Some.count in
    let e = came_back m k (why_counting count.given count.last count.step) c.in-Some.ensures c.resume_newest.ensures.flat in
    (live_resume t reach m k (why_counting count.given count.last count.step) e l).rest

pub returns-in-Ok-clause-counts : goal.returns-in-Ok-clause-counts
returns-in-Ok-clause-counts g c =
    let m = c.args.frames.now.flat in
    let n = c.count_anew.new.self.flat in
    let count = c.in-Some.count in
    let next = c.in-Some-next_count.next in
    let was = c.in-Some.ensures in
    let why = why_counting count.given count.last count.step in
    let follows = c.in-Some-next_count.ensures.next in
    count_in_turn m was.0 n count RunStates.Running was.1 (c.count_anew.ensures.same why was.0 was.1)
    (counts_over count next was.0 n RunStates.Running follows.given follows.last follows.step
    (count_given was.0 n next follows.on (c.in-Ok.ensures.ok why was.0 was.1)))

pub returns-in-Ok-clause-live : goal.returns-in-Ok-clause-live
returns-in-Ok-clause-live g c t reach l =
    let m = c.args.frames.now.flat in
    let n = c.count_anew.new.self.flat in
    let count = c.in-Some.count in
    let was = c.in-Some.ensures in
    let why = why_counting count.given count.last count.step in
    count_live was.0 n c.in-Some-next_count.next (c.in-Ok.ensures.ok why was.0 was.1) t reach (live_resume t reach m was.0 why was.1 l).rest
