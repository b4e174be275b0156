use Rattle.std.proofs.Common.{refl}
use Rattle.icn_frames.specs.declared.layout.Why.TheVariants.{Alt, Proc}
use Rattle.icn_control.specs.FailingStacks.{due_of}
use Rattle.icn_control.proofs.FailingStackSteps.{came_back, fall_alt, fall_none, fall_proc}
use Rattle.icn_control.proofs.LiveFrames.{live_resume}
use Rattle.icn_control.proofs.failing.fall_at_once.Goals as goal

pub returns-in-Nothing-clause-step : goal.returns-in-Nothing-clause-step
returns-in-Nothing-clause-step g c w =
    fall_none w c.args.frames.now.flat c.args.frames.now.flat c.drop_failed.new.frames.flat (due_of c.drop_failed.result) c.in-Nothing.ensures refl
    c.drop_failed.ensures.step

pub returns-in-Alt-clause-step : goal.returns-in-Alt-clause-step
returns-in-Alt-clause-step g c w =
    fall_alt w c.args.frames.now.flat c.resume_newest.new.self.flat
    (came_back c.args.frames.now.flat c.resume_newest.new.self.flat Alt c.in-Alt.ensures c.resume_newest.ensures.flat)

pub returns-in-Alt-clause-live : goal.returns-in-Alt-clause-live
returns-in-Alt-clause-live g c t reach k =
    (live_resume t reach c.args.frames.now.flat c.resume_newest.new.self.flat Alt
    (came_back c.args.frames.now.flat c.resume_newest.new.self.flat Alt c.in-Alt.ensures c.resume_newest.ensures.flat) k).rest

pub returns-in-Proc-clause-step : goal.returns-in-Proc-clause-step
returns-in-Proc-clause-step g c w =
    fall_proc w c.args.frames.now.flat c.resume_newest-in-Proc.new.self.flat
    (came_back c.args.frames.now.flat c.resume_newest-in-Proc.new.self.flat Proc c.in-Proc.ensures c.resume_newest-in-Proc.ensures.flat)

pub returns-in-Proc-clause-live : goal.returns-in-Proc-clause-live
returns-in-Proc-clause-live g c t reach k =
    (live_resume t reach c.args.frames.now.flat c.resume_newest-in-Proc.new.self.flat Proc
    (came_back c.args.frames.now.flat c.resume_newest-in-Proc.new.self.flat Proc c.in-Proc.ensures c.resume_newest-in-Proc.ensures.flat) k).rest
