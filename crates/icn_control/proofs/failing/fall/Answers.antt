use Rattle.std.proofs.Common.{[], refl}
use Rattle.icn_heap.specs.Heaps.{extent_of}
use Rattle.icn_vars.specs.Worlds.{reach_of}
use Rattle.icn_frames.specs.declared.layout.Why.TheVariants.{Alt, Proc}
use Rattle.icn_control.specs.FailingStacks.{due_of}
use Rattle.icn_control.proofs.FailingStackSteps.{came_back, fall_alt, fall_none, fall_proc}
use Rattle.icn_control.proofs.FewerCells.{resume_less}
use Rattle.icn_control.proofs.LiveFrames.{live_resume}
use Rattle.icn_control.proofs.NamedFailing.{alt_falls, none_falls, proc_falls}
use Rattle.icn_control.proofs.failing.fall.Goals as goal

pub returns-in-Nothing-clause-step : goal.returns-in-Nothing-clause-step
returns-in-Nothing-clause-step g c =
    rw c.due_of.ensures (fall_none c.args.world.now c.args.frames.now.flat c.args.frames.now.flat c.drop_failed.new.frames.flat (due_of c.drop_failed.result)
    c.in-Nothing.ensures refl c.drop_failed.ensures.step)

pub returns-in-Nothing-clause-due : goal.returns-in-Nothing-clause-due
returns-in-Nothing-clause-due g c = rw c.due_of.ensures (c.drop_failed.ensures.due (reach_of c.args.world.now []))

pub returns-in-Nothing-clause-named : goal.returns-in-Nothing-clause-named
returns-in-Nothing-clause-named g c =
    rw c.due_of.ensures (none_falls (extent_of c.args.world.now.heap) c.args.frames.now.flat c.args.frames.now.flat c.drop_failed.new.frames.flat
    (due_of c.drop_failed.result) refl (c.drop_failed.ensures.named (extent_of c.args.world.now.heap)))

pub returns-in-Nothing-clause-world_named : goal.returns-in-Nothing-clause-world_named
returns-in-Nothing-clause-world_named g c names k = k

pub returns-in-Alt-clause-world_named : goal.returns-in-Alt-clause-world_named
returns-in-Alt-clause-world_named g c names k = k

pub returns-in-Proc-clause-world_named : goal.returns-in-Proc-clause-world_named
returns-in-Proc-clause-world_named g c names k = k

pub returns-in-Alt-clause-step : goal.returns-in-Alt-clause-step
returns-in-Alt-clause-step g c =
    fall_alt c.args.world.now c.args.frames.now.flat c.resume_newest.new.self.flat
    (came_back c.args.frames.now.flat c.resume_newest.new.self.flat Alt c.in-Alt.ensures c.resume_newest.ensures.flat)

pub returns-in-Alt-clause-live : goal.returns-in-Alt-clause-live
returns-in-Alt-clause-live g c t k =
    (live_resume t (reach_of c.args.world.now []) c.args.frames.now.flat c.resume_newest.new.self.flat Alt
    (came_back c.args.frames.now.flat c.resume_newest.new.self.flat Alt c.in-Alt.ensures c.resume_newest.ensures.flat) k).rest

pub returns-in-Alt-clause-named : goal.returns-in-Alt-clause-named
returns-in-Alt-clause-named g c =
    alt_falls (extent_of c.args.world.now.heap) c.args.frames.now.flat c.resume_newest.new.self.flat
    (came_back c.args.frames.now.flat c.resume_newest.new.self.flat Alt c.in-Alt.ensures c.resume_newest.ensures.flat)

pub returns-in-Alt-clause-less : goal.returns-in-Alt-clause-less
returns-in-Alt-clause-less g c =
    resume_less c.args.frames.now.flat c.resume_newest.new.self.flat Alt
    (came_back c.args.frames.now.flat c.resume_newest.new.self.flat Alt c.in-Alt.ensures c.resume_newest.ensures.flat)

pub returns-in-Proc-clause-step : goal.returns-in-Proc-clause-step
returns-in-Proc-clause-step g c =
    fall_proc c.args.world.now c.args.frames.now.flat c.resume_newest-in-Proc.new.self.flat
    (came_back c.args.frames.now.flat c.resume_newest-in-Proc.new.self.flat Proc c.in-Proc.ensures c.resume_newest-in-Proc.ensures.flat)

pub returns-in-Proc-clause-live : goal.returns-in-Proc-clause-live
returns-in-Proc-clause-live g c t k =
    (live_resume t (reach_of c.args.world.now []) c.args.frames.now.flat c.resume_newest-in-Proc.new.self.flat Proc
    (came_back c.args.frames.now.flat c.resume_newest-in-Proc.new.self.flat Proc c.in-Proc.ensures c.resume_newest-in-Proc.ensures.flat) k).rest

pub returns-in-Proc-clause-named : goal.returns-in-Proc-clause-named
returns-in-Proc-clause-named g c =
    proc_falls (extent_of c.args.world.now.heap) c.args.frames.now.flat c.resume_newest-in-Proc.new.self.flat
    (came_back c.args.frames.now.flat c.resume_newest-in-Proc.new.self.flat Proc c.in-Proc.ensures c.resume_newest-in-Proc.ensures.flat)

pub returns-in-Nothing-clause-less : goal.returns-in-Nothing-clause-less
returns-in-Nothing-clause-less g c = rw c.due_of.ensures c.drop_failed.ensures.less
