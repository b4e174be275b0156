use Rattle.std.proofs.Common.{[], sym, subst}
use Rattle.icn_heap.specs.Heaps.{extent_of}
use Rattle.icn_vars.specs.Worlds.{Reach, reach_of}
use Rattle.icn_control.specs.LiveStacks.{IsLiveStack}
use Rattle.icn_control.proofs.LiveFrames.{live_resume}
use Rattle.icn_frames.specs.declared.layout.Why.TheVariants.{Alt, Op, Scan, Escan, Proc}
use Rattle.icn_control.proofs.FailingStackSteps.{resumed_as, escan_open, fall_none, fall_alt, fall_op, fall_scan, fall_escan, fall_proc}
use Rattle.icn_control.specs.FailingStacks.{FallsBelow, due_of}
use Rattle.icn_control.proofs.FewerCells.{resume_less, swapped_less}
use Rattle.icn_control.proofs.NamedFailing.{alt_falls, escan_falls, none_falls, op_falls, pair_named, proc_falls, scan_falls}
use Rattle.icn_control.specs.StackViews.{pair_in}
use Rattle.icn_frames.specs.Stacks.{FlatStack}
use Rattle.icn_control.proofs.failing.fall_by_why.Goals as goal

pub set_pair-requires : goal.set_pair-requires
set_pair-requires g c =
    (live_resume c.requires.live.0 (reach_of c.args.world.now []) c.args.frames.now.flat c.resume.new.self.flat (Scan c.in-Some-Scan.pair)
    (resumed_as c.args.frames.now.flat c.resume.new.self.flat c.in-Some-Scan.field-0
    (Scan c.in-Some-Scan.pair) c.in-Some-Scan.ensures.flat c.in-Some-Scan.field-0-is) c.requires.live.1).why_live

pub swap_pairs-requires-clause-scan : goal.swap_pairs-requires-clause-scan
swap_pairs-requires-clause-scan g c =
    escan_open (extent_of c.args.world.now.heap) c.args.frames.now.flat c.resume.new.self.flat
    (resumed_as c.args.frames.now.flat c.resume.new.self.flat c.in-Some-Escan.field-0 Escan c.in-Some-Escan.ensures.flat c.in-Some-Escan.field-0-is)
    c.requires.goes_on.0 c.requires.goes_on.1.0 c.requires.goes_on.1.1

pub swap_pairs-requires-clause-live : goal.swap_pairs-requires-clause-live
swap_pairs-requires-clause-live g c = (
  c.requires.live.0,
  (live_resume c.requires.live.0 (reach_of c.args.world.now []) c.args.frames.now.flat c.resume.new.self.flat Escan (resumed_as c.args.frames.now.flat
      c.resume.new.self.flat c.in-Some-Escan.field-0 Escan c.in-Some-Escan.ensures.flat c.in-Some-Escan.field-0-is) c.requires.live.1).rest,
)

pub returns-in-None-clause-step : goal.returns-in-None-clause-step
returns-in-None-clause-step g c =
    rw c.due_of.ensures (fall_none c.args.world.now c.args.frames.now.flat c.resume.new.self.flat c.drop_failed.new.frames.flat (due_of c.drop_failed.result)
    c.in-None.ensures.flat.0 c.in-None.ensures.flat.1 c.drop_failed.ensures.step)

pub returns-in-None-clause-due : goal.returns-in-None-clause-due
returns-in-None-clause-due g c = rw c.due_of.ensures (c.drop_failed.ensures.due (reach_of c.args.world.now []))

pub returns-in-Some-Alt-clause-step : goal.returns-in-Some-Alt-clause-step
returns-in-Some-Alt-clause-step g c =
    fall_alt c.args.world.now c.args.frames.now.flat c.resume.new.self.flat
    (resumed_as c.args.frames.now.flat c.resume.new.self.flat c.in-Some-Alt.field-0 Alt c.in-Some-Alt.ensures.flat c.in-Some-Alt.field-0-is)

pub returns-in-Some-Alt-clause-live : goal.returns-in-Some-Alt-clause-live
returns-in-Some-Alt-clause-live g c t k =
    (live_resume t (reach_of c.args.world.now []) c.args.frames.now.flat c.resume.new.self.flat Alt
    (resumed_as c.args.frames.now.flat c.resume.new.self.flat c.in-Some-Alt.field-0 Alt c.in-Some-Alt.ensures.flat c.in-Some-Alt.field-0-is) k).rest

pub returns-in-Some-Op-clause-step : goal.returns-in-Some-Op-clause-step
returns-in-Some-Op-clause-step g c =
    fall_op c.args.world.now c.args.frames.now.flat c.resume.new.self.flat c.in-Some-Op.rest
    (resumed_as c.args.frames.now.flat c.resume.new.self.flat c.in-Some-Op.field-0 (Op c.in-Some-Op.rest) c.in-Some-Op.ensures.flat c.in-Some-Op.field-0-is)

pub returns-in-Some-Op-clause-live : goal.returns-in-Some-Op-clause-live
returns-in-Some-Op-clause-live g c t k =
    (live_resume t (reach_of c.args.world.now []) c.args.frames.now.flat c.resume.new.self.flat (Op c.in-Some-Op.rest) (resumed_as c.args.frames.now.flat
    c.resume.new.self.flat c.in-Some-Op.field-0 (Op c.in-Some-Op.rest) c.in-Some-Op.ensures.flat c.in-Some-Op.field-0-is) k).rest

pub returns-in-Some-Op-clause-due : goal.returns-in-Some-Op-clause-due
returns-in-Some-Op-clause-due g c =
    (live_resume c.requires.live.0 (reach_of c.args.world.now []) c.args.frames.now.flat c.resume.new.self.flat (Op c.in-Some-Op.rest)
    (resumed_as c.args.frames.now.flat c.resume.new.self.flat c.in-Some-Op.field-0 (Op c.in-Some-Op.rest) c.in-Some-Op.ensures.flat c.in-Some-Op.field-0-is)
    c.requires.live.1).why_live

pub returns-in-Some-Scan-clause-step : goal.returns-in-Some-Scan-clause-step
returns-in-Some-Scan-clause-step g c =
    fall_scan c.args.world.now c.set_pair.new.world c.args.frames.now.flat c.resume.new.self.flat c.in-Some-Scan.pair
    (resumed_as c.args.frames.now.flat c.resume.new.self.flat c.in-Some-Scan.field-0
    (Scan c.in-Some-Scan.pair) c.in-Some-Scan.ensures.flat c.in-Some-Scan.field-0-is) c.set_pair.ensures.world c.set_pair.ensures.same.heap

pub returns-in-Some-Scan-clause-live : goal.returns-in-Some-Scan-clause-live
returns-in-Some-Scan-clause-live g c t k =
    subst (λ (r : Reach). IsLiveStack t r c.resume.new.self.flat) (sym c.set_pair.ensures.same.reach)
    (live_resume t (reach_of c.args.world.now []) c.args.frames.now.flat c.resume.new.self.flat (Scan c.in-Some-Scan.pair) (resumed_as c.args.frames.now.flat
    c.resume.new.self.flat c.in-Some-Scan.field-0 (Scan c.in-Some-Scan.pair) c.in-Some-Scan.ensures.flat c.in-Some-Scan.field-0-is) k).rest

pub returns-in-Some-Escan-clause-step : goal.returns-in-Some-Escan-clause-step
returns-in-Some-Escan-clause-step g c =
    fall_escan c.args.world.now c.swap_pairs.new.world c.args.frames.now.flat c.resume.new.self.flat c.swap_pairs.new.frames.flat
    (resumed_as c.args.frames.now.flat c.resume.new.self.flat c.in-Some-Escan.field-0 Escan c.in-Some-Escan.ensures.flat c.in-Some-Escan.field-0-is)
    c.swap_pairs.ensures.stack c.swap_pairs.ensures.world c.swap_pairs.ensures.same.heap

pub returns-in-Some-Escan-clause-live : goal.returns-in-Some-Escan-clause-live
returns-in-Some-Escan-clause-live g c t k =
    c.swap_pairs.ensures.live t
    (live_resume t (reach_of c.args.world.now []) c.args.frames.now.flat c.resume.new.self.flat Escan
    (resumed_as c.args.frames.now.flat c.resume.new.self.flat c.in-Some-Escan.field-0 Escan c.in-Some-Escan.ensures.flat c.in-Some-Escan.field-0-is) k).rest

pub returns-in-Some-Proc-clause-step : goal.returns-in-Some-Proc-clause-step
returns-in-Some-Proc-clause-step g c =
    fall_proc c.args.world.now c.args.frames.now.flat c.resume.new.self.flat
    (resumed_as c.args.frames.now.flat c.resume.new.self.flat c.in-Some-Proc.field-0 Proc c.in-Some-Proc.ensures.flat c.in-Some-Proc.field-0-is)

pub returns-in-Some-Proc-clause-live : goal.returns-in-Some-Proc-clause-live
returns-in-Some-Proc-clause-live g c t k =
    (live_resume t (reach_of c.args.world.now []) c.args.frames.now.flat c.resume.new.self.flat Proc
    (resumed_as c.args.frames.now.flat c.resume.new.self.flat c.in-Some-Proc.field-0 Proc c.in-Some-Proc.ensures.flat c.in-Some-Proc.field-0-is) k).rest

pub returns-in-None-clause-less : goal.returns-in-None-clause-less
returns-in-None-clause-less g c =
    rw c.due_of.ensures (subst (λ (x : FlatStack). FallsBelow x c.drop_failed.new.frames.flat (due_of c.drop_failed.result)) c.in-None.ensures.flat.1
    c.drop_failed.ensures.less)

pub returns-in-Some-Alt-clause-less : goal.returns-in-Some-Alt-clause-less
returns-in-Some-Alt-clause-less g c =
    resume_less c.args.frames.now.flat c.resume.new.self.flat Alt
    (resumed_as c.args.frames.now.flat c.resume.new.self.flat c.in-Some-Alt.field-0 Alt c.in-Some-Alt.ensures.flat c.in-Some-Alt.field-0-is)

pub returns-in-Some-Scan-clause-less : goal.returns-in-Some-Scan-clause-less
returns-in-Some-Scan-clause-less g c =
    resume_less c.args.frames.now.flat c.resume.new.self.flat (Scan c.in-Some-Scan.pair)
    (resumed_as c.args.frames.now.flat c.resume.new.self.flat c.in-Some-Scan.field-0
    (Scan c.in-Some-Scan.pair) c.in-Some-Scan.ensures.flat c.in-Some-Scan.field-0-is)

pub returns-in-Some-Escan-clause-less : goal.returns-in-Some-Escan-clause-less
returns-in-Some-Escan-clause-less g c =
    swapped_less c.args.frames.now.flat c.resume.new.self.flat c.swap_pairs.new.frames.flat Escan c.args.world.now.pair c.swap_pairs.new.world.pair
    (resumed_as c.args.frames.now.flat c.resume.new.self.flat c.in-Some-Escan.field-0 Escan c.in-Some-Escan.ensures.flat c.in-Some-Escan.field-0-is)
    c.swap_pairs.ensures.stack

pub returns-in-None-clause-named : goal.returns-in-None-clause-named
returns-in-None-clause-named g c =
    rw c.due_of.ensures (none_falls (extent_of c.args.world.now.heap) c.args.frames.now.flat c.resume.new.self.flat c.drop_failed.new.frames.flat
    (due_of c.drop_failed.result) c.in-None.ensures.flat.1 (c.drop_failed.ensures.named (extent_of c.args.world.now.heap)))

pub returns-in-None-clause-world_named : goal.returns-in-None-clause-world_named
returns-in-None-clause-world_named g c names k = k

pub returns-in-Some-Alt-clause-named : goal.returns-in-Some-Alt-clause-named
returns-in-Some-Alt-clause-named g c =
    alt_falls (extent_of c.args.world.now.heap) c.args.frames.now.flat c.resume.new.self.flat
    (resumed_as c.args.frames.now.flat c.resume.new.self.flat c.in-Some-Alt.field-0 Alt c.in-Some-Alt.ensures.flat c.in-Some-Alt.field-0-is)

pub returns-in-Some-Alt-clause-world_named : goal.returns-in-Some-Alt-clause-world_named
returns-in-Some-Alt-clause-world_named g c names k = k

pub returns-in-Some-Op-clause-named : goal.returns-in-Some-Op-clause-named
returns-in-Some-Op-clause-named g c =
    op_falls (extent_of c.args.world.now.heap) c.args.frames.now.flat c.resume.new.self.flat c.in-Some-Op.rest
    (resumed_as c.args.frames.now.flat c.resume.new.self.flat c.in-Some-Op.field-0 (Op c.in-Some-Op.rest) c.in-Some-Op.ensures.flat c.in-Some-Op.field-0-is)

pub returns-in-Some-Op-clause-world_named : goal.returns-in-Some-Op-clause-world_named
returns-in-Some-Op-clause-world_named g c names k = k

pub returns-in-Some-Scan-clause-named : goal.returns-in-Some-Scan-clause-named
returns-in-Some-Scan-clause-named g c =
    scan_falls (extent_of c.args.world.now.heap) c.args.frames.now.flat c.resume.new.self.flat c.in-Some-Scan.pair
    (resumed_as c.args.frames.now.flat c.resume.new.self.flat c.in-Some-Scan.field-0
    (Scan c.in-Some-Scan.pair) c.in-Some-Scan.ensures.flat c.in-Some-Scan.field-0-is)

pub returns-in-Some-Scan-clause-world_named : goal.returns-in-Some-Scan-clause-world_named
returns-in-Some-Scan-clause-world_named g c names =
    pair_named names c.args.world.now c.set_pair.new.world (pair_in (extent_of c.args.world.now.heap) c.in-Some-Scan.pair) c.set_pair.ensures.world

pub returns-in-Some-Escan-clause-named : goal.returns-in-Some-Escan-clause-named
returns-in-Some-Escan-clause-named g c =
    escan_falls (extent_of c.args.world.now.heap) c.args.frames.now.flat c.resume.new.self.flat c.swap_pairs.new.frames.flat c.args.world.now.pair
    c.swap_pairs.new.world.pair
    (resumed_as c.args.frames.now.flat c.resume.new.self.flat c.in-Some-Escan.field-0 Escan c.in-Some-Escan.ensures.flat c.in-Some-Escan.field-0-is)
    c.swap_pairs.ensures.stack

pub returns-in-Some-Escan-clause-world_named : goal.returns-in-Some-Escan-clause-world_named
returns-in-Some-Escan-clause-world_named g c names =
    pair_named names c.args.world.now c.swap_pairs.new.world (pair_in (extent_of c.args.world.now.heap) c.swap_pairs.new.world.pair) c.swap_pairs.ensures.world

pub returns-in-Some-Proc-clause-named : goal.returns-in-Some-Proc-clause-named
returns-in-Some-Proc-clause-named g c =
    proc_falls (extent_of c.args.world.now.heap) c.args.frames.now.flat c.resume.new.self.flat
    (resumed_as c.args.frames.now.flat c.resume.new.self.flat c.in-Some-Proc.field-0 Proc c.in-Some-Proc.ensures.flat c.in-Some-Proc.field-0-is)

pub returns-in-Some-Proc-clause-world_named : goal.returns-in-Some-Proc-clause-world_named
returns-in-Some-Proc-clause-world_named g c names k = k
