use Rattle.std.proofs.Common.{◌∙◌, refl, [], None}
use Rattle.icn_frames.proofs.FrameEntry.{sound_frame}
use Rattle.icn_frames.proofs.HeightsRead.{framed_above, height_above}
use Rattle.icn_frames.proofs.calls.Frames.new.Goals as goal

pub running_proc-running-requires : goal.running_proc-running-requires
running_proc-running-requires g c =
    let e = c.in_ok-reserve.ensures.cells ∙ c.new-cells.ensures in
    rw (c.at_frame-registers.ensures)
    (sound_frame c.args.locals.now _ None [] _ _ refl (height_above _ [] _ _ _ c.len-height.ensures.is c.push_base.ensures.cells e) tt tt
    (framed_above c.args.locals.now _ [] _ _ _ c.put_locals.ensures c.push_base.ensures.cells e)).stands.leads.base

pub invariant_of-result-2 : goal.invariant_of-result-2
invariant_of-result-2 g c =
    let e = c.in_ok-reserve.ensures.cells ∙ c.new-cells.ensures in
    rw (c.at_frame-registers.ensures)
    (sound_frame c.args.locals.now _ None [] _ _ refl (height_above _ [] _ _ _ c.len-height.ensures.is c.push_base.ensures.cells e) tt tt
    (framed_above c.args.locals.now _ [] _ _ _ c.put_locals.ensures c.push_base.ensures.cells e))
