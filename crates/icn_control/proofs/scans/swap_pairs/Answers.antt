use Rattle.std.proofs.Common.{[], sym, subst}
use Rattle.icn_vars.specs.Worlds.{Reach, reach_of}
use Rattle.icn_control.specs.LiveStacks.{IsLiveStack}
use Rattle.icn_control.proofs.OperandValues.{present_live}
use Rattle.icn_control.proofs.LiveFrames.{live_swap}
use Rattle.icn_control.proofs.scans.swap_pairs.Goals as goal

pub set_pair-requires : goal.set_pair-requires
set_pair-requires g c =
    let w = c.args.world.now in
    (live_swap c.requires.live.0 (reach_of w []) c.args.frames.now.flat c.swap_pair-pair.new.self.flat c.args.oldest w.pair c.swap_pair-pair.result
    c.swap_pair-pair.ensures.flat (present_live w) c.requires.live.1).pair_live

pub returns-clause-live : goal.returns-clause-live
returns-clause-live g c t k =
    let w = c.args.world.now in
    subst (λ (r : Reach). IsLiveStack t r c.swap_pair-pair.new.self.flat) (sym c.set_pair.ensures.same.reach)
    (live_swap t (reach_of w []) c.args.frames.now.flat c.swap_pair-pair.new.self.flat c.args.oldest w.pair c.swap_pair-pair.result
    c.swap_pair-pair.ensures.flat (present_live w) k).rest
