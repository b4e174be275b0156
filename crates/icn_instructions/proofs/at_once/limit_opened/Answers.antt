use Rattle.std.proofs.Common.{[], refl}
use Rattle.icn_vars.specs.Worlds.{reach_of}
use Rattle.icn_instructions.proofs.ArmSteps.{nothing_done}
use Rattle.icn_instructions.proofs.at_once.limit_opened.Goals as goal

pub returns-in-Some : goal.returns-in-Some
returns-in-Some g c tables =
    let w = c.args.world.now in
    record {
      step = λ st same. c.in-Some.ensures.step w tables st same;
      live = c.in-Some.ensures.live tables (reach_of w []);
      same = record { heap = refl; reach = refl };
      not_done = λ q. absurd (cc);
    }

pub returns-in-None : goal.returns-in-None
returns-in-None g c tables =
    nothing_done tables _ c.args.world.now c.args.frames.now.flat c.limit_at_once.new.frames.flat (c.limit_at_once.ensures.not_done c.in-None.is)
