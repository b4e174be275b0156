use Rattle.std.proofs.Common.{[], refl}
use Rattle.icn_vars.specs.Worlds.{reach_of}
use Rattle.icn_instructions.proofs.ArmSteps.{nothing_done}
use Rattle.icn_instructions.proofs.at_once.psusp_at_once.Goals as goal

pub returns-then-suspend_value : goal.returns-then-suspend_value
returns-then-suspend_value g c tables =
    let w = c.args.world.now in
    record {
      step = λ st same. c.suspend_value.ensures.step c.if-suspend_value.true w tables st same;
      live = c.suspend_value.ensures.live c.if-suspend_value.true tables (reach_of w []);
      same = record { heap = refl; reach = refl };
      not_done = λ q. absurd (cc);
    }

pub returns : goal.returns
returns g c tables =
    nothing_done tables _ c.args.world.now c.args.frames.now.flat c.suspend_value.new.frames.flat (c.suspend_value.ensures.not_done c.if-suspend_value.false)
