use Rattle.std.proofs.Common.{◌∙◌}
use Rattle.icn_vars.proofs.StartWorlds.{first_is, new_is}
use Rattle.icn_vars.proofs.world.World.new.Goals as goal

pub returns-clause-first : goal.returns-clause-first
returns-clause-first c = λ bounds count empty null.
    new_is c.args.heap (record { start = 0; len = 0 }) c.args.globals.items c.args.statics.items c.empty_text.ensures.bytes
    ∙ first_is c.args.heap c.args.globals.items c.args.statics.items bounds count empty null
