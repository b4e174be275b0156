use Rattle.std.proofs.Common.{IsSome, rules}
use Rattle.icn_frames.specs.Slots.{plain_value}
use Rattle.icn_frames.specs.Stacks as held
use Rattle.icn_control.proofs.PlainValueSteps.{own_told}
use Rattle.icn_control.proofs.plain_values.own_value.Goals as goal

pub returns-then-is_plain_value : goal.returns-then-is_plain_value
returns-then-is_plain_value g c =
    let plain : IsSome (plain_value c.args.slot) = search rules in
    own_told (held.locals c.args.frames.now.flat) c.args.slot plain
