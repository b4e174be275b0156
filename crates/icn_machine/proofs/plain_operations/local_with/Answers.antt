use Rattle.std.proofs.Common.{ap, ◌∙◌}
use Rattle.std.specs.Option.{option_and_then}
use Rattle.icn_frames.specs.Slots.{value_only}
use Rattle.icn_machine.proofs.plain_operations.local_with.Goals as goal

pub returns : goal.returns
returns g c =
    let told = c.in_ok-value.ensures in
    record {
      item = told.item;
      is = told.is;
      tells = told.tells;
      gives = c.operand_as_local.ensures ∙ ap (option_and_then value_only) told.gives;
      holds = told.holds;
    }
