use Rattle.std.proofs.Common.{refl}
use Rattle.icn_machine.proofs.RowsAtOnce.{calls_not}
use Rattle.icn_machine.proofs.laying_out.lay_text_out.Goals as goal

pub returns-then-may_lay_text_out : goal.returns-then-may_lay_text_out
returns-then-may_lay_text_out g c t names = c.give_text_in_field.ensures t names

pub returns-else-may_lay_text_out : goal.returns-else-may_lay_text_out
returns-else-may_lay_text_out g c t names =
    calls_not t 2 c.args.world.now c.args.world.now c.args.frames.now.flat c.args.frames.now.flat refl refl
