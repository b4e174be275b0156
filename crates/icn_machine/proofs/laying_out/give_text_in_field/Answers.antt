use Rattle.icn_value.specs.declared.val.Val.TheVariants as Vals
use Rattle.icn_machine.proofs.FieldsAtOnce.{lower_live, text_laid}
use Rattle.icn_machine.proofs.PlainCallSteps.{operands_there}
use Rattle.icn_machine.proofs.RowsAtOnce.{calls_lack}
use Rattle.icn_machine.proofs.laying_out.give_text_in_field.Goals as goal

pub drop_with-requires : goal.drop_with-requires
drop_with-requires g c = operands_there 2 c.args.frames.now.flat c.requires.operands

pub text_laid_out-requires : goal.text_laid_out-requires
text_laid_out-requires g c =
    (lower_live c.requires.live.0 c.args.world.now c.args.frames.now.flat c.drop_with.new.self.flat c.drop_with.ensures.drops c.requires.live.1
    (Vals.Text c.args.text) c.requires.first).live

pub returns-in-Ok : goal.returns-in-Ok
returns-in-Ok g c t names =
    text_laid t c.requires.live.0 c.args.world.now c.text_laid_out.new.world c.args.frames.now.flat c.drop_with.new.self.flat
    c.give_text.new.frames.flat c.drop_with.ensures.drops c.local_count.ensures.same c.requires.live.1 c.args.layout c.args.width c.in-Ok.field
    c.give_text.result names c.requires.second c.give_text.ensures c.args.text c.requires.first c.in-Ok.ensures

pub returns-in-Err : goal.returns-in-Err
returns-in-Err g c t names = calls_lack t 2 c.args.world.now c.text_laid_out.new.world c.args.frames.now.flat c.drop_with.new.self.flat
