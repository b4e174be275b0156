use Rattle.std.proofs.Common.{FitsSigned, rules, subst, ℤ}
use Rattle.std.proofs.lemmas.Int.{to_z-of_z}
use Rattle.std.specs.Fmt.{signed_decimal}
use Rattle.std.specs.Int.{w64}
use Rattle.icn_machine.specs.MadeTexts.{MakesText, builds_field}
use Rattle.icn_machine.proofs.FieldsAtOnce.{integer_laid}
use Rattle.icn_machine.proofs.PlainCallSteps.{operands_there}
use Rattle.icn_machine.proofs.RowsAtOnce.{calls_lack}
use Rattle.icn_machine.proofs.laying_out.give_integer_in_field.Goals as goal

pub drop_with-requires : goal.drop_with-requires
drop_with-requires g c = operands_there 2 c.args.frames.now.flat c.requires.operands

pub returns-in-Ok : goal.returns-in-Ok
returns-in-Ok g c t names =
    let fits : FitsSigned w64 c.args.m = search rules in
    let made =
    subst (λ (i : ℤ). MakesText (builds_field c.args.layout (signed_decimal i) c.args.width) c.args.world.now c.integer_laid_out.new.world c.in-Ok.field)
    (to_z-of_z w64 c.args.m fits) c.in-Ok.ensures in
    integer_laid t c.requires.live.0 c.args.world.now c.integer_laid_out.new.world c.args.frames.now.flat c.drop_with.new.self.flat
    c.give_text.new.frames.flat c.drop_with.ensures.drops c.local_count.ensures.same c.requires.live.1 c.args.layout c.args.width c.in-Ok.field
    c.give_text.result names c.requires.second c.give_text.ensures c.args.m c.requires.first made

pub returns-in-Err : goal.returns-in-Err
returns-in-Err g c t names = calls_lack t 2 c.args.world.now c.integer_laid_out.new.world c.args.frames.now.flat c.drop_with.new.self.flat
