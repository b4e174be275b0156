use Rattle.std.proofs.Common.{refl}
use Rattle.icn_value.specs.declared.val.Val.TheVariants as Vals
use Rattle.icn_machine.proofs.MatchSteps.{opens_so}
use Rattle.icn_machine.proofs.PlainCallSteps.{operands_there}
use Rattle.icn_machine.proofs.PlainFunctionSteps.{top_live}
use Rattle.icn_machine.proofs.scanning.open_in_place.Goals as goal

pub text_told-requires : goal.text_told-requires
text_told-requires g c = operands_there 0 c.args.frames.now.flat c.requires.operands

pub returns-in_default : goal.returns-in_default
returns-in_default g c = (refl, refl)

pub drop_with-requires : goal.drop_with-requires
drop_with-requires g c = operands_there 0 c.args.frames.now.flat c.requires.operands

pub open_over-requires : goal.open_over-requires
open_over-requires g c =
    let w = c.args.world.now in
    (top_live c.requires.live.0 w c.args.frames.now.flat (Vals.Text c.in-Some.text) w.sound.live_globals c.requires.operands c.requires.live.1
    c.in-Some.ensures).live

pub returns-in-Ok : goal.returns-in-Ok
returns-in-Ok g c =
    opens_so c.requires.live.0 c.requires.live.0 c.args.world.now c.args.frames.now.flat c.drop_with.new.self.flat c.open_over.new.frames.flat
    c.drop_with.ensures.drops c.local_count.ensures.same c.requires.live.1 c.in-Some.text c.in-Some.ensures c.open_over.new.world c.in-Ok.ensures.step
    (λ t l. c.in-Ok.ensures.live t l) c.open_over.ensures.same
