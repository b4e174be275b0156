use Rattle.std.proofs.Common.{refl, subst, sym}
use Rattle.icn_text.specs.declared.func.Func.{Func}
use Rattle.icn_machine.specs.PlainFunctions.{NamesFunction}
use Rattle.icn_machine.proofs.RowsAtOnce.{calls_not}
use Rattle.icn_machine.proofs.laying_out.lay_out_by.Goals as goal

pub returns-in-Some : goal.returns-in-Some
returns-in-Some g c t names =
    c.lay_out_in_place.ensures t
    (subst (λ (func : Func). NamesFunction t c.args.world.now.globals.items c.args.frames.now.flat 2 func) (sym c.in-Some.ensures) names)

pub returns-in-None : goal.returns-in-None
returns-in-None g c t names =
    calls_not t 2 c.args.world.now c.args.world.now c.args.frames.now.flat c.args.frames.now.flat refl refl
