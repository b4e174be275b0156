use Rattle.std.proofs.Common.{subst}
use Rattle.icn_text.specs.declared.func.Func.{Func}
use Rattle.icn_machine.specs.PlainFunctions.{NamesFunction}
use Rattle.icn_machine.proofs.scanning.scan_in_place.Goals as goal

pub returns-in-Upto : goal.returns-in-Upto
returns-in-Upto g c t names =
    c.search_members.ensures t (subst (λ (f : Func). NamesFunction t c.args.world.now.globals.items c.args.frames.now.flat 1 f) c.in-Upto.is names)

pub returns-in-Find : goal.returns-in-Find
returns-in-Find g c t names =
    c.search_text.ensures t (subst (λ (f : Func). NamesFunction t c.args.world.now.globals.items c.args.frames.now.flat 1 f) c.in-Find.is names)

pub returns-in_default : goal.returns-in_default
returns-in_default g c t names = c.move_or_test.ensures t names
