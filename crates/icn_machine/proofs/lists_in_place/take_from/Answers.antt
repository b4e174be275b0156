use Rattle.std.proofs.Common.{subst, sym}
use Rattle.icn_text.specs.declared.func.Func.{Func}
use Rattle.icn_machine.specs.ListsInPlace.{TakesFrom}
use Rattle.icn_machine.proofs.lists_in_place.take_from.Goals as goal

pub returns-in-Get-clause-takes : goal.returns-in-Get-clause-takes
returns-in-Get-clause-takes c =
    subst (λ (f : Func). TakesFrom f c.args.world.now c.args.list c.take_left.result c.take_left.new.world) (sym c.in-Get.is) c.take_left.ensures.get

pub returns-in-Pop-clause-takes : goal.returns-in-Pop-clause-takes
returns-in-Pop-clause-takes c =
    subst (λ (f : Func). TakesFrom f c.args.world.now c.args.list c.take_left-in-Pop.result c.take_left-in-Pop.new.world) (sym c.in-Pop.is)
    c.take_left-in-Pop.ensures.pop

pub returns-in-Pull-clause-takes : goal.returns-in-Pull-clause-takes
returns-in-Pull-clause-takes c =
    subst (λ (f : Func). TakesFrom f c.args.world.now c.args.list c.take_right.result c.take_right.new.world) (sym c.in-Pull.is) c.take_right.ensures
