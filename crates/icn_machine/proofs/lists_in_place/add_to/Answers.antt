use Rattle.std.proofs.Common.{subst, sym}
use Rattle.icn_text.specs.declared.func.Func.{Func}
use Rattle.icn_machine.specs.ListsInPlace.{AddsTo}
use Rattle.icn_machine.proofs.lists_in_place.add_to.Goals as goal

pub returns-in-Put : goal.returns-in-Put
returns-in-Put c q =
    subst (λ (f : Func). AddsTo f c.args.world.now c.args.list c.args.val c.put_right.new.world) (sym c.in-Put.is) (c.put_right.ensures q)

pub returns-in-Push : goal.returns-in-Push
returns-in-Push c q =
    subst (λ (f : Func). AddsTo f c.args.world.now c.args.list c.args.val c.push_left.new.world) (sym c.in-Push.is) (c.push_left.ensures q)

pub returns-in_default : goal.returns-in_default
returns-in_default c q = absurd (cc q)
