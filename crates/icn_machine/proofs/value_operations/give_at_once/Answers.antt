use Rattle.std.proofs.Common.{refl, sym, subst}
use Rattle.icn_machine.specs.declared.value_operations.ItemOutcome.{ItemOutcome}
use Rattle.icn_control.specs.declared.machine.RunState.TheVariants as RunStates
use Rattle.icn_machine.specs.ValueOperations.{GivesAtOnce}
use Rattle.icn_machine.proofs.value_operations.give_at_once.Goals as goal

pub returns-in-Fails : goal.returns-in-Fails
returns-in-Fails g c =
    subst (λ (given : ItemOutcome). GivesAtOnce given c.args.frames.now.flat c.args.frames.now.flat RunStates.Failing) (sym c.in-Fails.is) (refl, refl)

pub returns-in-Gives : goal.returns-in-Gives
returns-in-Gives g c =
    subst (λ (given : ItemOutcome). GivesAtOnce given c.args.frames.now.flat c.put_item.new.frames.flat RunStates.Running) (sym c.in-Gives.is)
    (refl, c.put_item.ensures.flat)
