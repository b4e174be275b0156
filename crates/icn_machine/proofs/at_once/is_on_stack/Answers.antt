use Rattle.std.proofs.Common.{◌≡◌, ◌∙◌, sym}
use Rattle.icn_instructions.specs.declared.groups.InstrGroup.TheVariants as Groups
use Rattle.icn_machine.proofs.at_once.is_on_stack.Goals as goal

pub returns-in-Stack-clause-on : goal.returns-in-Stack-clause-on
returns-in-Stack-clause-on c = λ is. sym c.group_of.ensures ∙ c.in-Stack.is

pub returns-in-World-clause-off : goal.returns-in-World-clause-off
returns-in-World-clause-off c = λ q e. let bad : Groups.World ≡ Groups.Stack = sym c.in-World.is ∙ c.group_of.ensures ∙ e in absurd (cc)

pub returns-in-Machine-clause-off : goal.returns-in-Machine-clause-off
returns-in-Machine-clause-off c = λ q e. let bad : Groups.Machine ≡ Groups.Stack = sym c.in-Machine.is ∙ c.group_of.ensures ∙ e in absurd (cc)

pub returns-in-Coexpression-clause-off : goal.returns-in-Coexpression-clause-off
returns-in-Coexpression-clause-off c = λ q e. (
    let bad : Groups.Coexpression ≡ Groups.Stack = sym c.in-Coexpression.is ∙ c.group_of.ensures ∙ e in absurd (cc))

pub returns-in-Application-clause-off : goal.returns-in-Application-clause-off
returns-in-Application-clause-off c = λ q e. (
    let bad : Groups.Application ≡ Groups.Stack = sym c.in-Application.is ∙ c.group_of.ensures ∙ e in absurd (cc))
