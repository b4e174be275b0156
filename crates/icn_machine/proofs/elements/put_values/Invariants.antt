use Rattle.std.proofs.Common.{◌≡◌, ◌++◌, length, map}
use Rattle.icn_value.specs.declared.item.Item.TheVariants as Items
use Rattle.icn_machine.proofs.elements.put_values.Given as goal

abbrev pub invariant-loop-first : goal.invariant-loop-first
invariant-loop-first l = record { so : l.items.items ++ map Items.Val l.rest ≡ map Items.Val l.vals }

abbrev pub decreases-loop-first : goal.decreases-loop-first
decreases-loop-first l = length l.rest
