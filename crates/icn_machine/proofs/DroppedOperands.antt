-- Two operands that are dropped, told by their slots.
use Rattle.std.proofs.Common.{◌≡◌, suc, List, [], ◌∷◌, length, Option, Some, refl, sym, ap, ◌∙◌, arith}
use Rattle.icn_value.specs.declared.item.Item.{Item}
use Rattle.icn_frames.specs.CalledWith.{DropsWith, operands_above}
use Rattle.icn_frames.specs.Slots.{plain_operand}
use Rattle.icn_frames.specs.Stacks.{FlatStack}
use Rattle.icn_frames.specs.declared.layout.Cell.TheVariants.{Operand}
use Rattle.icn_frames.specs.declared.slots.StackSlot.{StackSlot}
use Rattle.icn_machine.specs.PlainOperations.{TakesSlots}
use Rattle.icn_machine.proofs.PlainFunctionSteps.{drops_taken}
use Rattle.icn_machine.proofs.PlainOperands.{TellsBelow}

one_only : (items : List Item) → length items ≡ 1 → (x : Item) × (items ≡ x ∷ [])
one_only [] e = let none : 0 ≡ 1 = e in absurd (omega arith)
one_only (x ∷ []) e = (x, refl)
one_only (x ∷ y ∷ items) e = let more : suc (suc (length items)) ≡ 1 = e in absurd (omega arith)

-- two operands that are dropped were told by their slots
pub slots_dropped : (m k : FlatStack) (slots : StackSlot × StackSlot) (x y : Item) → DropsWith 1 m k → plain_operand slots.0 ≡ Some x
    → plain_operand slots.1 ≡ Some y → TellsBelow 1 m slots.0 → TellsBelow 0 m slots.1 → TakesSlots m k slots
slots_dropped m k slots x y d px py below top =
    let one = one_only d.items d.many in
    let cells : m.cells ≡ operands_above d.items (Operand d.callee ∷ k.cells) = ap (λ (s : FlatStack). s.cells) d.was in
    let above : m.cells ≡ operands_above [] (Operand one.0 ∷ Operand d.callee ∷ k.cells)
    = cells ∙ ap (λ (xs : List Item). operands_above xs (Operand d.callee ∷ k.cells)) one.1 in
    let some : Item → Option Item = λ z. Some z in
    let both : List Item → Option (List Item × FlatStack) = λ xs. Some (d.callee ∷ xs, k) in
    record {
      first = d.callee;
      second = one.0;
      lower = px ∙ ap some (sym (below d.callee x d.items k.cells cells d.many px));
      upper = py ∙ ap some (sym (top one.0 y [] (Operand d.callee ∷ k.cells) above refl py));
      taken = drops_taken 1 m k d ∙ ap both one.1;
    }
