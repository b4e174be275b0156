-- What dropping a mark leaves, by what the calls of a stack tell of the mark.
use Rattle.std.proofs.Common.{◌≡◌, ℕ, zero, suc, ◌-◌, true, false, List, [], ◌∷◌, length, drop, map, slice_get, Option, Some, None, refl, ap, ◌∙◌}
use Rattle.icn_frames.specs.Heights.{cut}
use Rattle.icn_value.specs.declared.item.Pair.{Pair}
use Rattle.icn_frames.specs.declared.layout.Cell.{Cell}
use Rattle.icn_frames.specs.declared.layout.Cell.TheVariants.{Base, Call, Local, Mark, Limit, Suspension, Operand}
use Rattle.icn_frames.specs.Stacks as flat
use Rattle.icn_frames.specs.Stacks.{FlatStack}
use Rattle.icn_run.specs.Calls as calls
use Rattle.icn_run.specs.Stacks as code
use Rattle.law_frames.specs.ReadStacks.{Interpretation, cell_read, stack_read}
use Rattle.law_frames.specs.Agreement.{drop_by}
use Rattle.law_frames.proofs.CellsRead.{cut_read}

-- the stack that is left
outside : Option (FlatStack × Option Pair) → FlatStack → FlatStack
outside (Some pair) m = pair.0
outside None m = m

outside_is : (m n k : FlatStack) (p q : Option Pair) → (let u : FlatStack × Option Pair = (m, p) in let v : FlatStack × Option Pair = (n, q) in Some u ≡ Some v)
    → m ≡ n
unfolding outside
outside_is m n k p q e = ap (λ (w : Option (FlatStack × Option Pair)). outside w k) e

by_head : (read : Interpretation) (m n : FlatStack) (s : List Cell) (pair : Option Pair) → flat.unmark_from m s ≡ Some (n, pair)
    → code.drop_from (stack_read read m) (map (cell_read read) s) ≡ drop_by read (flat.label_in (slice_get s 0)) (flat.is_relabelled_in (slice_get s 0)) n
by_head read m n (Mark (Some place) true r ∷ s) pair e = ap (λ (w : FlatStack). calls.Repeats (stack_read read (flat.go place w))) (outside_is _ n m _ pair e)
by_head read m n (Mark (Some place) false r ∷ s) pair e = ap (λ (w : FlatStack). calls.Goes (stack_read read (flat.go place w))) (outside_is _ n m _ pair e)
by_head read m n (Mark None again r ∷ s) pair e = ap (λ (w : FlatStack). calls.Outside (stack_read read w)) (outside_is _ n m _ pair e)
by_head read m n (Limit count r ∷ s) pair e = ap (λ (w : FlatStack). calls.Outside (stack_read read w)) (outside_is _ n m _ pair e)
by_head read m n [] pair e = cc
by_head read m n (Base proc locals ∷ s) pair e = cc
by_head read m n (Call proc locals level registers place ∷ s) pair e = cc
by_head read m n (Local value ∷ s) pair e = cc
by_head read m n (Suspension why registers place ∷ s) pair e = cc
by_head read m n (Operand item ∷ s) pair e = cc

by_none : (read : Interpretation) (m : FlatStack) (s : List Cell) → flat.unmark_from m s ≡ None
    → code.drop_from (stack_read read m) (map (cell_read read) s) ≡ calls.NoMark
by_none read m (Mark label again r ∷ s) e = cc
by_none read m (Limit count r ∷ s) e = cc
by_none read m [] e = refl
by_none read m (Base proc locals ∷ s) e = refl
by_none read m (Call proc locals level registers place ∷ s) e = refl
by_none read m (Local value ∷ s) e = refl
by_none read m (Suspension why registers place ∷ s) e = refl
by_none read m (Operand item ∷ s) e = refl

first_drop : (n : ℕ) (s : List Cell) → slice_get (drop n s) 0 ≡ slice_get s n
first_drop zero s = refl
first_drop (suc n) [] = refl
first_drop (suc n) (x ∷ s) = first_drop n s

pub drop_read : (read : Interpretation) (m n : FlatStack) (pair : Option Pair) → flat.unmark m ≡ Some (n, pair)
    → code.drop_mark (stack_read read m) ≡ drop_by read (flat.label m) (flat.is_relabelled m) n
drop_read read m n pair e =
    ap (code.drop_from (stack_read read m)) (cut_read read m.registers.mark m.cells)
    ∙ by_head read m n (cut m.registers.mark m.cells) pair e
    ∙ ap (λ (w : Option Cell). drop_by read (flat.label_in w) (flat.is_relabelled_in w) n) (first_drop (length m.cells - m.registers.mark) m.cells)

pub drop_none_read : (read : Interpretation) (m : FlatStack) → flat.unmark m ≡ None → code.drop_mark (stack_read read m) ≡ calls.NoMark
drop_none_read read m e = ap (code.drop_from (stack_read read m)) (cut_read read m.registers.mark m.cells) ∙ by_none read m (cut m.registers.mark m.cells) e
