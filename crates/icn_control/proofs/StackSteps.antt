-- What each instruction that touches a stack alone does, by the calls of the stack.
use Rattle.std.proofs.Common.{◌≡◌, ℕ, ℤ, zero, suc, ◌+◌, ◌<◌, List, [], ◌∷◌, slice_get, true, Option, Some, None, IsSome, is_some, refl, sym, ap, ◌∙◌, subst, arith}
use Rattle.std.proofs.lemmas.Option.{same_Some}
use Rattle.std.specs.Option.{option_map}
use Rattle.icn_value.specs.declared.val.Val.TheVariants.{Null, Integer as HeldInteger}
use Rattle.icn_value.specs.declared.item.Item.{Item}
use Rattle.icn_value.specs.declared.item.Item.TheVariants.{Val as HeldVal, Var as HeldVar}
use Rattle.icn_value.specs.declared.item.Root.TheVariants.{Global as HeldGlobal, Local as HeldLocal, Static as HeldStatic}
use Rattle.icn_value.specs.declared.item.VarRef.TheVariants.{Whole as HeldWhole}
use Rattle.icn_value.specs.declared.item.Pair.{Pair}
use Rattle.icn_heap.specs.Extents.{Extent}
use Rattle.icn_frames.specs.Heights.{cell_at}
use Rattle.icn_frames.specs.declared.layout.Cell.{Cell}
use Rattle.icn_frames.specs.declared.layout.Cell.TheVariants.{Base, Call, Local, Mark, Limit, Suspension, Operand}
use Rattle.icn_frames.specs.declared.slots.StackSlot.{StackSlot}
use Rattle.icn_frames.specs.Slots.{plain_operand}
use Rattle.icn_frames.specs.Stacks as held
use Rattle.icn_frames.specs.Stacks.{FlatStack}
use Rattle.law_frames.specs.ReadStacks.{popped_read, counted_read, unmarked_read}
use Rattle.law_frames.proofs.CallsRead.{pop_read, proc_read, below_read, relabel_read, count_down_read}
use Rattle.law_frames.proofs.ScansRead.{unmark_read, suspend_mark_read}
use Rattle.icn_code.specs.declared.instr.Instr.TheVariants as Instrs
use Rattle.icn_code.specs.Codes.{Tables}
use Rattle.icn_run.specs.Rows as rows
use Rattle.icn_run.specs.Calls as calls
use Rattle.icn_run.specs.Stacks.{Frames, flat}
use Rattle.icn_run.specs.Step.{State, Store, running, with_found, on_pair, push_item, scans_left, limited_result, statics_before}
use Rattle.icn_control.proofs.LiveCalls.{given_split}
use Rattle.icn_control.specs.StackViews.{stack_in, reading_of, maybe_pair_in, GoesOn, GoesOnIn, GoesOnLeaving, instruction_state}

-- an instruction goes on with a stack
abbrev on : Store Frames → Frames → State Frames Frames
on st m = running m st

abbrev on_stack : Extent → Store Frames → FlatStack → State Frames Frames
on_stack all st m = running (stack_in all m) st

pub null_runs : (m n : FlatStack) → n ≡ held.push (HeldVal Null) m → GoesOn Instrs.Pnull m n
null_runs m n e all tables st = ap (on_stack all st) (sym e)

-- variables that are pushed

pub local_runs : (m n : FlatStack) (k : ℕ) → n ≡ held.push (HeldVar (HeldWhole (HeldLocal k))) m → GoesOn (Instrs.Local k) m n
local_runs m n k e all tables st = ap (on_stack all st) (sym e)

pub global_runs : (m n : FlatStack) (k : ℕ) → n ≡ held.push (HeldVar (HeldWhole (HeldGlobal k))) m → GoesOn (Instrs.Global k) m n
global_runs m n k e all tables st = ap (on_stack all st) (sym e)

pub static_runs : (m n : FlatStack) (tables : Tables) (first k : ℕ) → first ≡ statics_before tables (held.proc m)
    → n ≡ held.push (HeldVar (HeldWhole (HeldStatic (first + k)))) m → GoesOnIn tables (Instrs.Static k) m n
static_runs m n tables first k is e all st =
    ap (λ (x : ℕ). push_item flat (rows.Var (rows.Whole (rows.Static (statics_before tables x + k)))) (stack_in all m) st) (proc_read (reading_of all) m)
    ∙ ap (λ (x : ℕ). push_item flat (rows.Var (rows.Whole (rows.Static (x + k)))) (stack_in all m) st) (sym is)
    ∙ ap (on_stack all st) (sym e)

pub integer_runs : (m n : FlatStack) (tables : Tables) (k : ℕ) (i : ℤ) → slice_get tables.integers k ≡ Some i
    → n ≡ held.push (HeldVal (HeldInteger i)) m → GoesOnIn tables (Instrs.Int k) m n
integer_runs m n tables k i there e all st =
    ap (λ (o : Option ℤ). with_found o (λ x. push_item flat (rows.Val (rows.Integer x)) (stack_in all m) st)) there
    ∙ ap (on_stack all st) (sym e)

-- what is taken off a stack, with the rest of the instruction
pub popped_runs : (m n : FlatStack) (item : Item) → held.pop m ≡ Some (item, n) → (all : Extent) (next : rows.Item → Frames → State Frames Frames)
    → with_found (flat.pop (stack_in all m)) (on_pair next) ≡ next ((reading_of all).item item) (stack_in all n)
popped_runs m n item e all next =
    ap (λ (w : Option (rows.Item × Frames)). with_found w (on_pair next)) (pop_read (reading_of all) m ∙ ap (option_map (popped_read (reading_of all))) e)

-- an operand that is taken and put back
pub pushed_back : (m n : FlatStack) (item : Item) → held.pop m ≡ Some (item, n) → held.push item n ≡ m
pushed_back m n item e = by_cells m.cells e
  where
    by_cells : (s : List Cell) → held.pop_from m s ≡ Some (item, n) → held.push item n ≡ record m { cells = s }
    by_cells (Operand x ∷ s) q = ap (λ (w : Item × FlatStack). held.push w.0 w.1) (sym (same_Some _ _ q))
    by_cells [] q = cc
    by_cells (Local value ∷ s) q = cc
    by_cells (Base proc locals ∷ s) q = cc
    by_cells (Call proc locals level r place ∷ s) q = cc
    by_cells (Mark label changed r ∷ s) q = cc
    by_cells (Limit count r ∷ s) q = cc
    by_cells (Suspension why r place ∷ s) q = cc

-- an operand beside whose slot nothing is kept
pub record PlainTop (m : FlatStack) (slot : StackSlot) : Type 0 where
  pub item : Item
  pub rest : FlatStack
  pub tells : plain_operand slot ≡ Some item
  pub pops : held.pop m ≡ Some (item, rest)

-- the slot of the top operand tells it
abbrev pub TellsTop : FlatStack → StackSlot → Type 0
TellsTop m slot = (x : Item) (rest : FlatStack) → held.pop m ≡ Some (x, rest) → (y : Item) → plain_operand slot ≡ Some y → x ≡ y

top_told : (m : FlatStack) (slot : StackSlot) (popped : Item × FlatStack) (o : Option Item) → plain_operand slot ≡ o → is_some o ≡ true
    → held.pop m ≡ Some popped → TellsTop m slot → PlainTop m slot
top_told m slot popped (Some y) f plain e top = record {
  item = popped.0;
  rest = popped.1;
  tells = f ∙ ap (λ (x : Item). Some x) (sym (top popped.0 popped.1 e y f));
  pops = e;
}
top_told m slot popped None f plain e top = cc

pub plain_top : (m : FlatStack) (slot : StackSlot) → IsSome (held.pop m) → is_some (plain_operand slot) ≡ true → TellsTop m slot → PlainTop m slot
plain_top m slot there plain top = by_popped (held.pop m) refl there
  where
    by_popped : (o : Option (Item × FlatStack)) → held.pop m ≡ o → IsSome o → PlainTop m slot
    by_popped (Some popped) e q = top_told m slot popped (plain_operand slot) refl plain e top
    by_popped None e q = cc

-- the operand on top once more
pub twice_runs : (m k n : FlatStack) (item : Item) → held.pop m ≡ Some (item, k) → n ≡ held.push item m → GoesOn Instrs.Dup m n
twice_runs m k n item e p all tables st =
    popped_runs m k item e all (λ x w. push_item flat x (stack_in all m) st) ∙ ap (on_stack all st) (sym p)

-- the operand that is dropped
pub dropped_runs : (m n : FlatStack) → IsSome (held.pop m) → ((x : Item) (rest : FlatStack) → held.pop m ≡ Some (x, rest) → n ≡ rest)
    → GoesOn Instrs.Pop m n
dropped_runs m n there left all tables st = by_popped (held.pop m) refl there
  where
    by_popped : (o : Option (Item × FlatStack)) → held.pop m ≡ o → IsSome o → instruction_state all tables Instrs.Pop m st ≡ running (stack_in all n) st
    by_popped (Some popped) e q =
        popped_runs m popped.1 popped.0 e all (λ x w. running w st) ∙ ap (on_stack all st) (sym (left popped.0 popped.1 e))
    by_popped None e q = cc

pub relabel_runs : (m n : FlatStack) (label : ℕ) → held.relabel label m ≡ Some n → GoesOn (Instrs.Chfail label) m n
relabel_runs m n label e all tables st =
    ap (λ (w : Option Frames). with_found w (on st)) (relabel_read (reading_of all) label m ∙ ap (option_map (stack_in all)) e)

-- what is left where a mark is dropped, with the rest of the instruction
pub unmarked_by : (m n : FlatStack) (pair : Option Pair) → held.unmark m ≡ Some (n, pair)
    → (all : Extent) (next : Frames → Option calls.Pair → State Frames Frames)
    → with_found (flat.unmark (stack_in all m)) (on_pair next) ≡ next (stack_in all n) (maybe_pair_in all pair)
unmarked_by m n pair e all next =
    ap (λ (w : Option (Frames × Option calls.Pair)). with_found w (on_pair next))
    (unmark_read (reading_of all) m ∙ ap (option_map (unmarked_read (reading_of all))) e)

pub unmark_runs : (m n : FlatStack) (pair : Option Pair) → held.unmark m ≡ Some (n, pair) → GoesOnLeaving Instrs.Unmark m pair n
unmark_runs m n pair e all tables st = unmarked_by m n pair e all (λ outside back. running outside (scans_left back st))

suspended_by : (m n : FlatStack) → held.suspend_mark m ≡ Some n → (all : Extent) (next : Frames → State Frames Frames)
    → with_found (flat.suspend_mark (stack_in all m)) next ≡ next (stack_in all n)
suspended_by m n e all next =
    ap (λ (w : Option Frames). with_found w next) (suspend_mark_read (reading_of all) m ∙ ap (option_map (stack_in all)) e)

pub esusp_runs : (m k n : FlatStack) (item : Item) → held.pop m ≡ Some (item, k) → held.given_to (Some item) (held.suspend_mark k) ≡ Some n
    → GoesOn Instrs.Esusp m n
esusp_runs m k n item e f all tables st =
    let split = given_split item (held.suspend_mark k) n f in
    popped_runs m k item e all (λ x w. with_found (flat.suspend_mark w) (λ v. push_item flat x v st))
    ∙ suspended_by k split.0 split.1.0 all (λ v. push_item flat ((reading_of all).item item) v st)
    ∙ ap (on_stack all st) split.1.1

counted_by : (m n : FlatStack) (count : ℕ) → held.count_down m ≡ Some (count, n) → (all : Extent) (next : ℕ → Frames → State Frames Frames)
    → with_found (flat.count_down (stack_in all m)) (on_pair next) ≡ next count (stack_in all n)
counted_by m n count e all next =
    let there : IsSome (held.count_down m) = subst IsSome (sym e) refl in
    ap (λ (w : Option (ℕ × Frames)). with_found w (on_pair next)) (count_down_read (reading_of all) m there ∙ ap (option_map (counted_read (reading_of all))) e)

-- a count that is one lower leaves the marks as they are
pub counted_base : (m n : FlatStack) (count : ℕ) → held.count_down m ≡ Some (count, n) → held.at_base n ≡ held.at_base m
counted_base m n count e = by_cell (cell_at m.registers.mark m.cells) e
  where
    by_cell : (cell : Option Cell) → held.count_down_at m cell ≡ Some (count, n) → held.at_base n ≡ held.at_base m
    by_cell (Some (Limit (suc left) r)) q = ap (λ (w : ℕ × FlatStack). held.at_base w.1) (sym (same_Some _ _ q))
    by_cell (Some (Limit zero r)) q = cc
    by_cell None q = cc
    by_cell (Some (Base proc locals)) q = cc
    by_cell (Some (Call proc locals level r place)) q = cc
    by_cell (Some (Local value)) q = cc
    by_cell (Some (Mark label changed r)) q = cc
    by_cell (Some (Suspension why r place)) q = cc
    by_cell (Some (Operand item)) q = cc

lsusp_by : (m k l n : FlatStack) (item : Item) (count : ℕ) → held.pop m ≡ Some (item, k) → held.count_down k ≡ Some (count, l)
    → (all : Extent) (tables : Tables) (st : Store Frames)
    → with_found (flat.pop (stack_in all m)) (on_pair (λ x w. with_found (flat.count_down w) (on_pair (λ c v. limited_result flat x c v st))))
    ≡ limited_result flat ((reading_of all).item item) count (stack_in all l) st
lsusp_by m k l n item count e f all tables st =
    popped_runs m k item e all (λ x w. with_found (flat.count_down w) (on_pair (λ c v. limited_result flat x c v st)))
    ∙ counted_by k l count f all (λ c v. limited_result flat ((reading_of all).item item) c v st)

pub lsusp_last : (m k l o n : FlatStack) (item : Item) (count : ℕ) (pair : Option Pair) → held.pop m ≡ Some (item, k) → held.count_down k ≡ Some (count, l)
    → count ≡ 0 → held.unmark l ≡ Some (o, pair)
    → n ≡ held.push item o → GoesOnLeaving Instrs.Lsusp m pair n
lsusp_last m k l o n item count pair e f z u p all tables st =
    lsusp_by m k l n item count e f all tables st
    ∙ ap (λ (c : ℕ). limited_result flat ((reading_of all).item item) c (stack_in all l) st) z
    ∙ unmarked_by l o pair u all (λ outside back. push_item flat ((reading_of all).item item) outside (scans_left back st))
    ∙ ap (on_stack all (scans_left (maybe_pair_in all pair) st)) (sym p)

above_zero : (n : ℕ) → 0 < n → (k : ℕ) × (n ≡ suc k)
above_zero zero p = absurd (omega arith)
above_zero (suc k) p = (k, refl)

pub lsusp_more : (m k l n : FlatStack) (item : Item) (count : ℕ) → held.pop m ≡ Some (item, k) → held.count_down k ≡ Some (count, l) → 0 < count
    → held.given_to (Some item) (held.suspend_mark l) ≡ Some n
    → GoesOnLeaving Instrs.Lsusp m None n
lsusp_more m k l n item count e f z u all tables st =
    let split = given_split item (held.suspend_mark l) n u in
    let more = above_zero count z in
    lsusp_by m k l n item count e f all tables st
    ∙ ap (λ (c : ℕ). limited_result flat ((reading_of all).item item) c (stack_in all l) st) more.1
    ∙ suspended_by l split.0 split.1.0 all (λ v. push_item flat ((reading_of all).item item) v st)
    ∙ ap (on_stack all st) split.1.1

pub below_runs : (m n : FlatStack) (item : Item) → held.below m ≡ Some item → n ≡ held.push item m → GoesOn Instrs.Ccase m n
below_runs m n item e p all tables st =
    ap (λ (w : Option rows.Item). with_found w (λ x. push_item flat x (stack_in all m) st))
    (below_read (reading_of all) m ∙ ap (option_map (reading_of all).item) e)
    ∙ ap (on_stack all st) (sym p)
