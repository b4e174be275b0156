-- Each call of a stack, once it is read, is the call of the definitions.
use Rattle.std.proofs.Common.{◌≡◌, ℕ, zero, suc, ◌+◌, true, false, List, [], ◌∷◌, length, map, Option, Some, None, IsSome, refl, ap, ◌∙◌}
use Rattle.std.specs.Option.{option_map, option_and_then}
use Rattle.std.proofs.lemmas.List.{length-map}
use Rattle.icn_frames.specs.Heights.{cut, cell_at}
use Rattle.icn_value.specs.declared.val.Val.{Val}
use Rattle.icn_frames.specs.declared.layout.Cell.{Cell}
use Rattle.icn_frames.specs.declared.layout.Cell.TheVariants.{Base, Call, Local, Mark, Limit, Suspension, Operand}
use Rattle.icn_frames.specs.Stacks as flat
use Rattle.icn_frames.specs.Stacks.{FlatStack}
use Rattle.icn_run.specs.Rows as rows
use Rattle.icn_run.specs.Stacks as code
use Rattle.law_frames.specs.ReadStacks.{Interpretation, registers_read, cell_read, stack_read, popped_read, counted_read}
use Rattle.law_frames.proofs.CellsRead.{cut_read, at_read, set_read, above_read}

-- a new stack, and one that a procedure enters

pub begin_read : (read : Interpretation) (proc : ℕ) (values : List Val) (place : ℕ) (m : code.Frames)
    → code.begin proc (map read.value values) place m ≡ stack_read read (flat.begin proc values place)
begin_read read proc values place m =
    let F : List code.Cell → code.Frames = λ cells. record { cells = cells; registers = registers_read (flat.registers_at 1); address = place } in
    ap (λ (n : ℕ). F (code.put_above (map read.value values) (code.base proc n ∷ []))) (length-map values read.value)
    ∙ ap F (above_read read values (Base proc (length values) ∷ []))

-- the frame

proc_of_read : (read : Interpretation) (cell : Option Cell) → code.proc_of (option_map (cell_read read) cell) ≡ flat.proc_of cell
proc_of_read read None = refl
proc_of_read read (Some (Base proc locals)) = refl
proc_of_read read (Some (Call proc locals level registers place)) = refl
proc_of_read read (Some (Local value)) = refl
proc_of_read read (Some (Mark label changed registers)) = refl
proc_of_read read (Some (Limit count registers)) = refl
proc_of_read read (Some (Suspension why registers place)) = refl
proc_of_read read (Some (Operand item)) = refl

pub proc_read : (read : Interpretation) (m : FlatStack) → code.proc (stack_read read m) ≡ flat.proc m
proc_read read m = ap code.proc_of (at_read read m.registers.base m.cells) ∙ proc_of_read read (flat.frame m)

level_of_read : (read : Interpretation) (cell : Option Cell) → code.level_of (option_map (cell_read read) cell) ≡ flat.level_of cell
level_of_read read None = refl
level_of_read read (Some (Base proc locals)) = refl
level_of_read read (Some (Call proc locals level registers place)) = refl
level_of_read read (Some (Local value)) = refl
level_of_read read (Some (Mark label changed registers)) = refl
level_of_read read (Some (Limit count registers)) = refl
level_of_read read (Some (Suspension why registers place)) = refl
level_of_read read (Some (Operand item)) = refl

-- reading keeps the level of calls
pub level_read : (read : Interpretation) (m : FlatStack) → code.level (stack_read read m) ≡ flat.level m
level_read read m = ap code.level_of (at_read read m.registers.base m.cells) ∙ level_of_read read (flat.frame m)

is_base_cell_read : (read : Interpretation) (cell : Option Cell) → code.is_base_cell (option_map (cell_read read) cell) ≡ flat.is_base_cell cell
is_base_cell_read read None = refl
is_base_cell_read read (Some (Base proc locals)) = refl
is_base_cell_read read (Some (Call proc locals level registers place)) = refl
is_base_cell_read read (Some (Local value)) = refl
is_base_cell_read read (Some (Mark label changed registers)) = refl
is_base_cell_read read (Some (Limit count registers)) = refl
is_base_cell_read read (Some (Suspension why registers place)) = refl
is_base_cell_read read (Some (Operand item)) = refl

-- reading keeps whether the frame is the lowest
pub is_base_read : (read : Interpretation) (m : FlatStack) → code.is_base (stack_read read m) ≡ flat.is_base m
is_base_read read m = ap code.is_base_cell (at_read read m.registers.base m.cells) ∙ is_base_cell_read read (flat.frame m)

-- locals

locals_of_read : (read : Interpretation) (cell : Option Cell) → code.locals_of (option_map (cell_read read) cell) ≡ flat.locals_of cell
locals_of_read read None = refl
locals_of_read read (Some (Base proc locals)) = refl
locals_of_read read (Some (Call proc locals level registers place)) = refl
locals_of_read read (Some (Local value)) = refl
locals_of_read read (Some (Mark label changed registers)) = refl
locals_of_read read (Some (Limit count registers)) = refl
locals_of_read read (Some (Suspension why registers place)) = refl
locals_of_read read (Some (Operand item)) = refl

locals_down_read : (read : Interpretation) (n : ℕ) (s : List Cell) (values : List Val)
    → code.locals_down n (map (cell_read read) s) (map read.value values) ≡ map read.value (flat.locals_down n s values)
locals_down_read read zero s values = refl
locals_down_read read (suc n) [] values = refl
locals_down_read read (suc n) (Local value ∷ s) values = locals_down_read read n s (value ∷ values)
locals_down_read read (suc n) (Base proc locals ∷ s) values = refl
locals_down_read read (suc n) (Call proc locals level registers place ∷ s) values = refl
locals_down_read read (suc n) (Mark label changed registers ∷ s) values = refl
locals_down_read read (suc n) (Limit count registers ∷ s) values = refl
locals_down_read read (suc n) (Suspension why registers place ∷ s) values = refl
locals_down_read read (suc n) (Operand item ∷ s) values = refl

-- the locals of a stack that is read are its locals, read
pub locals_read : (read : Interpretation) (m : FlatStack) → code.locals (stack_read read m) ≡ map read.value (flat.locals m)
locals_read read m =
    let n : ℕ = flat.locals_of (flat.frame m) in
    ap (λ (k : ℕ). code.locals_down k (code.cut (m.registers.base + k) (map (cell_read read) m.cells)) [])
    (ap code.locals_of (at_read read m.registers.base m.cells) ∙ locals_of_read read (flat.frame m))
    ∙ ap (λ (w : List code.Cell). code.locals_down n w []) (cut_read read (m.registers.base + n) m.cells)
    ∙ locals_down_read read n (cut (m.registers.base + n) m.cells) []

set_local_read : (read : Interpretation) (h : ℕ) (value : Val) (s : List Cell) (cell : Option Cell)
    → code.set_local h (read.value value) (map (cell_read read) s) (option_map (cell_read read) cell) ≡ map (cell_read read) (flat.set_local h value s cell)
set_local_read read h value s (Some (Local old)) = set_read read h (Local value) s
set_local_read read h value s None = refl
set_local_read read h value s (Some (Base proc locals)) = refl
set_local_read read h value s (Some (Call proc locals level registers place)) = refl
set_local_read read h value s (Some (Mark label changed registers)) = refl
set_local_read read h value s (Some (Limit count registers)) = refl
set_local_read read h value s (Some (Suspension why registers place)) = refl
set_local_read read h value s (Some (Operand item)) = refl

set_from_read : (read : Interpretation) (h : ℕ) (values : List Val) (s : List Cell)
    → code.set_from h (map read.value values) (map (cell_read read) s) ≡ map (cell_read read) (flat.set_from h values s)
set_from_read read h [] s = refl
set_from_read read h (value ∷ values) s =
    ap (λ (w : Option code.Cell). code.set_from (suc h) (map read.value values) (code.set_local (suc h) (read.value value) (map (cell_read read) s) w))
    (at_read read (suc h) s)
    ∙ ap (λ (w : List code.Cell). code.set_from (suc h) (map read.value values) w) (set_local_read read (suc h) value s (cell_at (suc h) s))
    ∙ set_from_read read (suc h) values (flat.set_local (suc h) value s (cell_at (suc h) s))

-- locals that are set and then read are set in what was read
pub set_locals_read : (read : Interpretation) (values : List Val) (m : FlatStack)
    → code.set_locals (map read.value values) (stack_read read m) ≡ stack_read read (flat.set_locals values m)
set_locals_read read values m =
    ap (λ (w : List code.Cell). let k : code.Frames = record (stack_read read m) { cells = w } in k) (set_from_read read m.registers.base values m.cells)

-- operands

pop_from_read : (read : Interpretation) (m : FlatStack) (s : List Cell)
    → code.pop_from (stack_read read m) (map (cell_read read) s) ≡ option_map (popped_read read) (flat.pop_from m s)
pop_from_read read m [] = refl
pop_from_read read m (Operand item ∷ s) = refl
pop_from_read read m (Base proc locals ∷ s) = refl
pop_from_read read m (Call proc locals level registers place ∷ s) = refl
pop_from_read read m (Local value ∷ s) = refl
pop_from_read read m (Mark label changed registers ∷ s) = refl
pop_from_read read m (Limit count registers ∷ s) = refl
pop_from_read read m (Suspension why registers place ∷ s) = refl

-- an operand that is taken off and then read is one that is taken off what was read
pub pop_read : (read : Interpretation) (m : FlatStack) → code.pop (stack_read read m) ≡ option_map (popped_read read) (flat.pop m)
pop_read read m = pop_from_read read m m.cells

-- to take operands is to pop them
pub taken_pop : (n : ℕ) (m : code.Frames) (items : List rows.Item)
    → code.take_top (suc n) m m.cells items
    ≡ option_and_then (λ (pair : rows.Item × code.Frames). code.take_top n pair.1 pair.1.cells (pair.0 ∷ items)) (code.pop m)
taken_pop n m items = by_cells m.cells
  where
    over : (k : ℕ) (s t : List code.Cell) (xs : List rows.Item) → code.take_top k m s xs ≡ code.take_top k (record m { cells = t }) s xs
    over zero s t xs = refl
    over (suc k) [] t xs = refl
    over (suc k) (code.operand x ∷ s) t xs = over k s t (x ∷ xs)
    over (suc k) (code.base proc locals ∷ s) t xs = refl
    over (suc k) (code.call proc locals level registers place ∷ s) t xs = refl
    over (suc k) (code.local value ∷ s) t xs = refl
    over (suc k) (code.mark label changed registers ∷ s) t xs = refl
    over (suc k) (code.limit count registers ∷ s) t xs = refl
    over (suc k) (code.suspension why registers place ∷ s) t xs = refl

    by_cells : (s : List code.Cell) → code.take_top (suc n) m s items
        ≡ option_and_then (λ (pair : rows.Item × code.Frames). code.take_top n pair.1 pair.1.cells (pair.0 ∷ items)) (code.pop_from m s)
    by_cells [] = refl
    by_cells (code.operand x ∷ s) = over n s s (x ∷ items)
    by_cells (code.base proc locals ∷ s) = refl
    by_cells (code.call proc locals level registers place ∷ s) = refl
    by_cells (code.local value ∷ s) = refl
    by_cells (code.mark label changed registers ∷ s) = refl
    by_cells (code.limit count registers ∷ s) = refl
    by_cells (code.suspension why registers place ∷ s) = refl

below_in_read : (read : Interpretation) (s : List Cell) → code.below_in (map (cell_read read) s) ≡ option_map read.item (flat.below_in s)
below_in_read read [] = refl
below_in_read read (x ∷ []) = refl
below_in_read read (x ∷ Operand item ∷ s) = refl
below_in_read read (x ∷ Base proc locals ∷ s) = refl
below_in_read read (x ∷ Call proc locals level registers place ∷ s) = refl
below_in_read read (x ∷ Local value ∷ s) = refl
below_in_read read (x ∷ Mark label changed registers ∷ s) = refl
below_in_read read (x ∷ Limit count registers ∷ s) = refl
below_in_read read (x ∷ Suspension why registers place ∷ s) = refl

pub below_read : (read : Interpretation) (m : FlatStack) → code.below (stack_read read m) ≡ option_map read.item (flat.below m)
below_read read m = ap code.below_in (cut_read read m.registers.mark m.cells) ∙ below_in_read read (cut m.registers.mark m.cells)

-- marks

pub open_read : (read : Interpretation) (x : Cell) (m : FlatStack)
    → code.push_mark (cell_read read x) (stack_read read m) ≡ stack_read read (flat.open_with x m)
open_read read x m =
    ap (λ (n : ℕ). let k : code.Frames = record (stack_read read
    m) { cells = cell_read read x ∷ map (cell_read read) m.cells; registers = record (registers_read m.registers) { mark = suc n; newest = None } } in k)
    (length-map m.cells (cell_read read))

pub open_mark_read : (read : Interpretation) (label : Option ℕ) (m : FlatStack)
    → code.open_mark label (stack_read read m) ≡ stack_read read (flat.open_either label None m)
open_mark_read read label m = open_read read (Mark label false m.registers) m

pub open_limit_read : (read : Interpretation) (label : Option ℕ) (count : ℕ) (m : FlatStack)
    → code.open_limit count (stack_read read m) ≡ stack_read read (flat.open_either label (Some count) m)
open_limit_read read label count m = open_read read (Limit count m.registers) m

relabel_at_read : (read : Interpretation) (label : ℕ) (m : FlatStack) (cell : Option Cell)
    → code.relabel_in label (stack_read read m) (option_map (cell_read read) cell) ≡ option_map (stack_read read) (flat.relabel_at label m cell)
relabel_at_read read label m (Some (Mark old changed registers)) =
    ap (λ (w : List code.Cell). let k : code.Frames = record (stack_read read m) { cells = w } in Some k)
    (set_read read m.registers.mark (Mark (Some label) true registers) m.cells)
relabel_at_read read label m None = refl
relabel_at_read read label m (Some (Base proc locals)) = refl
relabel_at_read read label m (Some (Call proc locals level registers place)) = refl
relabel_at_read read label m (Some (Local value)) = refl
relabel_at_read read label m (Some (Limit count registers)) = refl
relabel_at_read read label m (Some (Suspension why registers place)) = refl
relabel_at_read read label m (Some (Operand item)) = refl

pub relabel_read : (read : Interpretation) (label : ℕ) (m : FlatStack)
    → code.relabel label (stack_read read m) ≡ option_map (stack_read read) (flat.relabel label m)
relabel_read read label m =
    ap (code.relabel_in label (stack_read read m)) (at_read read m.registers.mark m.cells) ∙ relabel_at_read read label m (cell_at m.registers.mark m.cells)

count_at_read : (read : Interpretation) (m : FlatStack) (cell : Option Cell) → IsSome (flat.count_down_at m cell)
    → code.count_in (stack_read read m) (option_map (cell_read read) cell) ≡ option_map (counted_read read) (flat.count_down_at m cell)
count_at_read read m (Some (Limit (suc count) registers)) k =
    ap (λ (w : List code.Cell). let k : code.Frames = record (stack_read read m) { cells = w } in let pair : ℕ × code.Frames = (count, k) in Some pair)
    (set_read read m.registers.mark (Limit count registers) m.cells)
count_at_read read m (Some (Limit zero registers)) k = cc
count_at_read read m None k = cc
count_at_read read m (Some (Base proc locals)) k = cc
count_at_read read m (Some (Call proc locals level registers place)) k = cc
count_at_read read m (Some (Local value)) k = cc
count_at_read read m (Some (Mark label changed registers)) k = cc
count_at_read read m (Some (Suspension why registers place)) k = cc
count_at_read read m (Some (Operand item)) k = cc

-- above 0
pub count_down_read : (read : Interpretation) (m : FlatStack) → IsSome (flat.count_down m)
    → code.count_down (stack_read read m) ≡ option_map (counted_read read) (flat.count_down m)
count_down_read read m k =
    ap (code.count_in (stack_read read m)) (at_read read m.registers.mark m.cells) ∙ count_at_read read m (cell_at m.registers.mark m.cells) k
