-- The flat stack of one co-expression: typed cells, and registers that are heights in it.
use Rattle.std.specs.Prelude.{ℕ, zero, suc, pred, ◌+◌, ◌-◌, ◌==◌, Bool, true, false, List, [], ◌∷◌, length, drop, slice_get, slice_set, Option, Some, None}
use Rattle.std.specs.Option.{option_and_then}
use Rattle.icn_run.specs.Rows.{Value, Item}
use Rattle.icn_run.specs.Calls.{Pair, Why, Alt, Scan, Escan, Proc, MarkDrop, NoMark, Goes, Repeats, Outside, Calls}

-- A height counts the cells up to one, which stands there: the lowest has the height 1. The procedure's frame counts as its outermost mark.
pub record Registers : Type 0 where
  -- the frame of the procedure that runs
  pub base : ℕ
  -- the innermost mark
  pub mark : ℕ
  -- the newest suspension of that mark
  pub newest : Option ℕ
  -- the frame of the newest open scan of the procedure, which leads to the older ones
  pub scan : Option ℕ

-- A frame knows its procedure and how many locals stand above it; a procedure frame besides its level, and the registers and the address of the caller.
-- A mark keeps the registers outside, a suspension frame those that come back with their address. A label that chfail set is marked as changed.
pub data Cell : Type 0 where
  base : (proc locals : ℕ) → Cell
  call : (proc locals level : ℕ) → Registers → ℕ → Cell
  local : Value → Cell
  mark : Option ℕ → Bool → Registers → Cell
  limit : ℕ → Registers → Cell
  suspension : Why → Registers → ℕ → Cell
  operand : Item → Cell

-- the cells with the newest first
pub record Frames : Type 0 where
  pub cells : List Cell
  pub registers : Registers
  pub address : ℕ

-- the lowest cells, up to a height
abbrev pub cut : ℕ → List Cell → List Cell
cut height cells = drop (length cells - height) cells

-- the cell at a height, from 1 at the bottom
abbrev pub cell_at : ℕ → List Cell → Option Cell
cell_at height cells = slice_get cells (length cells - height)

-- another cell at a height
abbrev pub set_cell : ℕ → Cell → List Cell → List Cell
set_cell height cell cells = slice_set cells (length cells - height) cell

-- locals above some cells, the first one lowest
abbrev pub put_above : List Value → List Cell → List Cell
put_above [] cells = cells
put_above (value ∷ values) cells = put_above values (local value ∷ cells)

-- a new stack
abbrev pub begin : ℕ → List Value → ℕ → Frames → Frames
begin proc values address m =
    record {
      cells = put_above values (base proc (length values) ∷ []);
      registers = record { base = 1; mark = 1; newest = None; scan = None };
      address = address;
    }

-- the procedure

-- the frame of the procedure that runs
abbrev pub frame : Frames → Option Cell
frame m = cell_at m.registers.base m.cells

-- the procedure of a frame
abbrev pub proc_of : Option Cell → ℕ
proc_of (Some (base proc locals)) = proc
proc_of (Some (call proc locals level registers address)) = proc
proc_of cell = 0

-- how deep the procedure of a frame is called
abbrev pub level_of : Option Cell → ℕ
level_of (Some (call proc locals level registers address)) = level
level_of cell = 1

-- how many locals a frame has
abbrev pub locals_of : Option Cell → ℕ
locals_of (Some (base proc locals)) = locals
locals_of (Some (call proc locals level registers address)) = locals
locals_of cell = 0

-- the frame has no caller
abbrev pub is_base_cell : Option Cell → Bool
is_base_cell (Some (base proc locals)) = true
is_base_cell cell = false

-- the number of the procedure that runs
abbrev pub proc : Frames → ℕ
proc m = proc_of (frame m)

-- how deep it is called
abbrev pub level : Frames → ℕ
level m = level_of (frame m)

-- the procedure that runs has no caller
abbrev pub is_base : Frames → Bool
is_base m = is_base_cell (frame m)

-- so many locals from the top down, in front of others
abbrev pub locals_down : ℕ → List Cell → List Value → List Value
locals_down zero cells values = values
locals_down (suc n) (local value ∷ cells) values = locals_down n cells (value ∷ values)
locals_down (suc n) cells values = values

-- the locals of the procedure that runs
abbrev pub locals : Frames → List Value
locals m = let count = locals_of (frame m) in locals_down count (cut (m.registers.base + count) m.cells) []

-- another value of the local at a height
abbrev pub set_local : ℕ → Value → List Cell → Option Cell → List Cell
set_local height value cells (Some (local old)) = set_cell height (local value) cells
set_local height value cells cell = cells

-- the locals above a height, from the lowest on
abbrev pub set_from : ℕ → List Value → List Cell → List Cell
set_from height [] cells = cells
set_from height (value ∷ values) cells =
    set_from (suc height) values (set_local (suc height) value cells (cell_at (suc height) cells))

-- the procedure that runs has other locals
abbrev pub set_locals : List Value → Frames → Frames
set_locals values m = record m { cells = set_from m.registers.base values m.cells }

-- the code goes on at this address
abbrev pub go : ℕ → Frames → Frames
go address m = record m { address = address }

-- operands

-- an operand is pushed
abbrev pub push : Item → Frames → Frames
push item m = record m { cells = operand item ∷ m.cells }

-- the operand on top, if there is one, and what is left
abbrev pub pop_from : Frames → List Cell → Option (Item × Frames)
pop_from m (operand item ∷ cells) = Some (item, record m { cells = cells })
pop_from m cells = None

-- the operand on top, if there is one, and what is left
abbrev pub pop : Frames → Option (Item × Frames)
pop m = pop_from m m.cells

-- so many operands from the top down, in front of others
abbrev pub take_top : ℕ → Frames → List Cell → List Item → Option (List Item × Frames)
take_top zero m cells items = Some (items, record m { cells = cells })
take_top (suc n) m (operand item ∷ cells) items = take_top n m cells (item ∷ items)
take_top (suc n) m cells items = None

-- so many operands from the top, if there are as many, and what is left
abbrev pub take : ℕ → Frames → Option (List Item × Frames)
take n m = take_top n m m.cells []

-- the operands on top of some cells are copied onto others
abbrev pub copy_up : List Cell → List Cell → List Cell
copy_up (operand item ∷ cells) onto = operand item ∷ copy_up cells onto
copy_up cells onto = onto

-- marks

-- a mark's cell on top, which is the innermost mark then
abbrev pub push_mark : Cell → Frames → Frames
push_mark cell m = record m {
  cells = cell ∷ m.cells;
  registers = record m.registers { mark = suc (length m.cells); newest = None };
}

-- a mark is opened with this label, or without one
abbrev pub open_mark : Option ℕ → Frames → Frames
open_mark label m = push_mark (mark label false m.registers) m

-- a mark that counts results down is opened
abbrev pub open_limit : ℕ → Frames → Frames
open_limit count m = push_mark (limit count m.registers) m

-- the operand directly below the cell on top, if there is one
abbrev pub below_in : List Cell → Option Item
below_in (cell ∷ operand item ∷ cells) = Some item
below_in cells = None

-- the operand directly below the innermost mark
abbrev pub below : Frames → Option Item
below m = below_in (cut m.registers.mark m.cells)

-- the innermost mark gets another label, where it is a mark
abbrev pub relabel_in : ℕ → Frames → Option Cell → Option Frames
relabel_in label m (Some (mark old changed registers)) =
    Some (record m { cells = set_cell m.registers.mark (mark (Some label) true registers) m.cells })
relabel_in label m cell = None

-- the innermost mark gets another label
abbrev pub relabel : ℕ → Frames → Option Frames
relabel label m = relabel_in label m (cell_at m.registers.mark m.cells)

-- one result of a limit is counted, where the innermost mark is one
abbrev pub count_in : Frames → Option Cell → Option (ℕ × Frames)
count_in m (Some (limit count registers)) =
    Some (pred count, record m { cells = set_cell m.registers.mark (limit (pred count) registers) m.cells })
count_in m cell = None

-- one result of the innermost mark, which is a limit, is counted
abbrev pub count_down : Frames → Option (ℕ × Frames)
count_down m = count_in m (cell_at m.registers.mark m.cells)

-- open scans

-- the pair that a scan's suspension saved
abbrev pub pair_of : Option Cell → Option Pair
pair_of (Some (suspension (Scan pair) registers address)) = Some pair
pair_of cell = None

-- the open scan that was the newest before this one
abbrev pub scan_of : Option Cell → Option ℕ
scan_of (Some (suspension why registers address)) = registers.scan
scan_of cell = None

-- the pair that the scan at a height saved, if one is given
abbrev pub pair_at : List Cell → Option ℕ → Option Pair
pair_at cells None = None
pair_at cells (Some height) = pair_of (cell_at height cells)

-- the open scan before the one at a height
abbrev pub older_scan : List Cell → Option ℕ → Option ℕ
older_scan cells None = None
older_scan cells (Some height) = scan_of (cell_at height cells)

-- two heights are the same, or both missing
abbrev pub is_same : Option ℕ → Option ℕ → Bool
is_same None None = true
is_same (Some m) (Some n) = m == n
is_same m n = false

-- from an open scan through older ones to the last before a given one; there are at most so many
abbrev pub oldest_from : ℕ → List Cell → Option ℕ → Option ℕ → Option ℕ
oldest_from zero cells until scan = scan
oldest_from (suc n) cells until scan = elim (is_same (older_scan cells scan) until) as (λ x. Option ℕ)
    [ true ↦ scan | false ↦ oldest_from n cells until (older_scan cells scan) ]

-- the oldest scan that is open and was opened after a given one
abbrev pub oldest : Option ℕ → Frames → Option ℕ
oldest until m = elim (is_same m.registers.scan until) as (λ x. Option ℕ)
    [ true ↦ None | false ↦ oldest_from (length m.cells) m.cells until m.registers.scan ]

-- the saved pair of a scan is exchanged
abbrev pub with_pair : Pair → ℕ → Frames → Option Cell → Option (Pair × Frames)
with_pair pair height m (Some (suspension (Scan old) registers address)) =
    Some (old, record m { cells = set_cell height (suspension (Scan pair) registers address) m.cells })
with_pair pair height m cell = None

-- the saved pair of the scan at a height is exchanged, if one is given
abbrev pub swap_at : Pair → Frames → Option ℕ → Option (Pair × Frames)
swap_at pair m None = None
swap_at pair m (Some height) = with_pair pair height m (cell_at height m.cells)

-- the saved pair of the newest open scan is exchanged
abbrev pub swap_newest : Pair → Frames → Option (Pair × Frames)
swap_newest pair m = swap_at pair m m.registers.scan

-- the saved pair of the procedure's oldest open scan is exchanged
abbrev pub swap_oldest : Pair → Frames → Option (Pair × Frames)
swap_oldest pair m = swap_at pair m (oldest None m)

-- dropping a mark

-- from the mark's cell downward
abbrev pub unmark_in : Frames → List Cell → Option (Frames × Option Pair)
unmark_in m (mark label changed registers ∷ cells) =
    Some (record m { cells = cells; registers = registers }, pair_at m.cells (oldest registers.scan m))
unmark_in m (limit count registers ∷ cells) =
    Some (record m { cells = cells; registers = registers }, pair_at m.cells (oldest registers.scan m))
unmark_in m cells = None

-- the innermost mark is dropped with all that it suspended
abbrev pub unmark : Frames → Option (Frames × Option Pair)
unmark m = unmark_in m (cut m.registers.mark m.cells)

-- where failing goes on once the mark on top is dropped
abbrev pub drop_from : Frames → List Cell → MarkDrop Frames
drop_from m (mark (Some label) false registers ∷ cells) =
    Goes (record { cells = cells; registers = registers; address = label })
drop_from m (mark (Some label) true registers ∷ cells) =
    Repeats (record { cells = cells; registers = registers; address = label })
drop_from m (mark None changed registers ∷ cells) =
    Outside (record m { cells = cells; registers = registers })
drop_from m (limit count registers ∷ cells) = Outside (record m { cells = cells; registers = registers })
drop_from m cells = NoMark

-- where failing goes on once the innermost mark is dropped
abbrev pub drop_mark : Frames → MarkDrop Frames
drop_mark m = drop_from m (cut m.registers.mark m.cells)

-- suspending

-- the open scan that is the newest after a suspension at this height
abbrev pub scan_after : Why → ℕ → Frames → Option ℕ
scan_after (Scan pair) height m = Some height
scan_after Escan height m = older_scan m.cells m.registers.scan
scan_after why height m = m.registers.scan

-- something is suspended in the innermost mark, whose operands are copied above it
abbrev pub suspend : Why → Frames → Frames
suspend why m = let height = suc (length m.cells) in record m {
  cells = copy_up m.cells (suspension why m.registers m.address ∷ m.cells);
  registers = record m.registers { newest = Some height; scan = scan_after why height m };
}

-- a suspension frame on all that stands, then the operands on top of some lower cells, with the registers of these
abbrev pub suspended_onto : Why → Frames → List Cell → Registers → ℕ → Frames
suspended_onto why m cells registers address =
    record {
      cells = copy_up cells (suspension why m.registers m.address ∷ m.cells);
      registers = record registers { newest = Some (suc (length m.cells)) };
      address = address;
    }

-- from the mark's cell downward
abbrev pub mark_suspended : Frames → List Cell → Option Frames
mark_suspended m (mark label changed registers ∷ cells) =
    Some (suspended_onto Alt m cells registers m.address)
mark_suspended m (limit count registers ∷ cells) = Some (suspended_onto Alt m cells registers m.address)
mark_suspended m cells = None

-- the innermost mark is left suspended in the one outside
abbrev pub suspend_mark : Frames → Option Frames
suspend_mark m = mark_suspended m (cut m.registers.mark m.cells)

-- from the procedure's frame downward
abbrev pub proc_suspended : Frames → List Cell → Option Frames
proc_suspended m (call proc locals level registers address ∷ cells) =
    Some (suspended_onto Proc m cells registers address)
proc_suspended m cells = None

-- the procedure is left suspended in its caller
abbrev pub suspend_proc : Frames → Option Frames
suspend_proc m = proc_suspended m (cut m.registers.base m.cells)

-- from the suspension frame downward
abbrev pub resume_from : List Cell → Option (Why × Frames)
resume_from (suspension why registers address ∷ cells) =
    Some (why, record { cells = cells; registers = registers; address = address })
resume_from cells = None

-- the newest suspension of the innermost mark comes back
abbrev pub resume : Frames → Option (Why × Frames)
resume m = option_and_then (λ height. resume_from (cut height m.cells)) m.registers.newest

-- calls

-- a procedure is entered, with the way back to its caller
abbrev pub enter : ℕ → List Value → Frames → Frames
enter proc values m = let height = suc (length m.cells) in record {
  cells = put_above values (call proc (length values) (suc (level m)) m.registers m.address ∷ m.cells);
  registers = record { base = height; mark = height; newest = None; scan = None };
  address = 0;
}

-- from the procedure's frame downward
abbrev pub leave_from : List Cell → Option Frames
leave_from (call proc locals level registers address ∷ cells) =
    Some (record { cells = cells; registers = registers; address = address })
leave_from cells = None

-- the procedure ends and its caller goes on
abbrev pub leave : Frames → Option Frames
leave m = leave_from (cut m.registers.base m.cells)

-- no stack yet
abbrev pub empty : Frames
empty =
    record { cells = []; registers = record { base = 0; mark = 0; newest = None; scan = None }; address = 0 }

-- the calls of a stack, as a flat stack answers them
abbrev pub flat : Calls Frames Frames
flat = record {
  kept = λ m. m;
  taken_up = λ k m. k;
  begin = begin;
  proc = proc;
  level = level;
  is_base = is_base;
  locals = locals;
  set_locals = set_locals;
  address = λ m. m.address;
  go = go;
  push = push;
  pop = pop;
  take = take;
  below = below;
  mark = open_mark;
  limit = open_limit;
  relabel = relabel;
  count_down = count_down;
  unmark = unmark;
  drop_mark = drop_mark;
  suspend = suspend;
  suspend_mark = suspend_mark;
  suspend_proc = suspend_proc;
  resume = resume;
  swap_newest = swap_newest;
  swap_oldest = swap_oldest;
  enter = enter;
  leave = leave;
}
