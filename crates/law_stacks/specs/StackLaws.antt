-- What suspending, resuming and dropping a mark do to a flat stack, in the words of goal-directed evaluation.
use Rattle.std.specs.Prelude.{◌≡◌, ℕ, suc, ◌<◌, ◌≤◌, List, ◌∷◌, ◌++◌, length, map, Option, Some}
use Rattle.icn_run.specs.Rows.{Item}
use Rattle.icn_run.specs.Calls.{Pair, Why, Alt, Proc}
use Rattle.icn_run.specs.Stacks.{Cell, call, mark, limit, suspension, operand, Registers, Frames, cut, cell_at, pair_at, oldest, scan_after, push, suspend, suspend_mark, suspend_proc, resume, unmark, flat}
use Rattle.icn_run.specs.Step.{Store, limited_result, running, scans_left}

-- no operand stands on top
abbrev pub IsBare : List Cell → Type 0
IsBare (operand item ∷ cells) = ⊥
IsBare cells = Unit {0}

-- the operands on top of the cells are these and no more: those of the innermost mark, newest first
pub record AreOnTop (items : List Item) (cells : List Cell) : Type 0 where
  pub rest : List Cell
  pub is : cells ≡ map operand items ++ rest
  pub bare : IsBare rest

-- each cell up to a height is as it was
abbrev pub SameUpTo : ℕ → List Cell → List Cell → Type 0
SameUpTo top before after =
    (height : ℕ) → 0 < height → height ≤ top → cell_at height after ≡ cell_at height before

-- the cell of a mark that leads to these registers outside it
abbrev pub IsMarkOn : Registers → Cell → Type 0
IsMarkOn outside (mark label changed registers) = registers ≡ outside
IsMarkOn outside (limit count registers) = registers ≡ outside
IsMarkOn outside cell = ⊥

-- the frame of a procedure whose caller goes on with these registers at this address
abbrev pub IsCallFrom : Registers → ℕ → Cell → Type 0
IsCallFrom outside back (call proc locals level registers address) = (registers ≡ outside) × (address ≡ back)
IsCallFrom outside back cell = ⊥

-- All that stood is as it was. On it are the frame, the operands of the mark that goes on, and the result; that mark's registers are those that it had, but
-- that the frame is its newest suspension, and the code goes on at this address.
pub record SuspendsTo (why : Why) (before : Frames) (outside : Registers) (back : ℕ) (operands : List Item)
    (result : Item)
    (after : Frames) : Type 0 where
  pub below : SameUpTo (length before.cells) before.cells after.cells
  pub frame : cell_at (suc (length before.cells)) after.cells
      ≡ Some (suspension why before.registers before.address)
  pub above : after.cells
      ≡ operand result
      ∷ (map operand operands ++ suspension why before.registers before.address ∷ before.cells)
  pub registers : after.registers ≡ record outside { newest = Some (suc (length before.cells)) }
  pub address : after.address ≡ back

-- the registers of a mark in which a suspension is made: an opened scan is its newest, and one that was left is so no more
abbrev pub registers_within : Why → Frames → Registers
registers_within why m = record m.registers { scan = scan_after why (suc (length m.cells)) m }

-- Suspending in the innermost mark, leaving that mark suspended, and suspending the procedure: the mark that goes on is the innermost one, the one outside
-- it, or that of the caller.
pub record Suspends : Type 0 where
  pub in_mark : (why : Why) (m : Frames) (operands : List Item) (result : Item) → AreOnTop operands m.cells
      → SuspendsTo why m (registers_within why m) m.address operands result (push result (suspend why m))
  pub mark : (m after : Frames) (cell : Cell) (outside : List Cell) (registers : Registers)
      (operands : List Item) (result : Item)
      → suspend_mark m ≡ Some after → cut m.registers.mark m.cells ≡ cell ∷ outside → IsMarkOn registers cell
      → AreOnTop operands outside
      → SuspendsTo Alt m registers m.address operands result (push result after)
  pub proc : (m after : Frames) (cell : Cell) (outside : List Cell) (registers : Registers) (address : ℕ)
      (operands : List Item) (result : Item)
      → suspend_proc m ≡ Some after → cut m.registers.base m.cells ≡ cell ∷ outside
      → IsCallFrom registers address cell
      → AreOnTop operands outside → SuspendsTo Proc m registers address operands result (push result after)

-- The newest suspension of the innermost mark came back: what stood above the start of its frame is gone with the frame, its registers and its address are
-- there again, and each cell below, locals among them, is as it is now.
pub record ResumesTo (before : Frames) (why : Why) (after : Frames) : Type 0 where
  pub height : ℕ
  pub newest : before.registers.newest ≡ Some height
  pub above : List Cell
  pub cells : before.cells ≡ above ++ suspension why after.registers after.address ∷ after.cells
  pub start : height ≤ length before.cells → height ≡ suc (length after.cells)
  pub kept : SameUpTo (length after.cells) before.cells after.cells

-- resuming brings back what was suspended last, and all below it is as it was
abbrev pub Resumes : Type 0
Resumes = (m : Frames) (why : Why) (after : Frames) → resume m ≡ Some (why, after) → ResumesTo m why after

-- The innermost mark is gone with all that stood above it, and what stood below it stands: what is resumed from now on stood below the mark. The pair that
-- it gives is the one which the oldest scan that was opened in the mark, and is still open, has saved.
pub record UnmarksTo (before after : Frames) (pair : Option Pair) : Type 0 where
  pub above : List Cell
  pub marks : Cell
  pub is_mark : IsMarkOn after.registers marks
  pub cells : before.cells ≡ above ++ marks ∷ after.cells
  pub start : before.registers.mark ≤ length before.cells → before.registers.mark ≡ suc (length after.cells)
  pub kept : SameUpTo (length after.cells) before.cells after.cells
  pub address : after.address ≡ before.address
  pub saved : pair ≡ pair_at before.cells (oldest after.registers.scan before)

-- the last result of a limit: the mark of the limit is gone, and the result stands on what was below
pub record EndsLimit (item : Item) (m after : Frames) (pair : Option Pair) (st : Store Frames) : Type 0 where
  pub unmarked : UnmarksTo m after pair
  pub goes_on : limited_result flat item 0 m st ≡ running (push item after) (scans_left pair st)

-- of `unmark`, and of the last result of a limit, which unmarks
pub record Unmarks : Type 0 where
  pub drops : (m after : Frames) (pair : Option Pair) → unmark m ≡ Some (after, pair) → UnmarksTo m after pair
  pub last_result : (item : Item) (m after : Frames) (pair : Option Pair) (st : Store Frames)
      → unmark m ≡ Some (after, pair)
      → EndsLimit item m after pair st
