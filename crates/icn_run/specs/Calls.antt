-- What a step needs of a stack: its calls, whatever it is made of.
use Rattle.std.specs.Prelude.{ℕ, Bool, List, Option}
use Rattle.icn_run.specs.Rows.{Value, Item, Residual}
pub use Rattle.icn_defs.specs.Running.{Pair}

-- why something was suspended: a branch or a limited expression that gave a result, an operation, an open scan with the pair outside it, a scan that
-- was left, or a procedure
pub data Why : Type 0 where
  Alt : Why
  Op : Residual → Why
  Scan : Pair → Why
  Escan : Why
  Proc : Why

-- what is left where the innermost mark is dropped: there was none; its label is gone to; one that was changed is gone to; or it had none
pub data MarkDrop (M : Type 0) : Type 0 where
  NoMark : MarkDrop M
  Goes : M → MarkDrop M
  Repeats : M → MarkDrop M
  Outside : M → MarkDrop M

-- M is the stack that runs, with its address in the code and with what its calls change; K is a stack that waits.
pub record Calls (K M : Type 0) : Type 0 where
  -- the stack alone, to be kept, and one that is taken up
  pub kept : M → K
  pub taken_up : K → M → M
  -- a new stack: its procedure, its locals and its address
  pub begin : ℕ → List Value → ℕ → M → M
  -- the number of the procedure that runs, how deep it is called, whether it has no caller, and its locals
  pub proc : M → ℕ
  pub level : M → ℕ
  pub is_base : M → Bool
  pub locals : M → List Value
  pub set_locals : List Value → M → M
  pub address : M → ℕ
  pub go : ℕ → M → M
  -- operands of the innermost mark
  pub push : Item → M → M
  pub pop : M → Option (Item × M)
  pub take : ℕ → M → Option (List Item × M)
  -- the operand directly below the innermost mark
  pub below : M → Option Item
  -- marks
  pub mark : Option ℕ → M → M
  pub limit : ℕ → M → M
  pub relabel : ℕ → M → Option M
  pub count_down : M → Option (ℕ × M)
  -- the innermost mark is dropped; and the pair that the oldest scan saved that was opened in it and is still open
  pub unmark : M → Option (M × Option Pair)
  pub drop_mark : M → MarkDrop M
  -- suspends in the innermost mark; leaves the innermost mark suspended; suspends the procedure; and each time the mark that goes on has its operands
  pub suspend : Why → M → M
  pub suspend_mark : M → Option M
  pub suspend_proc : M → Option M
  -- the newest suspension of the innermost mark comes back
  pub resume : M → Option (Why × M)
  -- the saved pair of the newest open scan, or of the oldest one of the procedure, is exchanged
  pub swap_newest : Pair → M → Option (Pair × M)
  pub swap_oldest : Pair → M → Option (Pair × M)
  -- a call of a procedure with these locals, and the way back to the caller
  pub enter : ℕ → List Value → M → M
  pub leave : M → Option M
