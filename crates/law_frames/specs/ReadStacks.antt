-- What the stack of a machine stands for, once what its cells hold is read: the stack of the definitions.
use Rattle.std.specs.Prelude.{ℕ, map, Option, Some, None}
use Rattle.icn_value.specs.declared.val.Val.{Val}
use Rattle.icn_value.specs.declared.item.Item.{Item}
use Rattle.icn_value.specs.declared.item.Pair.{Pair}
use Rattle.icn_value.specs.declared.residual.Residual.{Residual}
use Rattle.icn_frames.specs.declared.layout.Why.{Why}
use Rattle.icn_frames.specs.declared.layout.Why.TheVariants.{Alt, Op, Scan, Escan, Proc}
use Rattle.icn_frames.specs.declared.layout.Registers.{Registers}
use Rattle.icn_frames.specs.declared.layout.Cell.{Cell}
use Rattle.icn_frames.specs.declared.layout.Cell.TheVariants.{Base, Call, Local, Mark, Limit, Suspension, Operand}
use Rattle.icn_frames.specs.Stacks.{FlatStack}
use Rattle.icn_run.specs.Rows as rows
use Rattle.icn_run.specs.Calls as calls
use Rattle.icn_run.specs.Stacks as code

-- What a machine's values, items, residuals and pairs stand for. A heap gives one, since it has the bytes of their texts.
pub record Interpretation : Type 0 where
  pub value : Val → rows.Value
  pub item : Item → rows.Item
  pub residual : Residual → rows.Residual
  pub pair : Pair → calls.Pair

-- what a suspension is for, once its residual or its pair is read
abbrev pub why_read : Interpretation → Why → calls.Why
why_read read Alt = calls.Alt
why_read read (Op residual) = calls.Op (read.residual residual)
why_read read (Scan pair) = calls.Scan (read.pair pair)
why_read read Escan = calls.Escan
why_read read Proc = calls.Proc

-- the registers, which are heights on both sides
abbrev pub registers_read : Registers → code.Registers
registers_read r = record { base = r.base; mark = r.mark; newest = r.newest; scan = r.scan }

-- a cell, once what it holds is read
abbrev pub cell_read : Interpretation → Cell → code.Cell
cell_read read (Base proc locals) = code.base proc locals
cell_read read (Call proc locals level registers address) =
    code.call proc locals level (registers_read registers) address
cell_read read (Local value) = code.local (read.value value)
cell_read read (Mark label changed registers) = code.mark label changed (registers_read registers)
cell_read read (Limit count registers) = code.limit count (registers_read registers)
cell_read read (Suspension why registers address) =
    code.suspension (why_read read why) (registers_read registers) address
cell_read read (Operand item) = code.operand (read.item item)

-- the stack that a machine's stack stands for
abbrev pub stack_read : Interpretation → FlatStack → code.Frames
stack_read read m =
    record {
      cells = map (cell_read read) m.cells;
      registers = registers_read m.registers;
      address = m.address;
    }

-- what a call gives beside the stack
abbrev pub popped_read : Interpretation → Item × FlatStack → rows.Item × code.Frames
popped_read read pair = (read.item pair.0, stack_read read pair.1)

-- what a suspension was for, and the stack without it, once both are read
abbrev pub resumed_read : Interpretation → Why × FlatStack → calls.Why × code.Frames
resumed_read read pair = (why_read read pair.0, stack_read read pair.1)

-- the pair that was kept, and the stack, once both are read
abbrev pub swapped_read : Interpretation → Pair × FlatStack → calls.Pair × code.Frames
swapped_read read pair = (read.pair pair.0, stack_read read pair.1)

-- a pair, if there is one, once it is read
abbrev pub maybe_pair_read : Interpretation → Option Pair → Option calls.Pair
maybe_pair_read read None = None
maybe_pair_read read (Some pair) = Some (read.pair pair)

-- the stack without its innermost mark, and the pair that the oldest scan in it saved, once both are read
abbrev pub unmarked_read : Interpretation → FlatStack × Option Pair → code.Frames × Option calls.Pair
unmarked_read read pair = (stack_read read pair.0, maybe_pair_read read pair.1)

-- a count, and the stack, once it is read
abbrev pub counted_read : Interpretation → ℕ × FlatStack → ℕ × code.Frames
counted_read read pair = (pair.0, stack_read read pair.1)
