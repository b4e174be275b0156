-- What each instruction touches, and which ones take no memory.
use Rattle.std.specs.Prelude.{Bool, true, false}
use Rattle.icn_text.specs.declared.op.Op.{Op}
use Rattle.icn_text.specs.declared.op.Op.TheVariants as Ops
use Rattle.icn_code.specs.declared.instr.Instr.{Instr}
use Rattle.icn_code.specs.declared.instr.Instr.TheVariants as Instrs
use Rattle.icn_instructions.specs.declared.groups.InstrGroup.{InstrGroup}
use Rattle.icn_instructions.specs.declared.groups.InstrGroup.TheVariants as Groups

-- of the operations, the refreshing of a co-expression is no row
abbrev pub group_of_op : Op → InstrGroup
group_of_op Ops.Refresh = Groups.Coexpression
group_of_op op = Groups.Application

-- what an instruction touches
abbrev pub group_of : Instr → InstrGroup
group_of Instrs.Pnull = Groups.Stack
group_of (Instrs.Int place) = Groups.Stack
group_of (Instrs.Str place) = Groups.World
group_of (Instrs.Cset place) = Groups.Stack
group_of (Instrs.Local place) = Groups.Stack
group_of (Instrs.Static place) = Groups.Stack
group_of (Instrs.Global place) = Groups.Stack
group_of (Instrs.Keywd word) = Groups.Machine
group_of Instrs.Pop = Groups.Stack
group_of Instrs.Dup = Groups.Stack
group_of (Instrs.Op op) = group_of_op op
group_of (Instrs.Llist count) = Groups.Machine
group_of (Instrs.Field place) = Groups.Application
group_of (Instrs.Invoke count) = Groups.Application
group_of Instrs.Appl = Groups.Application
group_of (Instrs.Mark label) = Groups.Stack
group_of Instrs.Mark0 = Groups.Stack
group_of Instrs.Unmark = Groups.Machine
group_of Instrs.Eret = Groups.World
group_of Instrs.Esusp = Groups.Stack
group_of Instrs.Limit = Groups.World
group_of Instrs.Lsusp = Groups.Machine
group_of Instrs.Efail = Groups.Machine
group_of (Instrs.Chfail label) = Groups.Stack
group_of (Instrs.Goto label) = Groups.Stack
group_of (Instrs.Loop label) = Groups.Machine
group_of Instrs.Bscan = Groups.World
group_of Instrs.Escan = Groups.World
group_of Instrs.Ccase = Groups.Stack
group_of (Instrs.Init label) = Groups.Machine
group_of Instrs.Psusp = Groups.World
group_of Instrs.Pret = Groups.World
group_of Instrs.Pfail = Groups.World
group_of (Instrs.Create label) = Groups.Coexpression
group_of Instrs.Coact = Groups.Coexpression
group_of Instrs.Coret = Groups.Coexpression
group_of Instrs.Cofail = Groups.Coexpression

-- the instructions that never lack memory
abbrev pub takes_no_memory : Instr → Bool
takes_no_memory Instrs.Pop = true
takes_no_memory Instrs.Unmark = true
takes_no_memory Instrs.Efail = true
takes_no_memory (Instrs.Chfail label) = true
takes_no_memory (Instrs.Goto label) = true
takes_no_memory (Instrs.Loop label) = true
takes_no_memory (Instrs.Init label) = true
takes_no_memory Instrs.Pfail = true
takes_no_memory Instrs.Cofail = true
takes_no_memory Instrs.Pnull = false
takes_no_memory (Instrs.Int place) = false
takes_no_memory (Instrs.Str place) = false
takes_no_memory (Instrs.Cset place) = false
takes_no_memory (Instrs.Local place) = false
takes_no_memory (Instrs.Static place) = false
takes_no_memory (Instrs.Global place) = false
takes_no_memory (Instrs.Keywd word) = false
takes_no_memory Instrs.Dup = false
takes_no_memory (Instrs.Op op) = false
takes_no_memory (Instrs.Llist count) = false
takes_no_memory (Instrs.Field place) = false
takes_no_memory (Instrs.Invoke count) = false
takes_no_memory Instrs.Appl = false
takes_no_memory (Instrs.Mark label) = false
takes_no_memory Instrs.Mark0 = false
takes_no_memory Instrs.Eret = false
takes_no_memory Instrs.Esusp = false
takes_no_memory Instrs.Limit = false
takes_no_memory Instrs.Lsusp = false
takes_no_memory Instrs.Bscan = false
takes_no_memory Instrs.Escan = false
takes_no_memory Instrs.Ccase = false
takes_no_memory Instrs.Psusp = false
takes_no_memory Instrs.Pret = false
takes_no_memory (Instrs.Create label) = false
takes_no_memory Instrs.Coact = false
takes_no_memory Instrs.Coret = false
