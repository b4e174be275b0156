-- What a machine's stacks stand for: those of a state of the run of its code.
use Rattle.std.specs.Prelude.{◌≡◌, ℕ, Option, None, Some}
use Rattle.icn_value.specs.declared.item.Pair.{Pair as HeldPair}
use Rattle.icn_heap.specs.Extents.{Extent, text_in, value_in}
use Rattle.icn_vars.specs.Outcomes.{residual_in}
use Rattle.icn_vars.specs.Worlds.{item_in}
use Rattle.icn_frames.specs.Stacks.{FlatStack}
use Rattle.law_frames.specs.ReadStacks.{Interpretation, stack_read, maybe_pair_read}
use Rattle.icn_code.specs.declared.instr.Instr.{Instr}
use Rattle.icn_code.specs.declared.instr.Instr.TheVariants.{Mark, Mark0}
use Rattle.icn_code.specs.Codes.{Tables}
use Rattle.icn_run.specs.Calls.{Pair}
use Rattle.icn_run.specs.Stacks.{Frames, flat}
use Rattle.icn_run.specs.Step.{State, Store, running, instruction, scans_left}

-- what a saved pair stands for
abbrev pub pair_in : Extent → HeldPair → Pair
pair_in all pair = record { subject = text_in all pair.subject; position = pair.position }

-- what the cells of a stack stand for, by the texts of a heap
abbrev pub reading_of : Extent → Interpretation
reading_of all =
    record { value = value_in all; item = item_in all; residual = residual_in all; pair = pair_in all }

-- the stack that a machine's stack stands for
abbrev pub stack_in : Extent → FlatStack → Frames
stack_in all m = stack_read (reading_of all) m

-- the pair that comes back, if one does
abbrev pub maybe_pair_in : Extent → Option HeldPair → Option Pair
maybe_pair_in all pair = maybe_pair_read (reading_of all) pair

-- what an instruction comes to on this stack
abbrev pub instruction_state : Extent → Tables → Instr → FlatStack → Store Frames → State Frames Frames
instruction_state all tables instr m st = instruction flat tables instr (stack_in all m) st

-- The instruction goes on with another stack and changes nothing else, in these tables, or in any.

-- the instruction goes on with another stack, in these tables
abbrev pub GoesOnIn : Tables → Instr → FlatStack → FlatStack → Type 0
GoesOnIn tables instr m n =
    (all : Extent) (st : Store Frames) → instruction_state all tables instr m st ≡ running (stack_in all n) st

-- the instruction goes on with another stack, in any tables
abbrev pub GoesOn : Instr → FlatStack → FlatStack → Type 0
GoesOn instr m n = (all : Extent) (tables : Tables) (st : Store Frames)
    → instruction_state all tables instr m st ≡ running (stack_in all n) st

-- It goes on with another stack, and the pair comes back that was saved, if one was.
abbrev pub GoesOnLeaving : Instr → FlatStack → Option HeldPair → FlatStack → Type 0
GoesOnLeaving instr m pair n =
    (all : Extent) (tables : Tables) (st : Store Frames) → instruction_state all tables instr m st
    ≡ running (stack_in all n) (scans_left (maybe_pair_in all pair) st)

-- the instruction that opens a plain mark with this label, or without one
abbrev pub mark_of : Option ℕ → Instr
mark_of (Some label) = Mark label
mark_of None = Mark0
