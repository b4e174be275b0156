-- Why a run ends: each of its steps makes a turn, or leaves less to do before the next turn.
use Rattle.std.specs.Prelude.{◌≡◌, ℕ, suc, ◌+◌, ◌<◌, nat_le, List, [], ◌∷◌, length, Option, Some, if◌then◌else◌}
use Rattle.icn_value.specs.Store.{Outside}
use Rattle.icn_code.specs.Codes.{Tables, Proc}
use Rattle.icn_code.specs.declared.instr.Instr.{Instr}
use Rattle.icn_code.specs.declared.instr.Instr.TheVariants as Instrs
use Rattle.icn_run.specs.FlatStep as Flat
use Rattle.icn_run.specs.Stacks.{Frames, flat}
use Rattle.icn_run.specs.Step.{Launch, State, running, failing, hopping, over, stuck, instruction_at, step}
use Rattle.law_stacks.specs.Measure.{worth, IsEnd}
use Rattle.icn_run.specs.AnyOutside.{over_outside, run_over}
use Rattle.law_safe.specs.LeastWeights.{stack_weight}

-- no procedure has more instructions than all together
abbrev pub instr_count : List Proc → ℕ
instr_count [] = 0
instr_count (proc ∷ procs) = length proc.instrs + instr_count procs

-- what a label is worth that leads back, of a mark that is due; it is so only where failure came back to the mark
abbrev pub backward_worth : ℕ → ℕ → Option Instr → ℕ
backward_worth N address (Some (Instrs.Mark label)) = if nat_le label address then worth N label else 0
backward_worth N address instr = 0

-- what is left to do before the next turn, at most
abbrev pub left_of : Tables → State Frames Frames → ℕ
left_of tables (running m st) = let N = instr_count tables.procs in
    worth N m.address + stack_weight N m + backward_worth N m.address (instruction_at flat tables m)
left_of tables (failing m st) = stack_weight (instr_count tables.procs) m
left_of tables (hopping m st) = 0
left_of tables (over ending outside) = 0
left_of tables stuck = 0

-- how many turns were made
abbrev pub turns_of : State Frames Frames → ℕ
turns_of (running m st) = st.turns
turns_of (failing m st) = st.turns
turns_of (hopping m st) = st.turns
turns_of (over ending outside) = 0
turns_of stuck = 0

-- The run is over; or one more of the turns was made that may be made; or none was, and less is left.
pub data Falls (tables : Tables) (bound : ℕ) (before after : State Frames Frames) : Type 0 where
  ends : IsEnd after → Falls tables bound before after
  turned : turns_of before < bound → turns_of after ≡ suc (turns_of before) → Falls tables bound before after
  lighter : turns_of after ≡ turns_of before → left_of tables after < left_of tables before
      → Falls tables bound before after

-- so it is of each step of a run, whatever the outside is before each
abbrev pub EachStepFalls : Tables → Launch → Type 0
EachStepFalls tables launch = (outsides : List Outside) (outside : Outside)
    → Falls tables launch.bounds.turns
    (over_outside outside (run_over tables outsides (Flat.start tables launch)))
    (step flat tables (over_outside outside (run_over tables outsides (Flat.start tables launch))))
