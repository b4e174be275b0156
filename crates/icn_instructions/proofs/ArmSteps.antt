-- What an arm of the instructions says of its instruction, said of the instruction that was matched.
use Rattle.std.proofs.Common.{◌≡◌, ◌≢◌, true, false, Option, None, Result, Ok, Err, OnOk, IsOk, refl, sym, ap, ◌∙◌, subst}
use Rattle.icn_value.specs.Store.{Outside}
use Rattle.icn_heap.specs.Extents.{Extent}
use Rattle.icn_vars.specs.declared.world.World.{World}
use Rattle.icn_vars.specs.declared.outcome.Halt.{Halt}
use Rattle.icn_vars.specs.declared.outcome.Halt.TheVariants as Halts
use Rattle.icn_frames.specs.Stacks.{FlatStack}
use Rattle.icn_code.specs.declared.instr.Instr.{Instr}
use Rattle.icn_code.specs.declared.instr.Instr.TheVariants.{Ccase}
use Rattle.icn_code.specs.Codes.{Tables}
use Rattle.icn_run.specs.Stacks.{Frames}
use Rattle.icn_run.specs.Step.{Store, stuck}
use Rattle.icn_control.specs.Machines.{ComesTo, does}
use Rattle.icn_control.specs.declared.machine.Machine.{Machine}
use Rattle.icn_control.specs.declared.machine.RunState.{RunState}
use Rattle.icn_control.specs.Soundness.{UnlessEnded}
use Rattle.icn_control.specs.StackViews.{instruction_state, GoesOn, GoesOnIn}
use Rattle.icn_instructions.specs.InstructionEffects.{ComesIn, DoesAtOnce, HasMemory}
use Rattle.icn_instructions.specs.Groups.{takes_no_memory}
use Rattle.icn_run.specs.InstructionNeeds.{HasCaseMark}

pub on_ok_map : {A E : Type 0} (result : Result A E) (P Q : Type 0) → (P → Q) → OnOk result P → OnOk result Q
on_ok_map (Ok x) P Q f h = f h
on_ok_map (Err e) P Q f h = tt

-- equal instructions lack the same
pub lacks_as : (all : Extent) (tables : Tables) (i j : Instr) (m : FlatStack) (st : Store Frames) → i ≡ j → instruction_state all tables i m st ≢ stuck
    → instruction_state all tables j m st ≢ stuck
lacks_as all tables i j m st e d = λ q. d (ap (λ (x : Instr). instruction_state all tables x m st) e ∙ q)

pub goes_in : (tables : Tables) (i j : Instr) (m n : FlatStack) → i ≡ j → GoesOn j m n → GoesOnIn tables i m n
goes_in tables i j m n e h all st = ap (λ (x : Instr). instruction_state all tables x m st) e ∙ h all tables st

pub goes_as : (tables : Tables) (i j : Instr) (m n : FlatStack) → i ≡ j → GoesOnIn tables j m n → GoesOnIn tables i m n
goes_as tables i j m n e h all st = ap (λ (x : Instr). instruction_state all tables x m st) e ∙ h all st

pub case_as : (i : Instr) (m : Frames) → i ≡ Ccase → HasCaseMark i m → HasCaseMark Ccase m
case_as i m e h = subst (λ (x : Instr). HasCaseMark x m) e h

-- the result of an instruction that may take memory
pub may_take : (i j : Instr) → i ≡ j → takes_no_memory j ≡ false → takes_no_memory i ≡ true → ⊥
may_take i j e f h = cc

pub ok_has_memory : (stage : RunState) → HasMemory (Ok stage)
ok_has_memory stage e = cc

pub unless_both : {A : Type 0} (result : Result A Halt) (P Q R : Type 0) → (P → Q → R) → UnlessEnded result P → UnlessEnded result Q → UnlessEnded result R
unless_both (Ok a) P Q R f h k = f h k
unless_both (Err (Halts.Error number offending)) P Q R f h k = f h k
unless_both (Err (Halts.Ends status)) P Q R f h k = tt
unless_both (Err Halts.ReadFault) P Q R f h k = tt
unless_both (Err Halts.WriteFault) P Q R f h k = tt
unless_both (Err Halts.FileFault) P Q R f h k = tt
unless_both (Err Halts.NoMemory) P Q R f h k = tt

pub error_is_not_ok : (A : Type 0) {E : Type 0} (e : E) → (let r : Result A E = Err e in IsOk r) → ⊥
error_is_not_ok A e h = cc

-- On a stack in a world

pub comes_as : (tables : Tables) (i j : Instr) (w : World) (m : FlatStack) (v : World) (n : FlatStack) (result : Result RunState Halt) → i ≡ j
    → ComesIn tables j w m v n result → ComesIn tables i w m v n result
comes_as tables i j w m v n result e h = subst (λ (x : Instr). ComesIn tables x w m v n result) (sym e) h

-- On a machine

pub comes_to_as : {K : Type 0} (tables : Tables) (outside : Outside) (i j : Instr) (m n : Machine K) (result : Result RunState Halt) → i ≡ j
    → ComesTo tables outside (does tables outside j m) n result → ComesTo tables outside (does tables outside i m) n result
comes_to_as tables outside i j m n result e h = subst (λ (x : Instr). ComesTo tables outside (does tables outside x m) n result) (sym e) h

-- an instruction that is done at once, by its own name
pub does_as : (tables : Tables) (i j : Instr) (w : World) (m : FlatStack) (v : World) (n : FlatStack) (result : Option RunState) → i ≡ j
    → DoesAtOnce tables j w m v n result → DoesAtOnce tables i w m v n result
does_as tables i j w m v n result e d = subst (λ (x : Instr). DoesAtOnce tables x w m v n result) (sym e) d

-- one that was not
pub nothing_done : (tables : Tables) (instr : Instr) (w : World) (m n : FlatStack) → n ≡ m → DoesAtOnce tables instr w m w n None
nothing_done tables instr w m n e = record {
  step = tt;
  live = tt;
  same = record { heap = refl; reach = refl };
  not_done = λ q. (e, refl);
}
