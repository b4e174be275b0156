-- What an error to which a step came leads to.
use Rattle.std.specs.Prelude.{◌≡◌, false, true, Result, Ok, Err, ⊤}
use Rattle.icn_defs.specs.Errors.{ends_run}
use Rattle.icn_defs.specs.RowFacts.{is_error_number}
use Rattle.icn_vars.specs.declared.outcome.Halt.{Halt}
use Rattle.icn_vars.specs.declared.outcome.Halt.TheVariants as Halts
use Rattle.icn_control.specs.declared.machine.Machine.{Machine}
use Rattle.icn_control.specs.declared.machine.RunState.{RunState}
use Rattle.icn_control.specs.declared.machine.RunState.TheVariants as RunStates

-- An error that becomes failure has the number of one.
abbrev pub IsKnown : {K : Type 0} → Machine K → Halt → Type 0
IsKnown m (Halts.Error number offending) =
    ends_run number m.world.words.error ≡ false → is_error_number number ≡ true
IsKnown m (Halts.Ends status) = ⊤
IsKnown m Halts.ReadFault = ⊤
IsKnown m Halts.WriteFault = ⊤
IsKnown m Halts.FileFault = ⊤
IsKnown m Halts.NoMemory = ⊤

-- The run is over by it and nothing changed; or the code fails, with the same stacks and turns.
abbrev pub OrFails : {K : Type 0} → Machine K → Machine K → Halt → Result RunState Halt → Type 0
OrFails m n halt (Ok RunStates.Failing) = (n.stacks ≡ m.stacks) × (n.turns ≡ m.turns)
OrFails m n halt (Ok RunStates.Running) = ⊥
OrFails m n halt (Ok RunStates.Hopping) = ⊥
OrFails m n halt (Ok RunStates.Over) = ⊥
OrFails m n halt (Ok RunStates.AtBound) = ⊥
OrFails m n halt (Err other) = (n ≡ m) × (other ≡ halt)

-- What is no error stays, and so does the machine then.
abbrev pub SettlesTo : {K : Type 0} → Machine K → Machine K → Result RunState Halt → Result RunState Halt
    → Type 0
SettlesTo m n (Err (Halts.Error number offending)) result = OrFails m n (Halts.Error number offending) result
SettlesTo m n (Err (Halts.Ends status)) result = (n ≡ m) × (result ≡ Err (Halts.Ends status))
SettlesTo m n (Err Halts.ReadFault) result = (n ≡ m) × (result ≡ Err Halts.ReadFault)
SettlesTo m n (Err Halts.WriteFault) result = (n ≡ m) × (result ≡ Err Halts.WriteFault)
SettlesTo m n (Err Halts.FileFault) result = (n ≡ m) × (result ≡ Err Halts.FileFault)
SettlesTo m n (Err Halts.NoMemory) result = (n ≡ m) × (result ≡ Err Halts.NoMemory)
SettlesTo m n (Ok stage) result = (n ≡ m) × (result ≡ Ok stage)
