-- How both outputs are settled once a run has stopped.
use Rattle.std.specs.Prelude.{Bool, true, false, Result, Ok, Err}
use Rattle.icn_vars.specs.declared.outcome.Halt.{Halt}
use Rattle.icn_vars.specs.declared.outcome.Halt.TheVariants as Halts
use Rattle.icn_streams.specs.Handed.{CallStreams, LeavesStreams, WantsMemory, WritingFails}
use Rattle.icn_streams.specs.Settling.{HoldsBoth}
use Rattle.icn_running.specs.declared.fault.RunFault.{RunFault}
use Rattle.icn_running.specs.declared.fault.RunFault.TheVariants.{ReadFault, WriteFault, FileFault, NoMemory}

-- whether a fault or want of memory has broken a run off
abbrev pub is_broken : {A : Type 0} → Result A Halt → Bool
is_broken (Ok stepped) = false
is_broken (Err (Halts.Error number offending)) = false
is_broken (Err (Halts.Ends status)) = false
is_broken (Err Halts.ReadFault) = true
is_broken (Err Halts.WriteFault) = true
is_broken (Err Halts.FileFault) = true
is_broken (Err Halts.NoMemory) = true

-- both outputs were settled; or one of them failed or wanted memory, once, and both hold what they held
abbrev pub SettlesRun : {A : Type 0} → CallStreams → CallStreams → Result A RunFault → Type 0
SettlesRun before after (Ok done) = LeavesStreams before after
SettlesRun before after (Err ReadFault) = ⊥
SettlesRun before after (Err WriteFault) = HoldsBoth before after × WritingFails before after
SettlesRun before after (Err FileFault) = ⊥
SettlesRun before after (Err NoMemory) = HoldsBoth before after × WantsMemory before after
