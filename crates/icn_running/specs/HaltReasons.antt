-- Why a run has come to nothing more.
use Rattle.std.specs.Prelude.{IfSome, Some, None, ⊤}
use Rattle.icn_heap.specs.Extents.{Extent, IsLive}
use Rattle.icn_vars.specs.declared.outcome.Halt.{Halt}
use Rattle.icn_vars.specs.declared.outcome.Halt.TheVariants as Halts

-- an error is about a value of this heap, if it is about one
abbrev pub IsAboutLive : Extent → Halt → Type 0
IsAboutLive all (Halts.Error number offending) = IfSome offending (IsLive all)
IsAboutLive all (Halts.Ends status) = ⊤
IsAboutLive all Halts.ReadFault = ⊤
IsAboutLive all Halts.WriteFault = ⊤
IsAboutLive all Halts.FileFault = ⊤
IsAboutLive all Halts.NoMemory = ⊤

-- A run is over before its first instruction: by an error that is about no value, or for want of memory.
abbrev pub IsUnbegun : Halt → Type 0
IsUnbegun (Halts.Error number None) = ⊤
IsUnbegun (Halts.Error number (Some offending)) = ⊥
IsUnbegun (Halts.Ends status) = ⊥
IsUnbegun Halts.ReadFault = ⊥
IsUnbegun Halts.WriteFault = ⊥
IsUnbegun Halts.FileFault = ⊥
IsUnbegun Halts.NoMemory = ⊤
