-- Why a code is refused.
use Rattle.std.specs.Prelude.{◌≡◌, ℕ, ◌<◌, ◌≤◌, ◌^◌, List, length, Some, slice_get}
use Rattle.icn_profile.specs.Numbers.{most_procedures}
use Rattle.icn_code.specs.Codes.{Proc}
use Rattle.icn_verify.specs.declared.fault.VerifyFault.{VerifyFault}
use Rattle.icn_verify.specs.declared.fault.VerifyFault.TheVariants.{V, NoMemory}
use Rattle.icn_verify.specs.ReachingShapes.{AreWithin}
use Rattle.icn_verify.specs.Faults.{IsFirstFault}

-- a rule is the first that is broken; want of memory says nothing
abbrev pub Refuses : List Proc → VerifyFault → Type 0
Refuses procs (V rule proc address) = IsFirstFault procs rule proc address
Refuses procs NoMemory = Unit {0}

-- what the rules of tables say of procedures: their labels are addresses, and their numbers have 32 bits
pub record AreBounded (procs : List Proc) : Type 0 where
  pub few : length procs ≤ most_procedures
  pub short : (number : ℕ) (proc : Proc) → slice_get procs number ≡ Some proc → length proc.instrs < 2 ^ 32
  pub labels : (number : ℕ) (proc : Proc) → slice_get procs number ≡ Some proc → AreWithin proc.instrs
