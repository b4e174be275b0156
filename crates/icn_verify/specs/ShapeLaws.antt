-- Laws of the shapes and of the first fault.
use Rattle.std.specs.Prelude.{◌≡◌, ◌⊎◌, ℕ, Bool, true, false, List}
use Rattle.icn_tree.specs.declared.rule.Rule.{Rule}
use Rattle.icn_tree.specs.declared.rule.Rule.TheVariants.{V2}
use Rattle.icn_code.specs.declared.instr.Instr.{Instr}
use Rattle.icn_code.specs.Codes.{Proc, Tables}
use Rattle.icn_code.specs.Rules.{keeps_rules}
use Rattle.icn_verify.specs.Shapes.{PlainShape, start_shape}
use Rattle.icn_verify.specs.ReachingShapes.{Reaches, Carries}
use Rattle.icn_verify.specs.Faults.{Breaks, AreSound, IsFirstFault, IsVerified}
use Rattle.icn_verify.specs.Given.{HaveShapes}

-- at most one shape reaches an address where two shapes or a missing one break no rule
abbrev pub HaveOneShape : Type 0
HaveOneShape = (instrs : List Instr) (address : ℕ) → (Breaks instrs address V2 → ⊥) → (one other : PlainShape)
    → Reaches instrs address one → Reaches instrs address other → one ≡ other

-- shapes hold at the start, and are carried on
pub record AreClosed (instrs : List Instr) (holds : ℕ → PlainShape → Bool) : Type 0 where
  pub start : holds 0 (start_shape false) ≡ true
  pub on : (address : ℕ) (shape : PlainShape) (to : ℕ) (carried : PlainShape) → holds address shape ≡ true
      → Carries instrs address shape to carried → holds to carried ≡ true

-- the shapes that reach are the least such
abbrev pub AreLeast : Type 0
AreLeast = (instrs : List Instr) (holds : ℕ → PlainShape → Bool) → AreClosed instrs holds
    → (address : ℕ) (shape : PlainShape) → Reaches instrs address shape → holds address shape ≡ true

-- procedures have at most one first fault
pub record IsSameFault (rule : Rule) (number address : ℕ) (rule' : Rule) (number' address' : ℕ) : Type 0 where
  pub rules : rule ≡ rule'
  pub numbers : number ≡ number'
  pub addresses : address ≡ address'

-- procedures have at most one first fault
abbrev pub HaveOneFault : Type 0
HaveOneFault = (procs : List Proc) (rule : Rule) (number address : ℕ) (rule' : Rule) (number' address' : ℕ)
    → IsFirstFault procs rule number address → IsFirstFault procs rule' number' address'
    → IsSameFault rule number address rule' number' address'

-- and sound ones have none
abbrev pub HaveNoFault : Type 0
HaveNoFault = (procs : List Proc) (rule : Rule) (number address : ℕ) → AreSound procs
    → IsFirstFault procs rule number address → ⊥

-- procedures break no rule, or one of them is the first that they break, at one address of one of them
abbrev pub IsSoundOrBroken : List Proc → Type 0
IsSoundOrBroken procs =
    AreSound procs ⊎ ((rule : Rule) × (number : ℕ) × (address : ℕ) × IsFirstFault procs rule number address)

-- the tables of a code do so
abbrev pub AreSoundOrBroken : Type 0
AreSoundOrBroken = (tables : Tables) → keeps_rules tables ≡ true → IsSoundOrBroken tables.procs

-- verified code has shapes, in the words of a machine that runs it
abbrev pub GiveShapes : Type 0
GiveShapes = (tables : Tables) → keeps_rules tables ≡ true → IsVerified tables → HaveShapes tables
