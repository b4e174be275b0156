-- The rules of verified code, and the first that a code breaks.
use Rattle.std.specs.Prelude.{◌≡◌, ◌≢◌, ℕ, ◌<◌, ◌≤◌, false, true, ◌⊎◌, List, length, Some, slice_get}
use Rattle.icn_tree.specs.declared.rule.Rule.{Rule}
use Rattle.icn_tree.specs.declared.rule.Rule.TheVariants.{V1, V2, V3, V4, V5}
use Rattle.icn_code.specs.declared.instr.Instr.{Instr}
use Rattle.icn_code.specs.Codes.{Proc, Tables}
use Rattle.icn_verify.specs.Shapes.{PlainShape, look_of}
use Rattle.icn_verify.specs.Rows.{row_of, lacks, meets, back, strays}
use Rattle.icn_verify.specs.ReachingShapes.{Reaches}

module _ (instrs : List Instr) (address : ℕ) where
  -- this instruction stands at the address, and this shape reaches it
  pub record IsMet (instr : Instr) (shape : PlainShape) : Type 0 where
    pub stands : slice_get instrs address ≡ Some instr
    pub reaches : Reaches instrs address shape

  -- an operand is missing
  pub record LacksOperand : Type 0 where
    pub instr : Instr
    pub shape : PlainShape
    pub met : IsMet instr shape
    pub lacking : lacks instr shape ≡ true

  -- two shapes reach the address
  pub record HasTwoShapes : Type 0 where
    pub one : PlainShape
    pub other : PlainShape
    pub reaches : Reaches instrs address one
    pub reaches_too : Reaches instrs address other
    pub differ : one ≢ other

  -- a label leads back to an address that the wanted shape doesn't reach
  pub record LacksShape : Type 0 where
    pub instr : Instr
    pub shape : PlainShape
    pub met : IsMet instr shape
    pub label : ℕ
    pub wanted : PlainShape
    pub leads : back instr shape ≡ Some (label, wanted)
    pub earlier : label ≤ address
    pub absent : Reaches instrs label wanted → ⊥

  -- a label lies in the wrong direction
  pub record Strays : Type 0 where
    pub instr : Instr
    pub shape : PlainShape
    pub met : IsMet instr shape
    pub straying : strays instr address ≡ true

  -- what an instruction asks for isn't there
  pub record LacksWhatItAsks : Type 0 where
    pub instr : Instr
    pub shape : PlainShape
    pub met : IsMet instr shape
    pub unmet : meets (row_of instr).asks (look_of shape) ≡ false

  -- the end of the code is reached
  pub record EndIsReached : Type 0 where
    pub shape : PlainShape
    pub reaches : Reaches instrs address shape
    pub ends : address ≡ length instrs

  -- this rule is broken at the address
  abbrev pub Breaks : Rule → Type 0
  Breaks V1 = LacksOperand
  Breaks V2 = HasTwoShapes ⊎ LacksShape
  Breaks V3 = Strays
  Breaks V4 = LacksWhatItAsks
  Breaks V5 = EndIsReached
  Breaks _ = ⊥

-- the number of a rule of verified code
abbrev pub number_of : Rule → ℕ
number_of V1 = 1
number_of V2 = 2
number_of V3 = 3
number_of V4 = 4
number_of V5 = 5
number_of _ = 0

-- the rule is broken at the address of these instructions, and none before it
pub record IsFirstOf (instrs : List Instr) (rule : Rule) (address : ℕ) : Type 0 where
  pub breaks : Breaks instrs address rule
  pub first : (address' : ℕ) (rule' : Rule) → Breaks instrs address' rule'
      → (address' < address) ⊎ ((address' ≡ address) × (number_of rule' < number_of rule)) → ⊥

-- no rule is broken at any address of these instructions
abbrev pub IsSound : List Instr → Type 0
IsSound instrs = (address : ℕ) (rule : Rule) → Breaks instrs address rule → ⊥

-- the same of each procedure
abbrev pub AreSound : List Proc → Type 0
AreSound procs = (number : ℕ) (proc : Proc) → slice_get procs number ≡ Some proc → IsSound proc.instrs

-- no rule is broken at any address of any procedure: every reached address has one shape, and its instruction fits
abbrev pub IsVerified : Tables → Type 0
IsVerified tables = AreSound tables.procs

-- the rule is broken at the address of the procedure, and none before it, by procedure, address and number of the rule
pub record IsFirstFault (procs : List Proc) (rule : Rule) (number : ℕ) (address : ℕ) : Type 0 where
  pub proc : Proc
  pub stands : slice_get procs number ≡ Some proc
  pub here : IsFirstOf proc.instrs rule address
  pub earlier : (number' : ℕ) (proc' : Proc) → number' < number → slice_get procs number' ≡ Some proc'
      → IsSound proc'.instrs
