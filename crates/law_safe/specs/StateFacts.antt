-- What stands at each state that a run of verified code comes to, in the words of its shapes.
use Rattle.std.specs.Prelude.{◌≡◌, ◌≢◌, ◌⊎◌, ℕ, suc, ◌≤◌, true, false, is_some, List, length, Option, Some, None, slice_get, refl}
use Rattle.icn_code.specs.declared.instr.Instr.{Instr}
use Rattle.icn_code.specs.Codes.{Tables, Proc as Procedure}
use Rattle.icn_verify.specs.Shapes.{PlainShape}
use Rattle.icn_verify.specs.Given.{IsFine, HasShapes, HaveShapes}
use Rattle.icn_run.specs.Rows.{Item}
use Rattle.icn_run.specs.Stacks.{Frames, flat}
use Rattle.icn_run.specs.Chains.{Chain, chain, Outer, base, call, mark, limit, WaitingChain, LinkedStack, linked_calls, outer_of, scans_of}
use Rattle.icn_run.specs.Step.{Launch, Store, running, stuck, instrs_of, instruction_at, instruction, is_create_body}
use Rattle.icn_run.specs.FlatStep as Flat
use Rattle.icn_run.specs.LinkedStep as Marks
use Rattle.icn_run.specs.LinkedStep.{repeats_anywhere}
use Rattle.icn_run.specs.Calls.{Calls}
use Rattle.law_stacks.specs.SameStates.{mark_of}
use Rattle.law_safe.specs.Shaped.{local_count}

-- the operands of the innermost mark
abbrev pub operands_of : Chain → List Item
operands_of (chain operands suspensions scans outer) = operands

-- how many marks are open in the procedure that runs
abbrev pub mark_count : Outer → ℕ
mark_count (base proc activation) = 0
mark_count (call proc activation level address caller) = 0
mark_count (mark label (chain operands suspensions scans outer)) = suc (mark_count outer)
mark_count (limit count (chain operands suspensions scans outer)) = suc (mark_count outer)

-- the machine on linked marks
abbrev pub marks : Calls WaitingChain LinkedStack
marks = linked_calls repeats_anywhere

-- The stack has the shape of the address: as many operands and marks, its open scans, and a create body where the shape says so. The instruction there finds
-- what it takes and asks for, each address to which it leads has its shape, and the procedure has all its locals.
pub record IsShapedAt (tables : Tables) (shapes : ℕ → ℕ → Option PlainShape) (m : LinkedStack)
    (st : Store WaitingChain) : Type 0 where
  pub shape : PlainShape
  pub here : shapes (marks.proc m) m.address ≡ Some shape
  pub fine : IsFine (instrs_of tables (marks.proc m)) (shapes (marks.proc m)) m.address shape
  pub operands : length (operands_of m.chain) ≡ shape.inner.operands
  pub open_marks : mark_count (outer_of m.chain) ≡ length shape.outer
  pub scans : shape.inner.scans ≤ length (scans_of m.chain)
  pub in_create : is_create_body marks m st ≡ shape.in_create
  pub locals : length (marks.locals m) ≡ local_count tables (marks.proc m)

-- an instruction stands there, and it lacks nothing
pub record IsNotStuck {K M : Type 0} (C : Calls K M) (tables : Tables) (m : M) (st : Store K) : Type 0 where
  pub instr : Instr
  pub stands : instruction_at C tables m ≡ Some instr
  pub lacks_nothing : instruction C tables instr (C.go (suc (C.address m)) m) st ≢ stuck

-- The same of a flat stack, as far as its calls tell: the operands of its innermost mark, the procedure that runs, and its locals.
pub record IsFlatShapedAt (tables : Tables) (shapes : ℕ → ℕ → Option PlainShape) (m : Frames)
    (st : Store Frames) : Type 0 where
  pub shape : PlainShape
  pub here : shapes (flat.proc m) m.address ≡ Some shape
  pub fine : IsFine (instrs_of tables (flat.proc m)) (shapes (flat.proc m)) m.address shape
  pub operands : (n : ℕ) → n ≤ shape.inner.operands → is_some (flat.take n m) ≡ true
  pub no_more : is_some (flat.take (suc shape.inner.operands) m) ≡ false
  pub in_create : is_create_body flat m st ≡ shape.in_create
  pub locals : length (flat.locals m) ≡ local_count tables (flat.proc m)

-- a mark is due, as where failure came back to one
abbrev pub IsMarkDue : Tables → Frames → Type 0
IsMarkDue tables m = (label : Option ℕ) × (instruction_at flat tables m ≡ Some (mark_of label))

-- An instruction is due that lacks nothing. The stack has its shape; where a mark is due, nothing is said of it if failure came back to that mark.
pub record IsSafe (tables : Tables) (shapes : ℕ → ℕ → Option PlainShape) (m : Frames)
    (st : Store Frames) : Type 0 where
  pub goes_on : IsNotStuck flat tables m st
  pub shaped : IsFlatShapedAt tables shapes m st ⊎ IsMarkDue tables m

-- Of each state in which a run has an instruction due. Of those in which it fails nothing is said.
pub record AreShaped (tables : Tables) (shapes : ℕ → ℕ → Option PlainShape) : Type 0 where
  pub on_marks : (launch : Launch) (n : ℕ) (m : LinkedStack) (st : Store WaitingChain)
      → Marks.steps repeats_anywhere tables n (Marks.start repeats_anywhere tables launch) ≡ running m st
      → IsShapedAt tables shapes m st
  pub on_stacks : (launch : Launch) (n : ℕ) (m : Frames) (st : Store Frames)
      → Flat.steps tables n (Flat.start tables launch) ≡ running m st → IsSafe tables shapes m st

-- there are shapes that hold at each state of each run of the code
abbrev pub HasFacts : Tables → Type 0
HasFacts tables = (shapes : ℕ → ℕ → Option PlainShape) × AreShaped tables shapes

-- the shapes of a procedure by its number; where there is no such procedure, no address has one
abbrev pub shapes_by : (entry : Option Procedure)
    → ((proc : Procedure) → entry ≡ Some proc
    → (shapes : ℕ → Option PlainShape) × HasShapes proc.instrs shapes) → ℕ → Option PlainShape
shapes_by None given address = None
shapes_by (Some proc) given address = (given proc refl).0 address

-- the shapes of all procedures of a code that has them
abbrev pub shapes_of : (tables : Tables) → HaveShapes tables → ℕ → ℕ → Option PlainShape
shapes_of tables have number = shapes_by (slice_get tables.procs number) (have number)
