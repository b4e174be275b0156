-- What the instructions of a unit are in linked code.
use Rattle.std.specs.Prelude.{ℕ, ℤ, suc, List, [], ◌∷◌, Option, Some, None, nat_eq, if◌then◌else◌}
use Rattle.std.specs.List.{flat_map}
use Rattle.icn_code.specs.declared.instr.Instr.{Instr}
use Rattle.icn_code.specs.declared.instr.Instr.TheVariants as I
use Rattle.icn_unit.specs.declared.unit.UnitInstr.{UnitInstr}
use Rattle.icn_unit.specs.declared.unit.UnitInstr.TheVariants as U
use Rattle.icn_unit.specs.UnitRules.{own_label}

-- the places of constants and fields in the tables, and what the names and the labels of a procedure stand for
pub record Scope : Type 0 where
  pub integer : ℤ → ℕ
  pub string : List ℕ → ℕ
  pub set : List ℕ → ℕ
  pub field : List ℕ → ℕ
  pub variable : ℕ → Instr
  pub label : ℕ → ℕ

-- the place of a label is no instruction
abbrev pub instr_in : Scope → UnitInstr → Option Instr
instr_in S U.Pnull = Some I.Pnull
instr_in S (U.Int n) = Some (I.Int (S.integer n))
instr_in S (U.Str bytes) = Some (I.Str (S.string bytes))
instr_in S (U.Cset members) = Some (I.Cset (S.set members))
instr_in S (U.Var k) = Some (S.variable k)
instr_in S (U.Keywd keyword) = Some (I.Keywd keyword)
instr_in S U.Pop = Some I.Pop
instr_in S U.Dup = Some I.Dup
instr_in S (U.Op op) = Some (I.Op op)
instr_in S (U.Llist n) = Some (I.Llist n)
instr_in S (U.Field name) = Some (I.Field (S.field name))
instr_in S (U.Invoke n) = Some (I.Invoke n)
instr_in S U.Appl = Some I.Appl
instr_in S (U.Mark label) = Some (I.Mark (S.label label))
instr_in S U.Mark0 = Some I.Mark0
instr_in S U.Unmark = Some I.Unmark
instr_in S U.Eret = Some I.Eret
instr_in S U.Esusp = Some I.Esusp
instr_in S U.Limit = Some I.Limit
instr_in S U.Lsusp = Some I.Lsusp
instr_in S U.Efail = Some I.Efail
instr_in S (U.Chfail label) = Some (I.Chfail (S.label label))
instr_in S (U.Goto label) = Some (I.Goto (S.label label))
instr_in S (U.Loop label) = Some (I.Loop (S.label label))
instr_in S U.Bscan = Some I.Bscan
instr_in S U.Escan = Some I.Escan
instr_in S U.Ccase = Some I.Ccase
instr_in S (U.Init label) = Some (I.Init (S.label label))
instr_in S U.Psusp = Some I.Psusp
instr_in S U.Pret = Some I.Pret
instr_in S U.Pfail = Some I.Pfail
instr_in S (U.Create label) = Some (I.Create (S.label label))
instr_in S U.Coact = Some I.Coact
instr_in S U.Coret = Some I.Coret
instr_in S U.Cofail = Some I.Cofail
instr_in S (U.Lab label) = None

-- the instruction, if there is one
abbrev pub instr_list : Option Instr → List Instr
instr_list None = []
instr_list (Some instr) = instr ∷ []

-- an instruction in linked code; the place of a label is none
abbrev pub resolved_one : Scope → UnitInstr → List Instr
resolved_one S instr = instr_list (instr_in S instr)

-- a procedure's instructions in linked code
abbrev pub resolve : Scope → List UnitInstr → List Instr
resolve S instrs = flat_map (resolved_one S) instrs

-- the address of a label: how many instructions stand before its place
abbrev pub label_address_by : ℕ → Option ℕ → ℕ → ℕ
label_address_by label None behind = suc behind
label_address_by label (Some other) behind = if nat_eq label other then 0 else behind

-- the instruction address of a label
abbrev pub label_address : ℕ → List UnitInstr → ℕ
label_address label [] = 0
label_address label (instr ∷ instrs) = label_address_by label (own_label instr) (label_address label instrs)
