-- What a program and the tables of its code have to do with one another, instruction by instruction.
use Rattle.std.specs.Prelude.{◌≡◌, ℕ, suc, ◌+◌, Bool, false, List, Option, Some, None, slice_get}
use Rattle.icn_text.specs.declared.op.Op.{Op}
use Rattle.icn_defs.specs.Arities.{arity}
use Rattle.icn_code.specs.declared.instr.Instr.{Instr}
use Rattle.icn_code.specs.declared.instr.Instr.TheVariants as I
use Rattle.icn_code.specs.Codes.{Tables}
use Rattle.icn_value.specs.Values.{Null, Integer, Text, Chars, Item, Val, Var, Whole, Global, Static, Local}
use Rattle.icn_meaning.specs.Program.{Program, index_of}
use Rattle.icn_meaning.specs.Contexts.{Application, Operating, Calling, Spreading, Collecting, Taking, Activating}
use Rattle.icn_meaning.specs.Calls.{fields_in}
use Rattle.icn_run.specs.Step.{instrs_of, statics_before, members_of, field_index}

-- a program, the tables of its code, and at which places of each procedure marks are opened that have a flag
pub record Linkage : Type 0 where
  pub program : Program
  pub tables : Tables
  pub repeats : ℕ → ℕ → Bool

-- in the code of the procedure j the instruction i stands at the place p
abbrev pub Here : Linkage → ℕ → ℕ → Instr → Type 0
Here L j p i = slice_get (instrs_of L.tables j) p ≡ Some i

-- the instruction pushes the item
pub data Loads (L : Linkage) (j : ℕ) : Instr → Item → Type 0 where
  l_null : Loads L j I.Pnull (Val Null)
  l_integer : {k : ℕ} {n : _} → slice_get L.tables.integers k ≡ Some n → Loads L j (I.Int k) (Val (Integer n))
  l_string : {k : ℕ} {bytes : List ℕ} → slice_get L.tables.strings k ≡ Some bytes
      → Loads L j (I.Str k) (Val (Text bytes))
  l_cset : {k : ℕ} {set : _} → slice_get L.tables.csets k ≡ Some set
      → Loads L j (I.Cset k) (Val (Chars (members_of set)))
  l_local : {k : ℕ} → Loads L j (I.Local k) (Var (Whole (Local k)))
  l_static : {k : ℕ} → Loads L j (I.Static k) (Var (Whole (Static (statics_before L.tables j + k))))
  l_global : {k : ℕ} → Loads L j (I.Global k) (Var (Whole (Global k)))

-- the instruction applies the form to so many operands
pub data IsAppliedBy (L : Linkage) : Application → ℕ → Instr → Type 0 where
  f_operation : {o : Op} → IsAppliedBy L (Operating o) (arity o) (I.Op o)
  f_call : {n : ℕ} → IsAppliedBy L Calling (suc n) (I.Invoke n)
  f_spread : IsAppliedBy L Spreading 2 I.Appl
  f_list : {n : ℕ} → IsAppliedBy L Collecting n (I.Llist n)
  f_field : {name : List ℕ} {k : ℕ}
      → ((kind : ℕ) → index_of name (fields_in (slice_get L.program.kinds kind)) ≡ field_index L.tables k
      kind) → IsAppliedBy L (Taking name) 1 (I.Field k)
  f_activate : IsAppliedBy L Activating 2 I.Coact

-- the instruction at p opens a mark with this label and without a flag
pub data Opens (L : Linkage) (j : ℕ) : ℕ → Option ℕ → Type 0 where
  o_mark : {p l : ℕ} → Here L j p (I.Mark l) → L.repeats j p ≡ false → Opens L j p (Some l)
  o_mark0 : {p : ℕ} → Here L j p I.Mark0 → L.repeats j p ≡ false → Opens L j p None
