-- What the codes of the tests have, so that their procedures keep the rules of tables.
use Rattle.std.specs.Prelude.{◌≡◌, ℕ, ◌≤◌, Bool, true, false, nat_le, nat_lt, List, length, Some, slice_get}
use Rattle.icn_code.specs.declared.instr.Instr.{Instr}
use Rattle.icn_code.specs.declared.instr.Instr.TheVariants.{Int, Str, Cset, Local, Static, Global, Llist, Field, Invoke, Mark, Chfail, Goto, Loop, Init, Create}
use Rattle.icn_code.specs.Codes.{Proc, Tables}
use Rattle.icn_code.specs.Rules.{is_proc}

-- an instruction names one of three strings or two globals, the one integer or field, a label among so many places, or at most 65535 operands
abbrev pub is_known : ℕ → Instr → Bool
is_known count (Int place) = nat_lt place 1
is_known count (Str place) = nat_lt place 3
is_known count (Cset place) = false
is_known count (Local place) = false
is_known count (Static place) = false
is_known count (Global place) = nat_lt place 2
is_known count (Llist operands) = nat_le operands 65535
is_known count (Field place) = nat_lt place 1
is_known count (Invoke operands) = nat_le operands 65535
is_known count (Mark label) = nat_le label count
is_known count (Chfail label) = nat_le label count
is_known count (Goto label) = nat_le label count
is_known count (Loop label) = nat_le label count
is_known count (Init label) = nat_le label count
is_known count (Create label) = nat_le label count
is_known count _ = true

-- tables of so many entries
pub record AreSized (tables : Tables) : Type 0 where
  pub strings : length tables.strings ≡ 3
  pub integers : length tables.integers ≡ 1
  pub fields : length tables.fields ≡ 1
  pub globals : length tables.globals ≡ 2

-- a procedure that such tables may have
pub record IsKnown (proc : Proc) : Type 0 where
  pub is : (tables : Tables) → AreSized tables → is_proc tables proc ≡ true

-- at most 65535 procedures, each such as the tables of the tests may have
pub record AreKnown (procs : List Proc) : Type 0 where
  pub few : length procs ≤ 65535
  pub each : (number : ℕ) (proc : Proc) → slice_get procs number ≡ Some proc → IsKnown proc
